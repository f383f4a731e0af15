-- The rule of a list, step by step as the loop of `node_list` takes it. Assumes nothing.
use Prim.Native.Nat.{ℕ, zero, suc, ◌+◌, ◌<◌}
use mathlib.Core.Path.{◌≡◌, refl, ap}
use mathlib.Core.List.{List}
use native.Mathlib.Nat.{add-zero}
use borrow.Author.Tests.{lt-ltb}
use lib.ListN.{length, drop}
use lib.Seq.{drop-drop}
use Rattle.notation.specs.Chars.{white_space}
use Rattle.notation.specs.Utf8.{run}
use Rattle.notation.specs.Tree.{Leaf, Node, nil, cons, Tree, append}
use Rattle.notation.specs.Grammar.{Reading, rejected, read, Reader, done, and_then, ◌>>◌, whitespace, some_whitespace, collect, more_of, node, node_list, node_list_by}
use Rattle.notation.specs.declared.features.Features.{Features}

-- White space after a list.
abbrev trailing : Tree → Reader Tree
trailing l = do whitespace; done l

-- What is left of a list where a node may stand: the nodes, and the white space after them.
abbrev pub rest : Reader (Node Leaf) → ℕ → Reader Tree
rest item fuel at s = and_then (collect cons nil (item at s) (more_of cons nil item some_whitespace fuel) at s) trailing

-- a list is what is left after the white space before it
pub list-start : (f : Features) (k at next : ℕ) (text : List ℕ) → next ≡ at + run white_space (drop at text) →
    node_list f (suc k) at (drop at text) ≡ rest (node f (node_list f k)) (length (drop next text)) next (drop next text)
unfolding node_list_by
list-start f k at next text e =
    rw (e, ← drop-drop (run white_space (drop at text)) at text)

pub and_then-done : {A : Type 0} (r : Reading A) → and_then r (λ a. done a) ≡ r
and_then-done rejected = refl
and_then-done (read a at s) = refl

module _ (item : Reader (Node Leaf)) (at : ℕ) (s : List ℕ) where
  pub rest-none : (fuel : ℕ) → item at s ≡ rejected → run white_space s ≡ 0 → rest item fuel at s ≡ read nil at s
  rest-none fuel e w = rw (e, w, add-zero)

  module _ (n : Node Leaf) (after : ℕ) (s' : List ℕ) (e : item at s ≡ read n after s') where
    pub rest-last : (fuel : ℕ) → run white_space s' ≡ 0 → rest item fuel at s ≡ read (cons n nil) after s'
    unfolding more_of
    rest-last zero w = rw (e, w, add-zero)
    rest-last (suc fuel) w = rw (e, w, w, add-zero after)

    pub rest_more : (fuel : ℕ) → 0 < run white_space s' → run white_space (drop (run white_space s') s') ≡ 0 →
        rest item (suc fuel) at s ≡ and_then (rest item fuel (after + run white_space s') (drop (run white_space s') s')) (λ l. done (cons n l))
    unfolding more_of
    rest_more fuel h w = rw (e, lt-ltb 0 (run white_space s') h) (go (item (after + run white_space s') (drop (run white_space s') s')))
      where
        over : (n₂ : Node Leaf) (m : Reading Tree) →
            and_then (and_then (and_then m (λ l. done (cons n₂ l))) (λ l. done (cons n l))) trailing
            ≡ and_then (and_then (and_then m (λ l. done (cons n₂ l))) trailing) (λ l. done (cons n l))
        over n₂ rejected = refl
        over n₂ (read l a t) = refl

        go : (r : Reading (Node Leaf)) →
            and_then (and_then (collect cons nil r (λ a t. more_of cons nil item some_whitespace fuel a t) after s') (λ l. done (cons n l))) trailing
            ≡ and_then (and_then (collect cons nil r (more_of cons nil item some_whitespace fuel) (after + run white_space s') (drop (run white_space s') s')) trailing) (λ l. done (cons n l))
        go rejected = rw (w, add-zero)
        go (read n₂ a t) = over n₂ (more_of cons nil item some_whitespace fuel a t)

-- one more node at the end of those that were read
pub append-cons : (a : Tree) (n : Node Leaf) (l : Tree) → append a (cons n l) ≡ append (append a (cons n nil)) l
unfolding append
append-cons nil n l = refl
append-cons (cons m a) n l = ap (cons m) (append-cons a n l)

pub then_append : (a : Tree) (n : Node Leaf) (r : Reading Tree) →
    and_then (and_then r (λ l. done (cons n l))) (λ l. done (append a l)) ≡ and_then r (λ l. done (append (append a (cons n nil)) l))
then_append a n rejected = refl
then_append a n (read l at s) = ap (λ (t : Tree). read t at s) (append-cons a n l)
