-- The choices of a node, by the first byte: what groups and brackets add to the nodes that hold no list, and which rules reject where.
-- Assumes nothing.
use Prim.Native.Nat.{ℕ}
use Prim.Native.Char.{Char, code}
use mathlib.Core.Path.{◌≡◌, refl, sym, ap, ◌∙◌}
use mathlib.Core.Bool.{Bool, true, false}
use mathlib.Core.List.{List, [], ◌∷◌}
use borrow.Author.Tests.{eqb-true}
use lib.Dec.{eqb}
use lib.IntN.{ℤ, pos, neg_ℤ}
use Rattle.notation.specs.Utf8.{byte_at}
use Rattle.notation.specs.Tree as tree
use Rattle.notation.specs.Tree.{Node, leaf, Leaf, Tree}
use Rattle.notation.specs.Grammar.{Reading, rejected, read, Reader, and_then, or_else, done, fail, when, just, word, uint, prime, multiplier, rotation_node, move_node, group_kind, group_node, binary_group_node, megaminx_scramble_move, sq1_move, node, node_by}
use Rattle.notation.specs.declared.features.Features.{Features}
use Rattle.notation.specs.declared.common.MegaminxScrambleMove.{MegaminxScrambleMove}
use Rattle.parse.specs.Nodes.{nested}
use Rattle.parse.proofs.Readings.{never, or-none, when-none}

-- a character does not stand where another does, or nothing
pub just-no : (c : Char) (at : ℕ) (s : List ℕ) → eqb (byte_at s 0) (code c) ≡ false → just c at s ≡ rejected
unfolding just
just-no c at [] e = refl
just-no c at (b ∷ s) e = rw e

pub or_same : {A : Type 0} (r : Reading A) (p q : Reader A) (at : ℕ) (s : List ℕ) → p at s ≡ q at s → or_else r p at s ≡ or_else r q at s
or_same rejected p q at s e = e
or_same (read a i t) p q at s e = refl

-- a node that can be repeated, with its multiplier
abbrev pub times : Features → (ℤ → Node Leaf) → Reader (Node Leaf)
times f inner at s = and_then (multiplier f at s) (λ m. done (inner m))

-- the rules before and after a group or a bracket
abbrev pub pause : Reader (Node Leaf)
pause at s = and_then (just "." at s) (λ _. done (leaf tree.pause))

abbrev pub scramble : Features → Reader (Node Leaf)
scramble f at s = when f.megaminx (λ at s. and_then (megaminx_scramble_move at s) (λ k. done (leaf (tree.megaminx k)))) at s

abbrev pub sq1 : Features → Reader (Node Leaf)
sq1 f at s = when f.sq1 (λ at s. and_then (sq1_move at s) (λ x. done (leaf x))) at s

abbrev pub inner : Features → Reader Tree → Reader (ℤ → Node Leaf)
inner f list at s = or_else (rotation_node f at s) (λ at s. or_else (group_node list at s) (λ at s. or_else (binary_group_node list at s) (move_node f) at s) at s) at s

abbrev pub node_of : Features → Reader (ℤ → Node Leaf) → Reader (Node Leaf)
node_of f p at s = or_else (pause at s) (λ at s. or_else (scramble f at s) (λ at s. or_else (and_then (p at s) (times f)) (sq1 f) at s) at s) at s

pub node-by : (f : Features) (list : Reader Tree) (at : ℕ) (s : List ℕ) → node f list at s ≡ node_of f (inner f list) at s
unfolding node_by
node-by f list at s = refl

pub by-same : (f : Features) (p q : Reader (ℤ → Node Leaf)) (at : ℕ) (s : List ℕ) → p at s ≡ q at s → node_of f p at s ≡ node_of f q at s
by-same f p q at s e =
    or_same (pause at s) _ _ at s (or_same (scramble f at s) _ _ at s (ap (λ (r : Reading (ℤ → Node Leaf)). or_else (and_then r (times f)) (sq1 f) at s) e))

-- a list reader that always rejects
pub no-group : (at : ℕ) (s : List ℕ) → group_node fail at s ≡ rejected
unfolding group_node
no-group at s = go (group_kind at s)
  where
    opening : {A : Type 0} (r : Reading (Unit {0})) → and_then r (λ _. fail {A = A}) ≡ rejected
    opening rejected = refl
    opening (read u e t) = refl

    go : {K : Type 0} (r : Reading K) → and_then r (λ _ at s. and_then (just "(" at s) (λ _. fail {A = ℤ → Node Leaf})) ≡ rejected
    go rejected = refl
    go (read k e t) = opening (just "(" e t)

pub no-bracket : (at : ℕ) (s : List ℕ) → binary_group_node fail at s ≡ rejected
unfolding binary_group_node
no-bracket at s = go (just "[" at s)
  where
    go : (r : Reading (Unit {0})) → and_then r (λ _. fail {A = ℤ → Node Leaf}) ≡ rejected
    go rejected = refl
    go (read u e t) = refl

pub inner-fail : (f : Features) (at : ℕ) (s : List ℕ) → inner f fail at s ≡ or_else (rotation_node f at s) (move_node f) at s
inner-fail f at s = or_same (rotation_node f at s) _ _ at s (or-none _ _ at s (no-group at s) ∙ or-none _ _ at s (no-bracket at s))

inner-none : (f : Features) (list : Reader Tree) (at : ℕ) (s : List ℕ) → nested list at s ≡ rejected → inner f list at s ≡ inner f fail at s
inner-none f list at s e = or_same (rotation_node f at s) _ _ at s (go (group_node list at s) e ∙ sym (or-none _ _ at s (no-group at s) ∙ or-none _ _ at s (no-bracket at s)))
  where
    go : (r : Reading (ℤ → Node Leaf)) → or_else r (binary_group_node list) at s ≡ rejected → or_else r (λ at s. or_else (binary_group_node list at s) (move_node f) at s) at s ≡ move_node f at s
    go rejected q = or-none (binary_group_node list at s) (move_node f) at s q
    go (read i e t) q = never (sym q)

-- Where no group or bracket is read, the lists do not matter.
none-nested : (f : Features) (list : Reader Tree) (at : ℕ) (s : List ℕ) → nested list at s ≡ rejected → node f list at s ≡ node f fail at s
none-nested f list at s e = node-by f list at s ∙ by-same f (inner f list) (inner f fail) at s (inner-none f list at s e) ∙ sym (node-by f fail at s)

-- At a first byte that opens none, and at the end of the text.
module _ (list : Reader Tree) (at : ℕ) (s : List ℕ)
    (p₁ : eqb (byte_at s 0) 40 ≡ false) (p₂ : eqb (byte_at s 0) 33 ≡ false) (p₃ : eqb (byte_at s 0) 38 ≡ false) (p₄ : eqb (byte_at s 0) 94 ≡ false) (p₅ : eqb (byte_at s 0) 91 ≡ false) where
  pub nothing-nested : nested list at s ≡ rejected
  unfolding group_node binary_group_node
  nothing-nested = simp (just-no "!" at s p₂, just-no "&" at s p₃, just-no "^" at s p₄, just-no "(" at s p₁, just-no "[" at s p₅)

-- A group or a bracket starts at none of the bytes that the rules before it start at.
module _ (list : Reader Tree) (at : ℕ) where
  not_at : (k : ℕ) → ((u : List ℕ) → nested list at (k ∷ u) ≡ rejected) → (s : List ℕ) (i : ℤ → Node Leaf) (e : ℕ) (t : List ℕ) → nested list at s ≡ read i e t → eqb (byte_at s 0) k ≡ false
  unfolding group_node binary_group_node just
  not_at k h [] i e t q = never q
  not_at k h (b ∷ u) i e t q = go (eqb b k) refl
    where
      go : (x : Bool) → eqb b k ≡ x → x ≡ false
      go true w = never (sym (h u) ∙ rw (eqb-true b k w) at q)
      go false w = refl

  module _ (s : List ℕ) (i : ℤ → Node Leaf) (e : ℕ) (t : List ℕ) (q : nested list at s ≡ read i e t) where
    no-dot : eqb (byte_at s 0) 46 ≡ false
    unfolding group_node binary_group_node just
    no-dot = not_at 46 (λ u. refl) s i e t q

    no-r : eqb (byte_at s 0) 82 ≡ false
    unfolding group_node binary_group_node just
    no-r = not_at 82 (λ u. refl) s i e t q

    no-d : eqb (byte_at s 0) 68 ≡ false
    unfolding group_node binary_group_node just
    no-d = not_at 68 (λ u. refl) s i e t q

    no-at : eqb (byte_at s 0) 64 ≡ false
    unfolding group_node binary_group_node just
    no-at = not_at 64 (λ u. refl) s i e t q

-- which rules reject, by the first byte
module _ (f : Features) (at : ℕ) (s : List ℕ) where
  pub no-pause : eqb (byte_at s 0) 46 ≡ false → pause at s ≡ rejected
  no-pause e = rw (just-no "." at s e)

  pub scramble-none : eqb (byte_at s 0) 82 ≡ false → eqb (byte_at s 0) 68 ≡ false → megaminx_scramble_move at s ≡ rejected
  unfolding megaminx_scramble_move word
  scramble-none r d = simp (just-no "R" at s r, just-no "D" at s d)

  pub rotation-none : eqb (byte_at s 0) 64 ≡ false → rotation_node f at s ≡ rejected
  unfolding rotation_node
  rotation-none e = when-none f.generalized_rotations _ at s (rw (just-no "@" at s e))

  pub sq1-none : eqb (byte_at s 0) 47 ≡ false → eqb (byte_at s 0) 40 ≡ false → sq1_move at s ≡ rejected
  unfolding sq1_move
  sq1-none a b = simp (just-no "/" at s a, just-no "(" at s b)

-- a multiplier is always read
always : (f : Features) (inner : ℤ → Node Leaf) (at : ℕ) (s : List ℕ) (q p : Reader (Node Leaf)) (i : ℕ) (w : List ℕ) → or_else (times f inner at s) q i w ≡ or_else (times f inner at s) p i w
always f inner at s q p i w = go (uint 0 2147483647 at s)
  where
    signed : (n e : ℕ) (t : List ℕ) (r : Reading (Unit {0})) →
        or_else (and_then (or_else (and_then r (λ _. done (neg_ℤ (pos n)))) (done (pos n)) e t) (λ m. done (inner m))) q i w
        ≡ or_else (and_then (or_else (and_then r (λ _. done (neg_ℤ (pos n)))) (done (pos n)) e t) (λ m. done (inner m))) p i w
    signed n e t rejected = refl
    signed n e t (read u j v) = refl

    quoted : ℕ → Reader ℤ
    quoted n at s = or_else (and_then (prime f at s) (λ _. done (neg_ℤ (pos n)))) (done (pos n)) at s

    go : (r : Reading ℕ) →
        or_else (and_then (and_then (or_else r (done 1) at s) quoted) (λ m. done (inner m))) q i w ≡ or_else (and_then (and_then (or_else r (done 1) at s) quoted) (λ m. done (inner m))) p i w
    go rejected = signed 1 at s (prime f at s)
    go (read n e t) = signed n e t (prime f e t)

-- A node is a group or a bracket with its multiplier, if one is read, or else a node that holds no list.
pub node-choice : (f : Features) (list : Reader Tree) (at : ℕ) (s : List ℕ) → node f list at s ≡ or_else (and_then (nested list at s) (times f)) (node f fail) at s
node-choice f list at s = go (nested list at s) refl
  where
    go : (r : Reading (ℤ → Node Leaf)) → nested list at s ≡ r → node f list at s ≡ or_else (and_then r (times f)) (node f fail) at s
    go rejected e = none-nested f list at s e
    go (read i e t) q =
        node-by f list at s
        ∙ or-none (pause at s) _ at s (no-pause f at s (no-dot list at s i e t q))
        ∙ or-none (scramble f at s) _ at s (when-none f.megaminx _ at s (ap (λ (r : Reading MegaminxScrambleMove). and_then r (λ k. done (leaf (tree.megaminx k)))) (scramble-none f at s (no-r list at s i e t q) (no-d list at s i e t q))))
        ∙ ap (λ (r : Reading (ℤ → Node Leaf)). or_else (and_then r (times f)) (sq1 f) at s)
        (or-none (rotation_node f at s) _ at s (rotation-none f at s (no-at list at s i e t q)) ∙ first (group_node list at s) q)
        ∙ always f i e t (sq1 f) (node f fail) at s
      where
        first : (r : Reading (ℤ → Node Leaf)) → or_else r (binary_group_node list) at s ≡ read i e t → or_else r (λ at s. or_else (binary_group_node list at s) (move_node f) at s) at s ≡ read i e t
        first rejected w = rw w
        first (read j e' t') w = w
