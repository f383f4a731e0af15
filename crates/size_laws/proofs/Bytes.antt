-- The bytes that a tree is read from at least, by what its nodes say and with one between two nodes; none counted twice. Signs do not count, so that
-- a step undone takes as many. Reading finds no more of them than the text has, and both inverses keep them. Assumes nothing.
use Prim.Native.Nat.{ℕ, zero, suc, ◌+◌, ◌-◌, ◌≤◌, min, max}
use mathlib.Core.Path.{◌≡◌, refl}
use mathlib.Core.Bool.{Bool, true, false}
use mathlib.Core.List.{List}
use mathlib.Core.Option.{some}
use native.Mathlib.Omega.{arith}
use borrow.Author.Tests.{leb-true, leb-false}
use lib.Dec.{leb, eqb}
use lib.IntN.{ℤ, nat_abs}
use lib.ListN.{length}
use Rattle.notation.specs.Basics.{pick}
use Rattle.notation.specs.Chars.{is_family_char}
use Rattle.notation.specs.Utf8.{run}
use Rattle.notation.specs.Tree.{
  Span,
  span,
  Layers,
  no_layers,
  single_layer,
  layer_range,
  layer_set,
  Leaf,
  rotation,
  move,
  pause,
  pair,
  slash,
  megaminx,
  Node,
  leaf,
  block,
  Body,
  group,
  binary_group,
  nil,
  cons,
  append,
  Tree,
}
use Rattle.notation.specs.Packed.{family_at, nowhere, or_nowhere, bit}
use Rattle.notation.specs.Grammar.{
  Reader,
  done,
  when,
  spanned,
  some_whitespace,
  i32,
  layer,
  MAX-I32,
  family,
  constraint_set,
  layer_prefix_contents,
  constraints,
  rotation_node,
  tilde,
  move_node,
  group_kind,
  group_node,
  binary_group_kind,
  binary_group_node,
  repeatable_node_by,
  prime,
  megaminx_scramble_move,
  sq1_move,
  node,
  node_list,
  notation,
  node_by,
  node_list_by,
  notation_by,
}
use Rattle.notation.specs.Invert.{undo}
use Rattle.notation.specs.declared.features.Features.{Features}
use Rattle.notation.specs.declared.common.GroupKind.{GroupKind}
use Rattle.notation.specs.declared.common.GroupKind.TheVariants.{Simple, Macro, Simultaneous, Niss}
use Rattle.notation.specs.declared.common.BinaryGroupKind.TheVariants.{Commutator, Conjugate}
use Rattle.laws.specs.Inverted.{inverted, inverted_node, deeply_node, deeply_body, deeply}
use Rattle.laws.proofs.Readers.{
  Place,
  Yields,
  pick-read,
  took-front,
  took-is,
  weaken,
  yields-done,
  yields-fail,
  yields-bind,
  yields-or,
  yields-when,
  yields-just,
  yields-some_whitespace,
  yields-padded,
  yields-spanned,
  yields-counted,
  run-le,
}
use Rattle.numbers.proofs.TwosComplement.{nat_abs-neg}
use Rattle.size_laws.proofs.Digits.{digits, repeats, Number, signed-least, yields-uint, yields-sint, yields-multiplier}
use Rattle.size_laws.proofs.Sets.{whole, yields-word, yields-constraint_set, yields-layer_set}

abbrev pub layer_bytes : Layers Span → ℕ
layer_bytes no_layers = 0
layer_bytes (single_layer i) = digits i
layer_bytes (layer_range i j) = digits i + (1 + digits j)
layer_bytes (layer_set p) = p.size

unfoldable pub leaf_bytes : Leaf → ℕ
leaf_bytes (rotation f c m) = 1 + (f.size + ((or_nowhere c).size + repeats (nat_abs m)))
leaf_bytes (move t l f c m) = bit t + (layer_bytes l + (f.size + ((or_nowhere c).size + repeats (nat_abs m))))
leaf_bytes pause = 1
leaf_bytes (pair u d) = 3 + (digits (nat_abs u) + digits (nat_abs d))
leaf_bytes slash = 1
leaf_bytes (megaminx k) = 3

abbrev pub prefix_bytes : GroupKind → ℕ
prefix_bytes Simple = 0
prefix_bytes Macro = 1
prefix_bytes Simultaneous = 1
prefix_bytes Niss = 1

pub prefix-most : (k : GroupKind) → prefix_bytes k ≤ 1
prefix-most Simple = omega arith
prefix-most Macro = omega arith
prefix-most Simultaneous = omega arith
prefix-most Niss = omega arith

unfoldable mutual
  pub node_bytes : Node Leaf → ℕ
  node_bytes (leaf x) = leaf_bytes x
  node_bytes (block b m) = body_bytes b + repeats (nat_abs m)

  pub body_bytes : Body Leaf → ℕ
  body_bytes (group k a) = prefix_bytes k + (2 + (spaced a - 1))
  body_bytes (binary_group k a b) = 3 + ((spaced a - 1) + (spaced b - 1))

  -- each node with one byte of white space beside it
  pub spaced : Tree → ℕ
  spaced nil = 0
  spaced (cons n l) = 1 + node_bytes n + spaced l

-- a list, with none beside the first
abbrev pub bytes : Tree → ℕ
bytes t = spaced t - 1

-- Undoing and both inverses keep them.
pub undo-bytes : (x : Leaf) → leaf_bytes (undo x) ≡ leaf_bytes x
unfolding leaf_bytes
undo-bytes (rotation f c m) = rw (nat_abs-neg m)
undo-bytes (move t l f c m) = rw (nat_abs-neg m)
undo-bytes pause = refl
undo-bytes (pair u d) = rw (nat_abs-neg u, nat_abs-neg d)
undo-bytes slash = refl
undo-bytes (megaminx k) = refl

node-inverted : (n : Node Leaf) → node_bytes (inverted_node n) ≡ node_bytes n
unfolding node_bytes
node-inverted (leaf x) = undo-bytes x
node-inverted (block b m) = rw (nat_abs-neg m)

spaced-append : (a b : Tree) → spaced (append a b) ≡ spaced a + spaced b
unfolding append spaced
spaced-append nil b = omega arith
spaced-append (cons n a) b = omega (arith, spaced-append a b)

-- a list with one node more
spaced-last : (l : Tree) (n : Node Leaf) → spaced (append l (cons n nil)) ≡ 1 + node_bytes n + spaced l
unfolding spaced
spaced-last l n = omega (arith, spaced-append l (cons n nil))

inverted-spaced : (t : Tree) → spaced (inverted t) ≡ spaced t
unfolding inverted spaced
inverted-spaced nil = refl
inverted-spaced (cons n l) = omega (arith, spaced-last (inverted l) (inverted_node n), node-inverted n, inverted-spaced l)

pub inverted-bytes : (t : Tree) → bytes (inverted t) ≡ bytes t
inverted-bytes t = omega (arith, inverted-spaced t)

mutual
  unfolding deeply_node deeply_body deeply node_bytes body_bytes spaced

  deeply_node-bytes : (n : Node Leaf) → node_bytes (deeply_node n) ≡ node_bytes n
  deeply_node-bytes (leaf x) = undo-bytes x
  deeply_node-bytes (block b m) = omega (arith, deeply_body-bytes b)

  deeply_body-bytes : (b : Body Leaf) → body_bytes (deeply_body b) ≡ body_bytes b
  deeply_body-bytes (group k a) = omega (arith, deeply-spaced a)
  deeply_body-bytes (binary_group Commutator a b) = omega arith
  deeply_body-bytes (binary_group Conjugate a b) = omega (arith, deeply-spaced b)

  deeply-spaced : (t : Tree) → spaced (deeply t) ≡ spaced t
  deeply-spaced nil = refl
  deeply-spaced (cons n l) = omega (arith, spaced-last (deeply l) (deeply_node n), deeply_node-bytes n, deeply-spaced l)

pub deeply-bytes : (t : Tree) → bytes (deeply t) ≡ bytes t
deeply-bytes t = omega (arith, deeply-spaced t)

-- Reading, rule by rule.
low-high : (i j : ℕ) → layer_bytes (layer_range (min i j) (max i j)) ≡ digits i + (1 + digits j)
low-high i j = go (leb i j) refl
  where
    go : (t : Bool) → leb i j ≡ t → digits (min i j) + (1 + digits (max i j)) ≡ digits i + (1 + digits j)
    go true e =
        let h = leb-true i j e in
        let p : min i j ≡ i = omega arith in
        let q : max i j ≡ j = omega arith in
        rw (p, q)
    go false e =
        let h = leb-false i j e in
        let p : min i j ≡ j = omega arith in
        let q : max i j ≡ i = omega arith in
        rw (p, q) (omega arith)

family-bytes : (at n : ℕ) → (family_at at n).size ≤ n
family-bytes at n = go (eqb n 0)
  where
    go : (t : Bool) → (pick {A = Span} t nowhere (span at n)).size ≤ n
    go true = omega arith
    go false = omega arith

-- a node that waits for its multiplier
abbrev Waiting : (ℤ → Node Leaf) → ℕ → Type 0
Waiting x n = (m : ℤ) → node_bytes (x m) ≤ n + repeats (nat_abs m)

module _ {c : Place} where
  yields-layer : Yields c layer Number
  yields-layer = yields-uint 1 32767

  yields-layers : (f : Features) → Yields c (layer_prefix_contents f) (λ l n. layer_bytes l ≤ n)
  unfolding layer_prefix_contents
  yields-layers f =
      yields-or
      (yields-when f.layers.layer_sets λ _.
      yields-bind (yields-spanned (yields-layer_set f.layers.hsc1_layer_ranges)) λ p n i. yields-done (omega arith))
      (yields-or
      (yields-bind yields-layer λ i n p. yields-bind (yields-just "-") λ _ k h.
      yields-bind yields-layer λ j m q. yields-done (omega (arith, low-high i j)))
      (yields-or (yields-bind yields-layer λ i n p. yields-done (omega arith)) (yields-done (omega arith))))

  yields-family : (at_least : ℕ) → Yields c (family at_least) (λ p n. p.size ≤ n)
  yields-family at_least = record {
    took = λ at s h a at' s' e.
        let n = run is_family_char s in
        let k = pick-read (leb at_least n) e in
        took-is k.1 k.2 k.3 (took-front at n s (run-le is_family_char 0 s) (family-bytes at n));
  }

  yields-constraints : (f : Features) → Yields c (constraints f) (λ p n. (or_nowhere p).size ≤ n)
  yields-constraints f =
      yields-or
      (yields-bind {p = when f.transform_constraints (spanned constraint_set)} {f = λ p. done (some p)} {Q = λ p n. p.size ≡ n}
      (yields-when f.transform_constraints λ _. yields-spanned yields-constraint_set) λ p n h. yields-done (omega arith))
      (yields-done (omega arith))

  yields-tilde : (f : Features) → Yields c (tilde f) (λ t n. bit t ≤ n)
  yields-tilde f =
      yields-or (yields-when f.layers.inverted_layers λ _. yields-bind (yields-just "~") λ _ n i. yields-done (omega arith))
      (yields-done (omega arith))

  yields-rotation : (f : Features) → Yields c (rotation_node f) Waiting
  unfolding rotation_node node_bytes leaf_bytes
  yields-rotation f =
      yields-when f.generalized_rotations λ _.
      yields-bind (yields-just "@") λ _ n i. yields-bind (yields-family 0) λ a k g. yields-bind (yields-constraints f) λ c j h.
      yields-done (λ m. omega arith)

  yields_move : (f : Features) → Yields c (move_node f) Waiting
  unfolding move_node node_bytes leaf_bytes
  yields_move f =
      yields-bind (yields-tilde f) λ t n p. yields-bind (yields-layers f) λ l m u.
      yields-bind (yields-family 1) λ a k g. yields-bind (yields-constraints f) λ c j h.
      yields-done (λ m. omega arith)

  yields-kind : Yields c group_kind (λ k n. prefix_bytes k ≤ n)
  yields-kind =
      yields-or (yields-bind (yields-just "!") λ _ n i. yields-done (omega arith))
      (yields-or (yields-bind (yields-just "&") λ _ n i. yields-done (omega arith))
      (yields-or (yields-bind (yields-just "^") λ _ n i. yields-done (omega arith)) (yields-done (omega arith))))

  yields-binary_kind : Yields c binary_group_kind (λ k n. n ≡ 1)
  yields-binary_kind =
      yields-or (yields-bind (yields-just ",") λ _ n i. yields-done (omega arith))
      (yields-bind (yields-just ":") λ _ n i. yields-done (omega arith))

  yields-megaminx : Yields c megaminx_scramble_move (λ k n. 3 ≤ n)
  unfolding megaminx_scramble_move
  yields-megaminx =
      yields-or (yields-bind (yields-word "R++") λ _ n h. yields-done (omega arith))
      (yields-or (yields-bind (yields-word "R--") λ _ n h. yields-done (omega arith))
      (yields-or (yields-bind (yields-word "D++") λ _ n h. yields-done (omega arith))
      (yields-bind (yields-word "D--") λ _ n h. yields-done (omega arith))))

  yields-i32 : Yields c i32 (λ z n. digits (nat_abs z) ≤ n)
  yields-i32 = weaken (yields-sint 0 MAX-I32 2147483648) (λ z n h. omega (arith, signed-least z))

  yields-sq1 : Yields c sq1_move (λ x n. leaf_bytes x ≤ n)
  unfolding sq1_move leaf_bytes
  yields-sq1 =
      yields-or (yields-bind (yields-just "/") λ _ n i. yields-done (omega arith))
      (yields-bind (yields-just "(") λ _ n i.
      yields-bind (yields-padded (λ z n m h q. omega arith) yields-i32) λ u m p.
      yields-bind (yields-just ",") λ _ k i₁.
      yields-bind (yields-padded (λ z n m h q. omega arith) yields-i32) λ d j q.
      yields-bind (yields-just ")") λ _ l i₂.
      yields-done (omega arith))

  module _ (f : Features) (list : Reader Tree) (lists : Yields c list (λ t n. bytes t ≤ n)) where
    yields-group : Yields c (group_node list) Waiting
    unfolding group_node node_bytes body_bytes
    yields-group =
        yields-bind yields-kind λ k n p. yields-bind (yields-just "(") λ _ m i. yields-bind lists λ a j g. yields-bind (yields-just ")") λ _ l i₁.
        yields-done (λ m. omega arith)

    yields-binary : Yields c (binary_group_node list) Waiting
    unfolding binary_group_node node_bytes body_bytes
    yields-binary =
        yields-bind (yields-just "[") λ _ m i. yields-bind lists λ a j g. yields-bind yields-binary_kind λ k n i₁.
        yields-bind lists λ b j' g'. yields-bind (yields-just "]") λ _ l i₂.
        yields-done (λ m. omega arith)

    yields-repeatable : Yields c (repeatable_node_by (prime f) f list) (λ x n. node_bytes x ≤ n)
    yields-repeatable =
        yields-bind {Q = Waiting} (yields-or (yields-rotation f) (yields-or yields-group (yields-or yields-binary (yields_move f)))) λ x n w.
        yields-bind (yields-multiplier f) λ m k e. yields-done (omega (arith, w m))

    yields-node : Yields c (node f list) (λ x n. node_bytes x ≤ n)
    unfolding node_by node_bytes leaf_bytes
    yields-node =
        yields-or (yields-bind (yields-just ".") λ _ n i. yields-done (omega arith))
        (yields-or (yields-when f.megaminx λ _. yields-bind yields-megaminx λ k n h. yields-done (omega arith))
        (yields-or yields-repeatable
        (yields-when f.sq1 λ _. yields-bind yields-sq1 λ x n g. yields-done (omega arith))))

  yields-list : (f : Features) (k : ℕ) → Yields c (node_list f k) (λ t n. bytes t ≤ n)
  unfolding node_list_by spaced
  yields-list f zero = yields-fail
  yields-list f (suc k) =
      let nodes = yields-node f (node_list f k) (yields-list f k) in
      yields-padded (λ t n m h q. omega arith)
      (yields-counted cons nil some_whitespace {P' = λ x n. 1 + node_bytes x ≤ n} (λ t n. spaced t ≤ n) (λ t n. bytes t ≤ n) (omega arith) (omega arith)
      (λ x l n m p q. omega arith) (λ x l n m p q. omega arith)
      nodes (yields-bind yields-some_whitespace λ _ n i. weaken nodes (λ x m h. omega arith)))

pub reading-bytes : (f : Features) (text : List ℕ) (t : Tree) → notation f text ≡ some t → bytes t ≤ length text
unfolding notation_by
reading-bytes f text t e = whole text (yields-list f (suc (length text))) e
