-- What a node is, by the fields of its record, and how many steps it has. Assumes nothing.
use Prim.Native.Nat.{ℕ, zero, suc, ◌+◌, ◌*◌, ◌≤◌, ◌<◌}
use mathlib.Core.Path.{◌≡◌, refl, sym, ap, ◌∙◌, subst}
use mathlib.Core.Bool.{Bool, true, false}
use mathlib.Core.List.{List, append-nil}
use native.Mathlib.Nat.{zero-mul, mul_comm}
use native.Mathlib.Omega.{arith}
use lib.Dec.{eqb, ltb}
use lib.IntN.{ℤ, nat_abs}
use lib.ListN.{length}
use Rattle.notation.specs.Basics.{pick}
use Rattle.notation.specs.Numbers.{from_bits}
use Rattle.notation.specs.Unroll.{is_niss}
use Rattle.notation.specs.Invert.{undo}
use Rattle.notation.specs.Tree.{Leaf, Node, leaf, block, group, binary_group, Tree}
use Rattle.notation.specs.Counts.{times, count_binary, count_node, count_body, count, stored}
use Rattle.notation.specs.Entries.{MAX-STEPS}
use Rattle.notation.specs.Packed.{group_number, binary_number, unpack}
use Rattle.notation.specs.declared.common.GroupKind.{GroupKind}
use Rattle.notation.specs.declared.common.GroupKind.TheVariants.{Simple, Macro, Simultaneous, Niss}
use Rattle.notation.specs.declared.common.BinaryGroupKind.{BinaryGroupKind}
use Rattle.notation.specs.declared.common.BinaryGroupKind.TheVariants.{Commutator, Conjugate}
use Rattle.record.specs.Meaning.{field, kind_at, NUMBER, COUNT}
use Rattle.record.proofs.KindTests.{no-leaf-low}
use Rattle.laws.specs.Unrolled.{flat_node, flat}
use Rattle.laws.proofs.Walking.{head-stored}
use Rattle.nodes.specs.Nodes.{IsNode, part, FirstNode, first_list, second_list}
use Rattle.nodes.proofs.Nodes.{alone, fields-of, front-field, first-low, kind-of, leaf-kind, multiplier-of, FirstLeaf}
use Rattle.expand.specs.Meaning.{binary_kind}
use Rattle.expand.specs.Steps.{IsGroup, body_of}

-- What a node is, by the kind and the multiplier in its record.
pub data Shape : ℕ → ℤ → Node Leaf → Type 0 where
  is_leaf : {k : ℕ} {m : ℤ} {x : Leaf} → 5 < k → Shape k m (leaf x)
  is_group : {k : ℕ} {m : ℤ} {g : GroupKind} {a : Tree} → k < 4 → eqb k 3 ≡ is_niss (group g a) → Shape k m (block (group g a) m)
  is_binary : {k : ℕ} {m : ℤ} {g : BinaryGroupKind} {a b : Tree} → 4 ≤ k → k < 6 → binary_kind (eqb k 4) ≡ g → Shape k m (block (binary_group g a b) m)

group-shape : (g : GroupKind) (a : Tree) (m : ℤ) (k : ℕ) → k ≡ group_number g → Shape k m (block (group g a) m)
group-shape Simple a m k e = let h : k < 4 = omega arith in let q : eqb k 3 ≡ false = rw e in is_group h q
group-shape Macro a m k e = let h : k < 4 = omega arith in let q : eqb k 3 ≡ false = rw e in is_group h q
group-shape Simultaneous a m k e = let h : k < 4 = omega arith in let q : eqb k 3 ≡ false = rw e in is_group h q
group-shape Niss a m k e = let h : k < 4 = omega arith in let q : eqb k 3 ≡ true = rw e in is_group h q

binary-shape : (g : BinaryGroupKind) (a b : Tree) (m : ℤ) (k : ℕ) → k ≡ binary_number g → Shape k m (block (binary_group g a b) m)
binary-shape Commutator a b m k e = let h : 4 ≤ k = omega arith in let h' : k < 6 = omega arith in let q : binary_kind (eqb k 4) ≡ Commutator = rw e in is_binary h h' q
binary-shape Conjugate a b m k e = let h : 4 ≤ k = omega arith in let h' : k < 6 = omega arith in let q : binary_kind (eqb k 4) ≡ Conjugate = rw e in is_binary h h' q

shapes : (n : Node Leaf) (bs : List ℕ) → IsNode bs n → Shape (kind_at bs) (from_bits 32 (field NUMBER bs)) n
shapes (leaf x) bs s = let h : 5 < kind_at bs = omega (arith, kind-of s, (leaf-kind x).0) in is_leaf h
shapes (block (group g a) m) bs s =
    subst (λ (z : ℤ). Shape (kind_at bs) z (block (group g a) m)) (multiplier-of (group g a) s) (group-shape g a m (kind_at bs) (kind-of s))
shapes (block (binary_group g a b) m) bs s =
    subst (λ (z : ℤ). Shape (kind_at bs) z (block (binary_group g a b) m)) (multiplier-of (binary_group g a b) s) (binary-shape g a b m (kind_at bs) (kind-of s))

pub shape_of : {n : Node Leaf} {bs : List ℕ} → IsNode bs n → Shape (kind_at bs) (from_bits 32 (field NUMBER bs)) n
shape_of {n} {bs} s = shapes n bs s

pub group_of : {bs : List ℕ} {e : ℕ} {r : Bool} → FirstNode bs e → r ≡ ltb 5 (kind_at bs) → r ≡ false → IsGroup (part 0 e bs)
group_of f q left = record { node = f.node; is_node = f.is_node; low = first-low f refl (no-leaf-low q left) }

pub at_least : (n c : ℕ) → 1 ≤ n → c ≤ n * c
at_least zero c h = absurd (omega arith)
at_least (suc n) c h = omega arith

positive-left : (n c k : ℕ) → k < n * c → 0 < n
positive-left zero c k h = absurd (omega (arith, zero-mul c))
positive-left (suc n) c k h = omega arith

pub positive-right : (n c k : ℕ) → k < n * c → 0 < c
positive-right n c k h = positive-left c n k (omega (arith, mul_comm n c))

pub both-within : (g : BinaryGroupKind) (a b : ℕ) → a + b ≤ count_binary g a b
both-within Commutator a b = omega arith
both-within Conjugate a b = omega arith

module _ {k : ℕ} {m : ℤ} {n : Node Leaf} (s : Shape k m n) (low : k ≤ 5) where
  pub block-is : n ≡ block (body_of n) m
  block-is = go n s
    where
      go : (n : Node Leaf) → Shape k m n → n ≡ block (body_of n) m
      go (leaf x) (is_leaf l) = absurd (omega arith)
      go (block (group g a) m) (is_group l q) = refl
      go (block (binary_group g a b) m) (is_binary l l' q) = refl

  -- one that has steps is no NISS group, and its multiplier is not 0
  module _ (some : 0 < count_node n) where
    pub times-are : times (body_of n) m ≡ nat_abs m
    unfolding count_node
    times-are = go (is_niss (body_of n)) (subst (λ (z : Node Leaf). 0 < count_node z) block-is some)
      where
        go : (niss : Bool) → 0 < pick niss 0 (nat_abs m) * count_body (body_of n) → pick niss 0 (nat_abs m) ≡ nat_abs m
        go true h = absurd (omega (arith, zero-mul (count_body (body_of n))))
        go false h = refl

    pub steps-are : count_node n ≡ nat_abs m * count_body (body_of n)
    unfolding count_node
    steps-are = ap count_node block-is ∙ ap (λ (j : ℕ). j * count_body (body_of n)) times-are

    pub repeats-some : 1 ≤ nat_abs m
    repeats-some = positive-left (nat_abs m) (count_body (body_of n)) 0 (omega (arith, steps-are))

-- a plain group has one list, a commutator or a conjugate two
pub group-body : {k : ℕ} {m : ℤ} {n : Node Leaf} → Shape k m n → k < 4 → (g : GroupKind) × (body_of n ≡ group g (first_list n))
group-body {k} {m} {n} s h = go n s
  where
    go : (n : Node Leaf) → Shape k m n → (g : GroupKind) × (body_of n ≡ group g (first_list n))
    go (leaf x) (is_leaf l) = absurd (omega arith)
    go (block (group g a) m) (is_group l q) = (g, refl)
    go (block (binary_group g a b) m) (is_binary l l' q) = absurd (omega arith)

pub binary-body : {k : ℕ} {m : ℤ} {n : Node Leaf} → Shape k m n → 4 ≤ k → k ≤ 5 → body_of n ≡ binary_group (binary_kind (eqb k 4)) (first_list n) (second_list n)
binary-body {k} {m} {n} s h low = go n s
  where
    go : (n : Node Leaf) → Shape k m n → body_of n ≡ binary_group (binary_kind (eqb k 4)) (first_list n) (second_list n)
    go (leaf x) (is_leaf l) = absurd (omega arith)
    go (block (group g a) m) (is_group l q) = absurd (omega arith)
    go (block (binary_group g a b) m) (is_binary l l' q) = rw q

-- The record stores the count of the node, capped.
pub first-stored : {bs : List ℕ} {e : ℕ} (f : FirstNode bs e) → field COUNT bs ≡ stored f.node
first-stored {bs} {e} f = sym (front-field bs e f.least 11) ∙ fields-of f.is_node 11 ∙ head-stored f.node

-- where a list has few steps that is the number itself
pub first_counted : {bs : List ℕ} {e : ℕ} (f : FirstNode bs e) → count (unpack bs) ≡ count_node f.node + count (unpack (part e (length bs) bs))
unfolding count
first_counted f = ap count f.unpacks

pub first-steps : {bs : List ℕ} {e steps : ℕ} (f : FirstNode bs e) → count (unpack bs) ≤ MAX-STEPS → steps ≡ field COUNT bs → steps ≡ count_node f.node
first-steps f h p = omega (arith, first-stored f, first_counted f)

-- a leaf is one step
pub leaf-steps : {t : List ℕ} (l : FirstLeaf t) → 1 ≡ count_node l.first.node
unfolding count_node
leaf-steps l = sym (ap count_node l.is_step)

-- a node's bytes have the steps of the node
pub one-count : {bs : List ℕ} {n : Node Leaf} → IsNode bs n → count (unpack bs) ≡ count_node n
unfolding count
one-count s = omega (arith, ap count (alone s))

-- and unroll into what the node does
pub one-flat : {bs : List ℕ} {n : Node Leaf} → IsNode bs n → flat undo false (unpack bs) ≡ flat_node undo false n
unfolding flat
one-flat {bs} {n} s = ap (flat undo false) (alone s) ∙ append-nil (flat_node undo false n)
