-- A record with a tally in place of its count: its fields, and the record with the count. Assumes nothing.
use Prim.Native.Nat.{ℕ, zero, suc, ◌+◌, ◌/◌, ◌%◌, ◌^◌, ◌<◌}
use mathlib.Core.Path.{◌≡◌, sym, ap, ◌∙◌}
use mathlib.Core.Bool.{true, false}
use mathlib.Core.List.{List, [], append-nil}
use native.Mathlib.Omega.{arith}
use borrow.Author.Tests.{lt-ltb, le-ltb}
use lib.Dec.{lit<, ltb}
use lib.IntN.{ℤ}
use lib.ListN.{get_or, set, length-set}
use lib.Seq.{take_all, set-set, set-get_or, get_or-set_same, get_or-set_other}
use Rattle.notation.specs.Numbers.{from_bits}
use Rattle.notation.specs.Tree.{Leaf, Node, leaf, block, Body, group, binary_group}
use Rattle.notation.specs.Packed.{RECORD, widths, lay_out, cut, Head, leaf_head, head_fields, body_head, head_record, group_number, binary_number, node_head}
use Rattle.notation.specs.Counts.{cap, count_node, count, stored}
use Rattle.counts.specs.Groups.{group_count}
use Rattle.counts.proofs.Capped.{group-stored, binary-stored}
use Rattle.numbers.proofs.TwosComplement.{from_bits-to_bits}
use Rattle.laws.proofs.Walking.{head-stored}
use Rattle.nodes.proofs.Nodes.{leaf-kind, group-kind, binary-kind}
use Rattle.record.specs.Meaning.{field, with_field, NUMBER, COUNT, kind_at}
use Rattle.record.specs.Range.{FitsHead}
use Rattle.record.proofs.Cut.{Fits, none as no_field, one as and-field, cut-lay_out}
use Rattle.record.proofs.Numbered.{kind_of, kind-field}
use Rattle.record.proofs.RoundTrip.{length-head_fields, head_fields-fit}
use Rattle.record.proofs.Storing.{store-field}
use Rattle.tally.specs.Tallies.{tally_record, tally_at, own_count, freed}
use Rattle.tally.proofs.Sizes.{length-tally_record}

fits-set : {ws fs : List ℕ} → Fits ws fs → (i n : ℕ) → n < 256 ^ get_or ws i 0 → Fits ws (set fs i n)
fits-set no_field i n h = no_field
fits-set (and-field f fs) zero n h = and-field h fs
fits-set (and-field f fs) (suc i) n h = and-field f (fits-set fs i n h)

module _ (h : ℕ) (x : Head) (small : h < 256) (fits : FitsHead x) where
  fields : (i : ℕ) → field i (tally_record h x) ≡ get_or (set (head_fields x) COUNT (h % 256)) i 0
  fields i =
      ap (λ (l : List ℕ). get_or (cut widths l) i 0) (take_all RECORD (tally_record h x) (omega (arith, length-tally_record h x)) ∙ sym (append-nil (tally_record h x)))
      ∙ ap (λ (l : List ℕ). get_or l i 0) (cut-lay_out [] (fits-set (head_fields-fit x fits) COUNT (h % 256) (omega arith)))

  pub tally-is : tally_at (tally_record h x) ≡ h
  tally-is = ap (λ (n : ℕ). n % 256) (fields 11 ∙ get_or-set_same (head_fields x) 11 (h % 256) 0 (omega (arith, length-head_fields x))) ∙ omega arith

  pub kind-is : kind_at (tally_record h x) ≡ kind_of x
  kind-is = ap (λ (n : ℕ). n / 16) (fields 0 ∙ get_or-set_other (head_fields x) 11 0 (h % 256) 0 (λ e. omega arith)) ∙ kind-field x

  pub number_is : field NUMBER (tally_record h x) ≡ get_or (head_fields x) NUMBER 0
  number_is = fields 3 ∙ get_or-set_other (head_fields x) 11 3 (h % 256) 0 (λ e. omega arith)

-- The counts of a group's lists; one that is no binary group has one list.
abbrev pub first_count : Body Leaf → ℕ
first_count (group k a) = count a
first_count (binary_group k a b) = count a

abbrev pub second_count : Body Leaf → ℕ
second_count (group k a) = 0
second_count (binary_group k a b) = count b

body-kind : (b : Body Leaf) (m : ℤ) → kind_of (body_head b m) < 6
body-kind (group k a) m = omega (arith, group-kind k)
body-kind (binary_group k a b) m = (binary-kind k).1

by-body : (b : Body Leaf) (m : ℤ) → FitsHead (body_head b m) →
    group_count (kind_of (body_head b m)) (from_bits 32 (get_or (head_fields (body_head b m)) 3 0)) (cap (first_count b)) (cap (second_count b)) ≡ stored (block b m)
by-body (group k a) m f = ap (λ (z : ℤ). group_count (group_number k) z (cap (count a)) (cap 0)) (from_bits-to_bits 32 m (lit< tt) f.1) ∙ group-stored k a m (cap 0)
by-body (binary_group k a b) m f =
    ap (λ (z : ℤ). group_count (binary_number k) z (cap (count a)) (cap (count b))) (from_bits-to_bits 32 m (lit< tt) f.2) ∙ binary-stored k a b m

-- the record of a node, its count filled in
pub filled : (h : ℕ) (n : Node Leaf) → with_field COUNT (stored n) (tally_record h (node_head n)) ≡ head_record (node_head n)
unfolding head_record
filled h n =
    let fs = head_fields (node_head n) in
    ap (with_field COUNT (stored n)) (sym (append-nil (tally_record h (node_head n))))
    ∙ store-field widths (set fs COUNT (h % 256)) [] COUNT (stored n) (lit< tt) (length-set fs COUNT (h % 256) ∙ length-head_fields (node_head n))
    ∙ append-nil (lay_out widths (set (set fs COUNT (h % 256)) COUNT (stored n)))
    ∙ ap (lay_out widths) (set-set fs COUNT (h % 256) (stored n) ∙ ap (set fs COUNT) (sym (head-stored n)) ∙ set-get_or fs COUNT 0)

-- What the pass finds at a record: of a leaf 1,
module _ (h : ℕ) (small : h < 256) (sums : List ℕ) where
  module _ (x : Leaf) (fits : FitsHead (leaf_head x)) where
    high : ltb (kind_at (tally_record h (leaf_head x))) 6 ≡ false
    high = ap (λ (k : ℕ). ltb k 6) (kind-is h (leaf_head x) small fits) ∙ le-ltb (kind_of (leaf_head x)) 6 (leaf-kind x).0

    pub leaf-counted : own_count (tally_record h (leaf_head x)) sums ≡ stored (leaf x)
    unfolding count_node
    leaf-counted = rw high

    pub leaf-freed : freed (tally_record h (leaf_head x)) sums ≡ sums
    leaf-freed = rw high

  -- of a group the count of its lists, if their sums have their places.
  module _ (b : Body Leaf) (m : ℤ) (fits : FitsHead (body_head b m)) where
    low : ltb (kind_at (tally_record h (body_head b m))) 6 ≡ true
    low = ap (λ (k : ℕ). ltb k 6) (kind-is h (body_head b m) small fits) ∙ lt-ltb (kind_of (body_head b m)) 6 (body-kind b m)

    pub group-freed : freed (tally_record h (body_head b m)) sums ≡ set (set sums (h + 2) 0) (h + 1) 0
    group-freed = rw (low, tally-is h (body_head b m) small fits)

    pub group-counted : get_or sums (h + 2) 0 ≡ cap (first_count b) → get_or sums (h + 1) 0 ≡ cap (second_count b) →
        own_count (tally_record h (body_head b m)) sums ≡ stored (block b m)
    group-counted p q =
        rw (low, tally-is h (body_head b m) small fits, kind-is h (body_head b m) small fits, number_is h (body_head b m) small fits, p, q) (by-body b m fits)
