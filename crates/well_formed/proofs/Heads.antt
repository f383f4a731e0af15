-- What a record says by its kind: a group, a leaf that tells more than its kind, or one that does not. Assumes nothing.
use Prim.Native.Nat.{ℕ, ◌≤◌, ◌<◌}
use mathlib.Core.Path.{◌≡◌, refl, sym, ap, ap₂, ◌∙◌}
use mathlib.Core.Bool.{Bool, true, ◌&&◌}
use mathlib.Core.List.{List}
use native.Mathlib.Omega.{arith}
use borrow.Author.Tests.{eqb-true}
use lib.Dec.{ltb, eqb, lit<}
use lib.ListN.{length, take, get_or}
use Rattle.notation.specs.Basics.{same_list}
use Rattle.notation.specs.Numbers.{to_bits, from_bits}
use Rattle.notation.specs.Tree.{Leaf, rotation, move, pause, pair, slash, megaminx, Tree}
use Rattle.notation.specs.Counts.{cap, count_node, count, stored}
use Rattle.notation.specs.Packed.{RECORD, widths, cut, in_order, nowhere, Head, leaf_head, group_head, binary_head, group_number, binary_number, head_fields, head_record, head_at}
use Rattle.notation.specs.WellFormed.{leaf_ok, multiplier_ok}
use Rattle.notation.specs.declared.common.GroupKind.{GroupKind}
use Rattle.notation.specs.declared.common.GroupKind.TheVariants.{Simple, Macro, Simultaneous, Niss}
use Rattle.notation.specs.declared.common.BinaryGroupKind.{BinaryGroupKind}
use Rattle.notation.specs.declared.common.BinaryGroupKind.TheVariants.{Commutator, Conjugate}
use Rattle.numbers.proofs.Positional.{Below}
use Rattle.numbers.proofs.TwosComplement.{to_bits-from_bits}
use Rattle.record.specs.Meaning.{field, group_at, binary_at, uncounted, listed, kind_at, FIRST, SECOND, NUMBER, COUNT}
use Rattle.record.specs.declared.encode.Fields.{Fields}
use Rattle.record.proofs.Packed.{field_lt, by-kind}
use Rattle.record.proofs.RoundTrip.{head_fields-fit}
use Rattle.record.proofs.Same.{same-eq, same-record, counted_same}
use Rattle.counts.specs.Groups.{group_count}
use Rattle.counts.proofs.Capped.{group-stored, binary-stored}
use Rattle.well_formed.specs.Formed.{head_ok, first, second, count_ok, node_of}
use Rattle.well_formed.specs.Refusing.{group_refuses}
use Rattle.laws.proofs.Unpacking.{head-fits}
use Rattle.well_formed.proofs.Refusing.{of_node, of_tree, group-refuses, binary-refuses}

-- A group's record.
pub record GroupSays (bs : List ℕ) (k : ℕ) (h : Head) : Type 0 where
  pub fields : head_fields h ≡ in_order k 0 0 0 (field FIRST bs) (second h) (field NUMBER bs) 0 nowhere nowhere nowhere (field COUNT bs)
  pub asks : (text : List ℕ) (d : ℕ) → head_ok text d h ≡ (ltb 0 d && multiplier_ok (from_bits 32 (field NUMBER bs)))
  pub one : k < 4 → second h ≡ 0
  pub two : 4 ≤ k → second h ≡ field SECOND bs
  pub refuses : (a b : Tree) → of_node (node_of h a b) ≡ group_refuses k (from_bits 32 (field NUMBER bs)) (of_tree a) (of_tree b)
  pub counts : (a b : Tree) → count_ok h a b ≡ eqb (field COUNT bs) (group_count k (from_bits 32 (field NUMBER bs)) (cap (count a)) (cap (count b)))

module _ (bs : List ℕ) (below : Below 256 bs) where
  bits : to_bits 32 (from_bits 32 (field NUMBER bs)) ≡ field NUMBER bs
  bits = to_bits-from_bits 32 (field NUMBER bs) (field_lt bs below 3 (lit< tt))

  one_list : (g : GroupKind) → group_number g < 4 → GroupSays bs (group_number g) (group_at g bs)
  one_list g l =
      record {
        fields = rw bits;
        asks = λ text d. refl;
        one = λ z. refl;
        two = λ z. absurd (omega arith);
        refuses = λ a b. group-refuses g a (from_bits 32 (field NUMBER bs)) (of_tree b);
        counts = λ a b. ap (eqb (field COUNT bs)) (sym (group-stored g a (from_bits 32 (field NUMBER bs)) (cap (count b))));
      }

  two-lists : (g : BinaryGroupKind) → 4 ≤ binary_number g → GroupSays bs (binary_number g) (binary_at g bs)
  two-lists g l =
      record {
        fields = rw bits;
        asks = λ text d. refl;
        one = λ z. absurd (omega arith);
        two = λ z. refl;
        refuses = λ a b. binary-refuses g a b (from_bits 32 (field NUMBER bs));
        counts = λ a b. ap (eqb (field COUNT bs)) (sym (binary-stored g a b (from_bits 32 (field NUMBER bs))));
      }

  pub group-says : (k : ℕ) → k ≡ kind_at bs → k < 6 → GroupSays bs k (head_at bs)
  group-says k e =
      by-kind (λ (k : ℕ) (h : Head). k < 6 → GroupSays bs k h) bs k e (
        λ l. one_list Simple (lit< tt),
        (
          λ l. one_list Macro (lit< tt),
          (
            λ l. one_list Simultaneous (lit< tt),
            (
              λ l. one_list Niss (lit< tt),
              (
                λ l. two-lists Commutator (lit< tt),
                (
                  λ l. two-lists Conjugate (lit< tt),
                  (
                    λ l. absurd (omega arith),
                    (
                      λ l. absurd (omega arith),
                      (
                        λ l. absurd (omega arith),
                        (
                          λ l. absurd (omega arith),
                          (
                            λ l. absurd (omega arith),
                            (λ l. absurd (omega arith), (λ l. absurd (omega arith), (λ l. absurd (omega arith), (λ l. absurd (omega arith), tt)))),
                          ),
                        ),
                      ),
                    ),
                  ),
                ),
              ),
            ),
          ),
        ),
      )
      (λ j z l. absurd (omega arith))

-- A leaf's record.
abbrev pub Leafy : Head → Type 0
Leafy h = (x : Leaf) × (leaf_head x ≡ h)

pub leaf-says : (bs : List ℕ) (k : ℕ) → k ≡ kind_at bs → 6 ≤ k → Leafy (head_at bs)
leaf-says bs k e =
    by-kind (λ (k : ℕ) (h : Head). 6 ≤ k → Leafy h) bs k e (
      λ l. absurd (omega arith),
      (
        λ l. absurd (omega arith),
        (
          λ l. absurd (omega arith),
          (
            λ l. absurd (omega arith),
            (
              λ l. absurd (omega arith),
              (
                λ l. absurd (omega arith),
                (λ l. (_, refl), (λ l. (_, refl), (λ l. (_, refl), (λ l. (_, refl), (λ l. (_, refl), (λ l. (_, refl), (λ l. (_, refl), (λ l. (_, refl), (λ l. (_, refl), tt))))))))),
              ),
            ),
          ),
        ),
      ),
    )
    (λ j z l. (_, refl))

-- Of a leaf that is neither a rotation nor a move nothing is asked beside its record.
pub asks_nothing : (text bs : List ℕ) (k : ℕ) → k ≡ kind_at bs → 6 ≤ k → (k ≡ 6 → ⊥) → (k ≡ 7 → ⊥) → head_ok text 0 (head_at bs) ≡ true
unfolding leaf_ok
asks_nothing text bs k e =
    by-kind (λ (k : ℕ) (h : Head). 6 ≤ k → (k ≡ 6 → ⊥) → (k ≡ 7 → ⊥) → head_ok text 0 h ≡ true) bs k e (
      λ l s t. absurd (omega arith),
      (
        λ l s t. absurd (omega arith),
        (
          λ l s t. absurd (omega arith),
          (
            λ l s t. absurd (omega arith),
            (
              λ l s t. absurd (omega arith),
              (
                λ l s t. absurd (omega arith),
                (
                  λ l s t. absurd (s refl),
                  (
                    λ l s t. absurd (t refl),
                    (λ l s t. refl, (λ l s t. refl, (λ l s t. refl, (λ l s t. refl, (λ l s t. refl, (λ l s t. refl, (λ l s t. refl, tt))))))),
                  ),
                ),
              ),
            ),
          ),
        ),
      ),
    )
    (λ j z l s t. refl)

-- The counts that packing writes.
first_field : (h : Head) → get_or (head_fields h) FIRST 0 ≡ first h
first_field (leaf_head (rotation f c m)) = refl
first_field (leaf_head (move t l f c m)) = refl
first_field (leaf_head pause) = refl
first_field (leaf_head (pair u d)) = refl
first_field (leaf_head slash) = refl
first_field (leaf_head (megaminx k)) = refl
first_field (group_head k n m c) = refl
first_field (binary_head k n n' m c) = refl

second-field : (h : Head) → get_or (head_fields h) SECOND 0 ≡ second h
second-field (leaf_head (rotation f c m)) = refl
second-field (leaf_head (move t l f c m)) = refl
second-field (leaf_head pause) = refl
second-field (leaf_head (pair u d)) = refl
second-field (leaf_head slash) = refl
second-field (leaf_head (megaminx k)) = refl
second-field (group_head k n m c) = refl
second-field (binary_head k n n' m c) = refl

-- and the step count, if it is the right one
count-field : (h : Head) (a b : Tree) → count_ok h a b ≡ true → get_or (head_fields h) COUNT 0 ≡ stored (node_of h a b)
unfolding count_node
count-field (leaf_head (rotation f c m)) a b e = refl
count-field (leaf_head (move t l f c m)) a b e = refl
count-field (leaf_head pause) a b e = refl
count-field (leaf_head (pair u d)) a b e = refl
count-field (leaf_head slash) a b e = refl
count-field (leaf_head (megaminx k)) a b e = refl
count-field (group_head k n m c) a b e = eqb-true c _ e
count-field (binary_head k n n' m c) a b e = eqb-true c _ e

module _ (bs : List ℕ) (below : Below 256 bs) (long : RECORD ≤ length bs) where
  -- a record that is compared by its fields
  pub by-fields : same_list (head_fields (head_at bs)) (cut widths (take RECORD bs)) ≡ same_list (head_record (head_at bs)) (take RECORD bs)
  by-fields = same-record (head_at bs) bs (head_fields-fit (head_at bs) (head-fits bs below)) below long

  pub compared : (f g : Fields) (r : Bool) → listed f ≡ head_fields (head_at bs) → listed g ≡ cut widths (take RECORD bs) → f.count ≡ g.count →
      r ≡ same_list (uncounted f) (uncounted g) → r ≡ same_list (head_record (head_at bs)) (take RECORD bs)
  compared f g r p q c e = e ∙ counted_same f g c ∙ ap₂ same_list p q ∙ by-fields

  -- a record that is what packing writes
  pub field-written : same_list (head_record (head_at bs)) (take RECORD bs) ≡ true → (i : ℕ) → field i bs ≡ get_or (head_fields (head_at bs)) i 0
  field-written e i = ap (λ (l : List ℕ). get_or l i 0) (sym (same-eq (head_fields (head_at bs)) (cut widths (take RECORD bs)) (by-fields ∙ e)))

  pub first-written : same_list (head_record (head_at bs)) (take RECORD bs) ≡ true → field FIRST bs ≡ first (head_at bs)
  first-written e = field-written e FIRST ∙ first_field (head_at bs)

  pub second-written : same_list (head_record (head_at bs)) (take RECORD bs) ≡ true → field SECOND bs ≡ second (head_at bs)
  second-written e = field-written e SECOND ∙ second-field (head_at bs)

  pub count-written : same_list (head_record (head_at bs)) (take RECORD bs) ≡ true → (a b : Tree) → count_ok (head_at bs) a b ≡ true → field COUNT bs ≡ stored (node_of (head_at bs) a b)
  count-written e a b r = field-written e COUNT ∙ count-field (head_at bs) a b r
