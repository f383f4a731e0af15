-- One record: packing writes its fields again, those that its kind does not use as 0. So it writes the record as it stands, its step count aside, exactly if
-- the unused fields are 0 and a single layer's two numbers are equal. Assumes nothing.
use Prim.Native.Nat.{ℕ, zero, suc, ◌+◌, ◌*◌, ◌/◌, ◌≤◌, ◌<◌}
use mathlib.Core.Path.{◌≡◌, refl, ap, ap₂, subst}
use mathlib.Core.Bool.{Bool, true, false, ◌||◌}
use mathlib.Core.List.{List, [], ◌∷◌}
use mathlib.Core.Option.{none, some}
use native.Mathlib.Omega.{arith}
use borrow.Author.Tests.{leb-true}
use lib.Dec.{leb, eqb, lit<}
use lib.ListN.{get_or, take}
use Rattle.notation.specs.Basics.{pick, between}
use Rattle.notation.specs.Numbers.{to_bits, from_bits}
use Rattle.notation.specs.Tree.{Span, span, Layers, no_layers, single_layer, layer_range, layer_set}
use Rattle.notation.specs.Packed.{
  RECORD,
  widths,
  cut,
  in_order,
  nowhere,
  bit,
  or_nowhere,
  layer_form,
  low_and_high,
  set_part,
  family_at,
  Head,
  head_fields,
  head_at,
}
use Rattle.notation.specs.Packed as packed
use Rattle.notation.specs.Clauses.{
  Fields,
  kind,
  tilde,
  form,
  present,
  first,
  second,
  number,
  other,
  low,
  high,
  family,
  constraints,
  set,
  count,
  is_group,
  is_binary,
  is_move,
  is_pair,
  has_multiplier,
  has_family,
  has_constraints,
  has_set,
  kind_ok,
}
use Rattle.numbers.proofs.Positional.{Below}
use Rattle.numbers.proofs.TwosComplement.{to_bits-from_bits}
use Rattle.record.specs.Meaning.{field, rotation_at, move_at, NUMBER, OTHER}
use Rattle.record.proofs.Packed.{field_lt, by-kind}

-- the fields of a record one by one
abbrev pub listed : Fields → List ℕ
listed r =
    get_or r 0 0 ∷ get_or r 1 0 ∷ get_or r 2 0 ∷ get_or r 3 0 ∷ get_or r 4 0
    ∷ get_or r 5 0 ∷ get_or r 6 0 ∷ get_or r 7 0 ∷ get_or r 8 0 ∷ get_or r 9 0 ∷ get_or r 10 0 ∷ get_or r 11 0 ∷ []

-- what packing writes of the layers, by the form
abbrev pub layer_numbers : Fields → List ℕ
layer_numbers r = 0 ∷ (low r * 65536 + low r) ∷ (low r * 65536 + high r) ∷ 0 ∷ []

-- the fields with those that a record of kind k does not use as 0, and a leaf's step count as 1
abbrev pub cleaned : ℕ → Fields → List ℕ
cleaned k r =
    let t = pick (eqb k 7) (tilde r) 0 in
    let f = pick (eqb k 7) (form r) 0 in
    let p = pick (eqb k 6 || eqb k 7) (present r) 0 in
    in_order k t f p
    (pick (leb k 5) (first r) 0)
    (pick (between 4 5 k) (second r) 0)
    (pick (leb k 7 || eqb k 9) (number r) 0)
    (pick (eqb k 9) (other r) (get_or (layer_numbers r) f 0))
    (pick (eqb k 6 || eqb k 7) (family_at (family r).offset (family r).size) nowhere)
    (pick (eqb p 1) (constraints r) nowhere)
    (pick (eqb f 3) (set r) nowhere)
    (pick (leb k 5) (count r) 1)

-- Each part of a head as packing writes it.
bit-of : (t : ℕ) → t < 2 → bit (eqb t 1) ≡ t
bit-of zero h = refl
bit-of (suc zero) h = refl
bit-of (suc (suc t)) h = absurd (omega arith)

presence : (p : ℕ) (s : Span) → p < 2 → packed.present (pick (eqb p 1) (some s) none) ≡ p
presence zero s h = refl
presence (suc zero) s h = refl
presence (suc (suc p)) s h = absurd (omega arith)

part-or-nowhere : (t : Bool) (s : Span) → or_nowhere (pick t (some s) none) ≡ pick t s nowhere
part-or-nowhere true s = refl
part-or-nowhere false s = refl

abbrev pub Four : (ℕ → Type 0) → Type 0
Four P = P 0 × P 1 × P 2 × P 3

pub below-four : (P : ℕ → Type 0) → Four P → (f : ℕ) → f < 4 → P f
below-four P h zero l = h.0
below-four P h (suc zero) l = h.1
below-four P h (suc (suc zero)) l = h.2
below-four P h (suc (suc (suc zero))) l = h.3
below-four P h (suc (suc (suc (suc f)))) l = absurd (omega arith)

abbrev pub layers_of : Fields → ℕ → Layers Span
layers_of r f = get_or (no_layers ∷ single_layer (low r) ∷ layer_range (low r) (high r) ∷ layer_set (set r) ∷ []) f no_layers

layers-form : (r : Fields) (f : ℕ) → f < 4 → layer_form (layers_of r f) ≡ f
layers-form r = below-four (λ f. layer_form (layers_of r f) ≡ f) (refl, refl, refl, refl)

pub layers-numbers : (r : Fields) (f : ℕ) → f < 4 → low_and_high (layers_of r f) ≡ get_or (layer_numbers r) f 0
layers-numbers r = below-four (λ f. low_and_high (layers_of r f) ≡ get_or (layer_numbers r) f 0) (refl, refl, refl, refl)

layers-set : (r : Fields) (f : ℕ) → f < 4 → set_part (layers_of r f) ≡ pick (eqb f 3) (set r) nowhere
layers-set r = below-four (λ f. set_part (layers_of r f) ≡ pick (eqb f 3) (set r) nowhere) (refl, refl, refl, refl)

-- What packing writes of a record of kind 0 to 14.
abbrev pub fields_at : List ℕ → Fields
fields_at bs = cut widths (take RECORD bs)

pub listed_same : (bs : List ℕ) → listed (fields_at bs) ≡ fields_at bs
unfolding cut
listed_same bs = refl

module _ (bs : List ℕ) (below : Below 256 bs) where
  bits : to_bits 32 (from_bits 32 (field NUMBER bs)) ≡ field NUMBER bs
  bits = to_bits-from_bits 32 (field NUMBER bs) (field_lt bs below 3 (lit< tt))

  bits' : to_bits 32 (from_bits 32 (field OTHER bs)) ≡ field OTHER bs
  bits' = to_bits-from_bits 32 (field OTHER bs) (field_lt bs below 4 (lit< tt))

  rotation-written : head_fields (rotation_at bs) ≡ cleaned 6 (fields_at bs)
  rotation-written =
      let r = fields_at bs in
      rw (bits, presence (present r) (constraints r) (omega arith), part-or-nowhere (has_constraints r) (constraints r))

  move-written : head_fields (move_at bs) ≡ cleaned 7 (fields_at bs)
  move-written =
      let r = fields_at bs in
      let l : form r < 4 = omega arith in
      rw (
        bits,
        bit-of (tilde r) (omega arith),
        presence (present r) (constraints r) (omega arith),
        part-or-nowhere (has_constraints r) (constraints r),
        layers-form r (form r) l,
        layers-numbers r (form r) l,
        layers-set r (form r) l,
      )

  pub written : kind_ok (fields_at bs) ≡ true → head_fields (head_at bs) ≡ cleaned (kind (fields_at bs)) (fields_at bs)
  written =
      by-kind (λ (k : ℕ) (h : Head). leb k 14 ≡ true → head_fields h ≡ cleaned k (fields_at bs)) bs (kind (fields_at bs)) refl (
        λ e. rw bits,
        (
          λ e. rw bits,
          (
            λ e. rw bits,
            (
              λ e. rw bits,
              (
                λ e. rw bits,
                (
                  λ e. rw bits,
                  (
                    λ e. rotation-written,
                    (
                      λ e. move-written,
                      (
                        λ e. refl,
                        (
                          λ e. rw (bits, bits'),
                          (λ e. refl, (λ e. refl, (λ e. refl, (λ e. refl, (λ e. refl, tt))))),
                        ),
                      ),
                    ),
                  ),
                ),
              ),
            ),
          ),
        ),
      )
      (λ j l e. absurd (omega (arith, leb-true j 14 e)))

-- a leaf's step count is 1
abbrev pub LeafIsOne : Fields → Type 0
LeafIsOne r = pick (is_group r) (count r) 1 ≡ count r

-- The fields that are as packing writes them.
pub record Clean (r : Fields) : Type 0 where
  pub tilde-used : pick (is_move r) (tilde r) 0 ≡ tilde r
  pub form-used : pick (is_move r) (form r) 0 ≡ form r
  pub present-used : pick (has_family r) (present r) 0 ≡ present r
  pub first-used : pick (is_group r) (first r) 0 ≡ first r
  pub second-used : pick (is_binary r) (second r) 0 ≡ second r
  pub number-used : pick (has_multiplier r || is_pair r) (number r) 0 ≡ number r
  pub other-used : pick (is_pair r) (other r) (get_or (layer_numbers r) (form r) 0) ≡ other r
  pub family-used : pick (has_family r) (family_at (family r).offset (family r).size) nowhere ≡ family r
  pub constraints-used : pick (has_constraints r) (constraints r) nowhere ≡ constraints r
  pub set-used : pick (has_set r) (set r) nowhere ≡ set r

pub clean-same : (r : Fields) → Clean r → LeafIsOne r → cleaned (kind r) r ≡ listed r
clean-same r c one = rw (c.tilde-used, c.form-used, c.present-used) go
  where
    small : kind r * 16 + tilde r * 8 + form r * 2 + present r ≡ get_or r 0 0
    small =
        let s = get_or r 0 0 in
        let e : s / 8 / 2 ≡ s / 16 = omega arith in
        let z : s / 2 / 4 ≡ s / 8 = omega arith in
        omega arith

    go : in_order (kind r) (tilde r) (form r) (present r)
        (pick (is_group r) (first r) 0) (pick (is_binary r) (second r) 0) (pick (has_multiplier r || is_pair r) (number r) 0)
        (pick (is_pair r) (other r) (get_or (layer_numbers r) (form r) 0))
        (pick (has_family r) (family_at (family r).offset (family r).size) nowhere)
        (pick (has_constraints r) (constraints r) nowhere) (pick (has_set r) (set r) nowhere) (pick (is_group r) (count r) 1)
        ≡ listed r
    go = λ i.
        small i ∷ c.first-used i ∷ c.second-used i ∷ c.number-used i ∷ c.other-used i
        ∷ (c.family-used i).offset ∷ (c.family-used i).size ∷ (c.constraints-used i).offset ∷ (c.constraints-used i).size
        ∷ (c.set-used i).offset ∷ (c.set-used i).size ∷ one i ∷ []

small_least : (u : Bool) (x : ℕ) → pick u x 0 ≤ x
small_least true x = omega arith
small_least false x = omega arith

-- with the step count as it may be
pub same-clean : (r : Fields) → cleaned (kind r) r ≡ listed r → Clean r
same-clean r e =
    record {
      tilde-used = omega (arith, at 0, t, f, p);
      form-used = form-same;
      present-used = present-same;
      first-used = at 1;
      second-used = at 2;
      number-used = at 3;
      other-used = subst (λ (n : ℕ). pick (is_pair r) (other r) (get_or (layer_numbers r) n 0) ≡ other r) form-same (at 4);
      family-used = ap₂ span (at 5) (at 6);
      constraints-used = subst (λ (n : ℕ). pick (eqb n 1) (constraints r) nowhere ≡ constraints r) present-same (ap₂ span (at 7) (at 8));
      set-used = subst (λ (n : ℕ). pick (eqb n 3) (set r) nowhere ≡ set r) form-same (ap₂ span (at 9) (at 10));
    }
  where
    at : (i : ℕ) → get_or (cleaned (kind r) r) i 0 ≡ get_or (listed r) i 0
    at i = ap (λ (l : List ℕ). get_or l i 0) e

    t : pick (is_move r) (tilde r) 0 ≤ tilde r
    t = small_least (is_move r) (tilde r)

    f : pick (is_move r) (form r) 0 ≤ form r
    f = small_least (is_move r) (form r)

    p : pick (has_family r) (present r) 0 ≤ present r
    p = small_least (has_family r) (present r)

    form-same : pick (is_move r) (form r) 0 ≡ form r
    form-same = omega (arith, at 0, t, f, p)

    present-same : pick (has_family r) (present r) 0 ≡ present r
    present-same = omega (arith, at 0, t, f, p)
