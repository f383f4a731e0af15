-- Lists of numbers that are the same, and a record compared by its fields. Assumes nothing.
use Prim.Native.Nat.{ℕ, ◌≤◌}
use mathlib.Core.Path.{◌≡◌, refl, sym, ap, subst, ◌∙◌}
use mathlib.Core.Bool.{Bool, true, false, ◌&&◌}
use mathlib.Core.List.{List, [], ◌∷◌, append-nil}
use native.Mathlib.Omega.{arith}
use borrow.Author.Tests.{eq-eqb, eqb-true}
use lib.Dec.{eqb}
use lib.ListN.{length, take}
use lib.Seq.{length-take-le}
use Rattle.notation.specs.Basics.{same_list}
use Rattle.notation.specs.Packed.{RECORD, widths, lay_out, cut, Head, head_fields, head_record}
use Rattle.notation.proofs.Bools.{false-true, and_left as left, and_right as right, and_both as both}
use Rattle.numbers.proofs.Positional.{Below, below-take}
use Rattle.record.specs.Meaning.{field, span, span_at, uncounted, listed, SMALL, FIRST, SECOND, NUMBER, OTHER, FAMILY, CONSTRAINTS, LAYER-SET, COUNT}
use Rattle.record.specs.declared.encode.Fields.{Fields}
use Rattle.record.specs.declared.spanned.Span.{Span}
use Rattle.record.proofs.Cut.{Fits, cut-lay_out, lay_out-cut}

pub same_refl : (s : List ℕ) → same_list s s ≡ true
unfolding same_list
same_refl [] = refl
same_refl (a ∷ s) = both (eqb a a) _ (eq-eqb a a refl) (same_refl s)

pub same-eq : (s t : List ℕ) → same_list s t ≡ true → s ≡ t
unfolding same_list
same-eq [] [] h = refl
same-eq [] (b ∷ t) h = absurd (false-true h)
same-eq (a ∷ s) [] h = absurd (false-true h)
same-eq (a ∷ s) (b ∷ t) h = λ i. eqb-true a b (left _ _ h) i ∷ same-eq s t (right (eqb a b) _ h) i

-- a test that would make two things equal which are not
pub refuted : (b : Bool) → (b ≡ true → ⊥) → false ≡ b
refuted true h = absurd (h refl)
refuted false h = refl

-- Bytes are those of some fields exactly when the fields are those of the bytes.
same-fields : (fs bs : List ℕ) → Fits widths fs → Below 256 bs → RECORD ≤ length bs →
    same_list fs (cut widths (take RECORD bs)) ≡ same_list (lay_out widths fs) (take RECORD bs)
same-fields fs bs f b h = go (same_list fs (cut widths (take RECORD bs))) refl
  where
    back : lay_out widths (cut widths (take RECORD bs)) ≡ take RECORD bs
    back = lay_out-cut widths (take RECORD bs) (below-take 256 RECORD bs (omega arith) b) (length-take-le RECORD bs h)

    go : (t : Bool) → same_list fs (cut widths (take RECORD bs)) ≡ t → t ≡ same_list (lay_out widths fs) (take RECORD bs)
    go true e =
        let z : lay_out widths fs ≡ take RECORD bs = ap (lay_out widths) (same-eq fs (cut widths (take RECORD bs)) e) ∙ back in
        sym (subst (λ (s : List ℕ). same_list (lay_out widths fs) s ≡ true) z (same_refl (lay_out widths fs)))
    go false e = refuted (same_list (lay_out widths fs) (take RECORD bs)) λ q.
        let z : lay_out widths fs ≡ take RECORD bs = same-eq (lay_out widths fs) (take RECORD bs) q in
        let w : fs ≡ cut widths (take RECORD bs) = sym (cut-lay_out [] f) ∙ ap (cut widths) (append-nil (lay_out widths fs) ∙ z) in
        false-true (sym e ∙ subst (λ (s : List ℕ). same_list fs s ≡ true) w (same_refl fs))

-- the fields of a record are all there is to cut from it
pub all-fields : (t : List ℕ) {small first second number other count : ℕ} {family constraints set : Span} →
    small ≡ field SMALL t → first ≡ field FIRST t → second ≡ field SECOND t → number ≡ field NUMBER t → other ≡ field OTHER t →
    span family ≡ span_at FAMILY t → span constraints ≡ span_at CONSTRAINTS t → span set ≡ span_at LAYER-SET t → count ≡ field COUNT t →
    small ∷ first ∷ second ∷ number ∷ other ∷ family.offset ∷ family.size ∷ constraints.offset ∷ constraints.size ∷ set.offset ∷ set.size ∷ count ∷ []
    ≡ cut widths (take RECORD t)
unfolding cut
all-fields t a b c d e f g h j = λ i.
    a i ∷ b i ∷ c i ∷ d i ∷ e i ∷ (f i).offset ∷ (f i).size ∷ (g i).offset ∷ (g i).size ∷ (h i).offset ∷ (h i).size ∷ j i ∷ []

pub same-record : (h : Head) (bs : List ℕ) → Fits widths (head_fields h) → Below 256 bs → RECORD ≤ length bs →
    same_list (head_fields h) (cut widths (take RECORD bs)) ≡ same_list (head_record h) (take RECORD bs)
unfolding head_record
same-record h bs f b l = same-fields (head_fields h) bs f b l

-- fields that are compared without their step counts, which are the same
pub counted_same : (f g : Fields) → f.count ≡ g.count → same_list (uncounted f) (uncounted g) ≡ same_list (listed f) (listed g)
unfolding same_list
counted_same f g e = rw (eq-eqb f.count g.count e)

-- `==` at fields whose step counts are made the same: each part of the text is compared as a pair
and-assoc : (a b c : Bool) → ((a && b) && c) ≡ (a && (b && c))
and-assoc true b c = refl
and-assoc false b c = refl

pub same-but-count : (a b : Fields) →
    (eqb a.small b.small && (eqb a.first b.first && (eqb a.second b.second && (eqb a.number b.number && (eqb a.other b.other
    && ((eqb a.family.offset b.family.offset && eqb a.family.size b.family.size)
    && ((eqb a.constraints.offset b.constraints.offset && eqb a.constraints.size b.constraints.size)
    && ((eqb a.layer_set.offset b.layer_set.offset && eqb a.layer_set.size b.layer_set.size) && eqb b.count b.count))))))))
    ≡ same_list (uncounted a) (uncounted b)
unfolding same_list
same-but-count a b =
    rw (
      eq-eqb b.count b.count refl,
      and-assoc (eqb a.layer_set.offset b.layer_set.offset),
      and-assoc (eqb a.constraints.offset b.constraints.offset),
      and-assoc (eqb a.family.offset b.family.offset),
    )
