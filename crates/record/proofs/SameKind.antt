-- A kind is known by its number, and so is a form of layers: what `==` tells and what an arm of a `match` tells of the number. Assumes nothing.
use mathlib.Core.Path.{◌≡◌, refl, sym, ap, ap₂, ◌∙◌}
use mathlib.Core.Bool.{Bool, true, false, not}
use denote.Enum.Declared.{tag_of}
use denote.Enum.Bare.{sameb, same_true}
use borrow.Author.Tests.{eqb-true, eqb-false, eq-eqb}
use lib.Dec.{eqb}
use Rattle.record.specs.Kinds.{kind_number, form_number}
use Rattle.record.specs.declared.kinds.Kind.{Kind}
use Rattle.record.specs.declared.kinds.Kind.TheVariants.{
  Simple,
  Macro,
  Simultaneous,
  Niss,
  Commutator,
  Conjugate,
  Rotation,
  Move,
  Pause,
  Pair,
  Slash,
  RPlus,
  RMinus,
  DPlus,
  DMinus,
  Unused,
}
use Rattle.record.specs.contracts.kinds.Kind.{the_type}
use Rattle.record.specs.declared.kinds.LayerForm.{LayerForm}
use Rattle.record.specs.declared.kinds.LayerForm.TheVariants as form
use Rattle.record.specs.contracts.kinds.LayerForm as form_type

tag-number : (k : Kind) → tag_of the_type k ≡ kind_number k
tag-number Simple = refl
tag-number Macro = refl
tag-number Simultaneous = refl
tag-number Niss = refl
tag-number Commutator = refl
tag-number Conjugate = refl
tag-number Rotation = refl
tag-number Move = refl
tag-number Pause = refl
tag-number Pair = refl
tag-number Slash = refl
tag-number RPlus = refl
tag-number RMinus = refl
tag-number DPlus = refl
tag-number DMinus = refl
tag-number Unused = refl

-- `==` compares the numbers
pub same_kind : (k l : Kind) → sameb the_type k l ≡ eqb (kind_number k) (kind_number l)
same_kind k l = ap₂ eqb (tag-number k) (tag-number l)

-- kinds of one number are one
pub one-kind : (k l : Kind) → kind_number k ≡ kind_number l → k ≡ l
one-kind k l e = same_true the_type tt k l (same_kind k l ∙ eq-eqb (kind_number k) (kind_number l) e)

-- what is known after a test by `==`
pub is-kind : (k l : Kind) {r : Bool} → r ≡ sameb the_type k l → r ≡ true → kind_number k ≡ kind_number l
is-kind k l e t = eqb-true (kind_number k) (kind_number l) (sym (same_kind k l) ∙ sym e ∙ t)

pub not-kind : (k l : Kind) {r : Bool} → r ≡ sameb the_type k l → r ≡ false → kind_number k ≡ kind_number l → ⊥
not-kind k l e t = eqb-false (kind_number k) (kind_number l) (sym (same_kind k l) ∙ sym e ∙ t)

-- and after one by `!=`
pub same : (k l : Kind) {r : Bool} → r ≡ not (sameb the_type k l) → r ≡ false → kind_number k ≡ kind_number l
same k l e t = eqb-true (kind_number k) (kind_number l) (sym (same_kind k l) ∙ twice (sameb the_type k l) (sym e ∙ t))
  where
    twice : (b : Bool) → not b ≡ false → b ≡ true
    twice true h = refl
    twice false h = sym h

pub differs : (k l : Kind) {r : Bool} → r ≡ not (sameb the_type k l) → r ≡ true → kind_number k ≡ kind_number l → ⊥
differs k l e t = eqb-false (kind_number k) (kind_number l) (sym (same_kind k l) ∙ twice (sameb the_type k l) (sym e ∙ t))
  where
    twice : (b : Bool) → not b ≡ true → b ≡ false
    twice true h = sym h
    twice false h = refl

-- the test itself, by the numbers
pub test-kind : (k l : Kind) {r : Bool} → r ≡ sameb the_type k l → r ≡ eqb (kind_number k) (kind_number l)
test-kind k l e = e ∙ same_kind k l

-- the same of forms
tag-form : (f : LayerForm) → tag_of form_type.the_type f ≡ form_number f
tag-form form.None = refl
tag-form form.Single = refl
tag-form form.Range = refl
tag-form form.Set = refl

pub same_form : (f g : LayerForm) → sameb form_type.the_type f g ≡ eqb (form_number f) (form_number g)
same_form f g = ap₂ eqb (tag-form f) (tag-form g)

pub is-form : (f g : LayerForm) {r : Bool} → r ≡ sameb form_type.the_type f g → r ≡ true → form_number f ≡ form_number g
is-form f g e t = eqb-true (form_number f) (form_number g) (sym (same_form f g) ∙ sym e ∙ t)

pub not-form : (f g : LayerForm) {r : Bool} → r ≡ sameb form_type.the_type f g → r ≡ false → form_number f ≡ form_number g → ⊥
not-form f g e t = eqb-false (form_number f) (form_number g) (sym (same_form f g) ∙ sym e ∙ t)

pub ne-form : (f g : LayerForm) {r : Bool} → r ≡ not (sameb form_type.the_type f g) → r ≡ not (eqb (form_number f) (form_number g))
ne-form f g e = e ∙ ap not (same_form f g)
