-- One record: the fields that packing writes as they stand (crate `record`: `Clean`) are those of document 01's clauses: the unused fields are 0 and a single
-- layer's two numbers are equal. Assumes nothing.
use Prim.Native.Nat.{ℕ, ◌+◌, ◌*◌, ◌<◌}
use mathlib.Core.Path.{◌≡◌, refl, sym, ap, ap₂, subst}
use mathlib.Core.Bool.{Bool, true, false, not, ◌&&◌, ◌||◌}
use native.Mathlib.Omega.{arith}
use borrow.Author.Tests.{eqb-true, eq-eqb}
use lib.Dec.{eqb}
use lib.ListN.{get_or}
use Rattle.notation.specs.Basics.{pick, between}
use Rattle.notation.specs.Tree.{Span, span}
use Rattle.notation.specs.Packed.{nowhere, family_at}
use Rattle.notation.specs.Clauses.{
  Fields,
  kind,
  tilde,
  form,
  present,
  first,
  second,
  number,
  other,
  low,
  high,
  family,
  constraints,
  set,
  is_group,
  is_binary,
  is_move,
  is_pair,
  has_multiplier,
  has_family,
  has_constraints,
  is_single,
  has_layers,
  has_set,
  zero_unless,
  nowhere_unless,
  unused_ok,
}
use Rattle.record.proofs.Written.{layer_numbers, below-four, Clean}
use Rattle.laws.proofs.Bools.{and_left, and_right, and_both}

-- tests that pass, joined as `&&` joins them
infixl 35 ◌and◌
pub ◌and◌ : {a b : Bool} → a ≡ true → b ≡ true → (a && b) ≡ true
◌and◌ {a} {b} p q = and_both a b p q

-- A field that is 0 unless it is used.
kept : (u : Bool) (x : ℕ) → zero_unless u x ≡ true → pick u x 0 ≡ x
kept true x e = refl
kept false x e = sym (eqb-true x 0 e)

unkept : (u : Bool) (x : ℕ) → pick u x 0 ≡ x → zero_unless u x ≡ true
unkept true x e = refl
unkept false x e = eq-eqb x 0 (sym e)

kept-part : (u : Bool) (p : Span) → nowhere_unless u p ≡ true → pick u p nowhere ≡ p
kept-part true p e = refl
kept-part false p e = ap₂ span (sym (eqb-true p.offset 0 (and_left _ _ e))) (sym (eqb-true p.size 0 (and_right (eqb p.offset 0) _ e)))

unkept-part : (u : Bool) (p : Span) → pick u p nowhere ≡ p → nowhere_unless u p ≡ true
unkept-part true p e = refl
unkept-part false p e =
    and_both _ _ (eq-eqb p.offset 0 (ap (λ (q : Span). q.offset) (sym e))) (eq-eqb p.size 0 (ap (λ (q : Span). q.size) (sym e)))

pub used : (u : Bool) (x : ℕ) → pick u x 0 ≡ x → 0 < x → u ≡ true
used true x e h = refl
used false x e h = absurd (omega arith)

-- a family that is at 0 where it is empty
family-kept : (p : Span) → zero_unless (not (eqb p.size 0)) p.offset ≡ true → family_at p.offset p.size ≡ p
family-kept p = go (eqb p.size 0) refl
  where
    go : (t : Bool) → eqb p.size 0 ≡ t → zero_unless (not t) p.offset ≡ true → pick t nowhere (span p.offset p.size) ≡ p
    go true e h = ap₂ span (sym (eqb-true p.offset 0 h)) (sym (eqb-true p.size 0 e))
    go false e h = refl

family-unkept : (u : Bool) (p : Span) → pick u (family_at p.offset p.size) nowhere ≡ p →
    (nowhere_unless u p ≡ true) × (zero_unless (not (eqb p.size 0)) p.offset ≡ true)
family-unkept u p e = (parts u e, go u (eqb p.size 0) e)
  where
    zero-offset : nowhere ≡ p → (b : Bool) → zero_unless b p.offset ≡ true
    zero-offset z true = refl
    zero-offset z false = eq-eqb p.offset 0 (ap (λ (q : Span). q.offset) (sym z))

    go : (u t : Bool) → pick u (pick t nowhere (span p.offset p.size)) nowhere ≡ p → zero_unless (not t) p.offset ≡ true
    go true true z = zero-offset z false
    go true false z = refl
    go false t z = zero-offset z (not t)

    parts : (u : Bool) → pick u (family_at p.offset p.size) nowhere ≡ p → nowhere_unless u p ≡ true
    parts true z = refl
    parts false z = unkept-part false p z

-- d of a pair, or layers as the form says
abbrev pub Single : Fields → Type 0
Single r = is_single r ≡ true → low r ≡ high r

other-kept : (r : Fields) → Single r → (t : Bool) → zero_unless (t || has_layers r) (other r) ≡ true →
    pick t (other r) (get_or (layer_numbers r) (form r) 0) ≡ other r
other-kept r s true h = refl
other-kept r s false h =
    below-four (λ f. form r ≡ f → zero_unless (between 1 2 f) (other r) ≡ true → get_or (layer_numbers r) f 0 ≡ other r) (
      λ e z. sym (eqb-true (other r) 0 z),
      λ e z. omega (arith, s (eq-eqb (form r) 1 e)),
      λ e z. omega arith,
      λ e z. sym (eqb-true (other r) 0 z),
    )
    (form r) (omega arith) refl h

other-unkept : (r : Fields) (t : Bool) → pick t (other r) (get_or (layer_numbers r) (form r) 0) ≡ other r → zero_unless (t || has_layers r) (other r) ≡ true
other-unkept r true h = refl
other-unkept r false h =
    below-four (λ f. get_or (layer_numbers r) f 0 ≡ other r → zero_unless (between 1 2 f) (other r) ≡ true)
    (λ e. eq-eqb (other r) 0 (sym e), λ e. refl, λ e. refl, λ e. eq-eqb (other r) 0 (sym e))
    (form r) (omega arith) h

pub clean-single : (r : Fields) → Clean r → Single r
clean-single r c h =
    let f : form r ≡ 1 = eqb-true (form r) 1 h in
    let k : kind r ≡ 7 = eqb-true (kind r) 7 (used (is_move r) (form r) c.form-used (omega arith)) in
    let o : low r * 65536 + low r ≡ other r =
    subst (λ (n : ℕ). pick (eqb n 9) (other r) (get_or (layer_numbers r) 1 0) ≡ other r) k
    (subst (λ (n : ℕ). pick (is_pair r) (other r) (get_or (layer_numbers r) n 0) ≡ other r) f c.other-used)
    in
    omega arith

pub unused-clean : (r : Fields) → unused_ok r ≡ true → Single r → Clean r
unused-clean r h s =
    record {
      tilde-used = kept (is_move r) (tilde r) (search (and_left, and_right) depth 12);
      form-used = kept (is_move r) (form r) (search (and_left, and_right) depth 12);
      present-used = kept (has_family r) (present r) (search (and_left, and_right) depth 12);
      first-used = kept (is_group r) (first r) (search (and_left, and_right) depth 12);
      second-used = kept (is_binary r) (second r) (search (and_left, and_right) depth 12);
      number-used = kept (has_multiplier r || is_pair r) (number r) (search (and_left, and_right) depth 12);
      other-used = other-kept r s (is_pair r) (search (and_left, and_right) depth 12);
      family-used = rw (family-kept (family r) (search (and_left, and_right))) (kept-part (has_family r) (family r) (search (and_left, and_right)));
      constraints-used = kept-part (has_constraints r) (constraints r) (search (and_left, and_right));
      set-used = kept-part (has_set r) (set r) (search (and_left, and_right));
    }

pub clean-unused : (r : Fields) → Clean r → unused_ok r ≡ true
clean-unused r c =
    let f = family-unkept (has_family r) (family r) c.family-used in
    unkept (is_move r) (tilde r) c.tilde-used
    and unkept (is_move r) (form r) c.form-used
    and unkept (has_family r) (present r) c.present-used
    and unkept (is_group r) (first r) c.first-used
    and unkept (is_binary r) (second r) c.second-used
    and unkept (has_multiplier r || is_pair r) (number r) c.number-used
    and other-unkept r (is_pair r) c.other-used
    and f.0
    and f.1
    and unkept-part (has_constraints r) (constraints r) c.constraints-used
    and unkept-part (has_set r) (set r) c.set-used
