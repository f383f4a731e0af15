-- Small facts of tests, options and outcomes, for the proofs of every crate. Assumes nothing.
use Prim.Native.Nat.{ℕ, ◌<◌}
use mathlib.Core.Path.{◌≡◌, refl, sym}
use mathlib.Core.Bool.{Bool, true, false, not, ◌&&◌}
use mathlib.Core.Option.{Option, none, some}
use native.Mathlib.Omega.{arith}
use lib.Dec.{leb}
use borrow.Author.Tests.{lt-leb}
use Rattle.notation.specs.Basics.{pick, between}
use Rattle.notation.specs.Refusals.{Outcome, refusal, result}

pub false-true : ◌≡◌ {A = Bool} false true → ⊥
false-true e = let n : ◌≡◌ {A = ℕ} 0 1 = cc in omega arith

pub and_left : (a b : Bool) → (a && b) ≡ true → a ≡ true
and_left true b e = refl
and_left false b e = e

pub and_right : (a b : Bool) → (a && b) ≡ true → b ≡ true
and_right true b e = e
and_right false b e = absurd (false-true e)

pub and_both : (a b : Bool) → a ≡ true → b ≡ true → (a && b) ≡ true
and_both a b p q = rw (p, q)

pub and-false : (a : Bool) → (a && false) ≡ false
and-false true = refl
and-false false = refl

-- no number below or above is between
pub below : (l h x : ℕ) → x < l → between l h x ≡ false
below l h x p = rw (lt-leb l x p)

pub above : (l h x : ℕ) → h < x → between l h x ≡ false
above l h x p = rw (lt-leb x h p) (and-false (leb l x))

pub not-true : (b : Bool) → not b ≡ true → b ≡ false
not-true true e = sym e
not-true false e = refl

pub pick_same : {A : Type 0} (t : Bool) (a : A) → pick t a a ≡ a
pick_same true a = refl
pick_same false a = refl

pub no-some : {A : Type 0} {a : A} {B : Type 0} → ◌≡◌ {A = Option A} (some a) none → B
no-some e = absurd (let n : ◌≡◌ {A = ℕ} 0 1 = cc in omega arith)

pub no-refusal : {A B : Type 0} {r : ℕ} {a : A} → ◌≡◌ {A = Outcome A} (refusal r) (result a) → B
no-refusal e = absurd (let n : ◌≡◌ {A = ℕ} 0 1 = cc in omega arith)
