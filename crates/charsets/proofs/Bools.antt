-- Tests on numbers and their joins.
use mathlib.Core.Path.{◌≡◌, refl}
use mathlib.Core.Bool.{Bool, true, false, ◌||◌}
use Prim.Native.Nat.{ℕ, ◌≤◌}
use borrow.Author.Tests.{leb-true}
use lib.Dec.{leb}
use Rattle.notation.specs.Basics.{between}
use Rattle.notation.proofs.Bools.{false-true}
pub use Rattle.notation.proofs.Bools.{and_left, and_right, and-false, below, above}

pub contra : {X : Type 0} → false ≡ true → X
contra e = absurd (false-true e)

pub or-true : (a : Bool) → (a || true) ≡ true
or-true true = refl
or-true false = refl

pub or-false : (a : Bool) → (a || false) ≡ a
or-false true = refl
or-false false = refl

pub between-low : (l h x : ℕ) → between l h x ≡ true → l ≤ x
between-low l h x e = leb-true l x (and_left (leb l x) (leb x h) e)

pub between-high : (l h x : ℕ) → between l h x ≡ true → x ≤ h
between-high l h x e = leb-true x h (and_right (leb l x) (leb x h) e)
