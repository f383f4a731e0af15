-- Small facts of tests, options and outcomes, passed on from `notation`, and one of two tests. Assumes nothing.
use mathlib.Core.Path.{◌≡◌, refl, sym}
use mathlib.Core.Bool.{Bool, true, false, ◌||◌}
pub use Rattle.notation.proofs.Bools.{false-true, and_left, and_right, and_both, and-false, not-true, pick_same, no-some, no-refusal}

pub or-false : (a b : Bool) → (a || b) ≡ false → (a ≡ false) × (b ≡ false)
or-false true b h = absurd (false-true (sym h))
or-false false b h = (refl, h)
