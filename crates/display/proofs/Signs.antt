-- Signed numbers and multipliers by their sign and magnitude. Assumes nothing.
use Prim.Native.Nat.{ℕ}
use mathlib.Core.Path.{◌≡◌}
use mathlib.Core.Bool.{Bool}
use mathlib.Core.List.{◌∷◌}
use lib.Dec.{eqb}
use lib.IntN.{ℤ, pos, negsuc, nat_abs}
use Rattle.notation.specs.Basics.{pick}
use Rattle.notation.specs.Numbers.{show, show_signed}
use Rattle.notation.specs.Print.{put_multiplier}
use Rattle.numbers.specs.Sign.{is_negative}
use Rattle.display.specs.Written.{Wrote}
use Rattle.display.specs.declared.write.Printer.{Printer}

module _ {old new : Printer} where
  pub signed-is : (z : ℤ) {b : Bool} {m : ℕ} → b ≡ is_negative z → m ≡ nat_abs z →
      Wrote old new (λ rest. pick b (45 ∷ show m rest) (show m rest)) → Wrote old new (show_signed z)
  signed-is (pos n) e i w = rw (e, i) at w
  signed-is (negsuc n) e i w = rw (e, i) at w

  pub multiplier-is : (z : ℤ) {b : Bool} {m : ℕ} → b ≡ is_negative z → m ≡ nat_abs z →
      Wrote old new (λ rest. pick (eqb m 1) (pick b (39 ∷ rest) rest) (show m (pick b (39 ∷ rest) rest))) → Wrote old new (put_multiplier z)
  multiplier-is (pos n) e i w = rw (e, i) at w
  multiplier-is (negsuc n) e i w = rw (e, i) at w
