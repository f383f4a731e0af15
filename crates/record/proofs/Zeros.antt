-- Tests one after the other, and two fields that are both 0. Assumes nothing.
use Prim.Native.Nat.{ℕ, zero, suc, ◌+◌, ◌*◌}
use mathlib.Core.Path.{◌≡◌, sym, ap, ◌∙◌}
use mathlib.Core.Bool.{Bool, true, false, ◌&&◌}
use native.Mathlib.Omega.{arith}
use borrow.Author.Tests.{ne_eqb}
use lib.Dec.{eqb}

-- what the last test gives, if those before did not decide
pub both-passed : {a b r : Bool} → a ≡ true → r ≡ b → r ≡ (a && b)
both-passed {a} {b} p e = e ∙ ap (λ (t : Bool). t && b) (sym p)

pub first-failed : {a r : Bool} (b : Bool) → r ≡ a → r ≡ false → r ≡ (a && b)
first-failed b e p = p ∙ ap (λ (t : Bool). t && b) (sym p ∙ e)

-- two fields of three bytes, by the number that their bytes are together, of which head and tail are other parts
zero-sum : (x y : ℕ) → eqb (x * 16777216 + y) 0 ≡ (eqb x 0 && eqb y 0)
zero-sum zero y = let e : zero * 16777216 + y ≡ y = omega arith in ap (λ (n : ℕ). eqb n 0) e
zero-sum (suc x) y = ne_eqb (suc x * 16777216 + y) 0 (λ e. omega arith) ∙ sym (ap (λ (t : Bool). t && eqb y 0) (ne_eqb (suc x) 0 (λ e. omega arith)))

module _ (head tail x y : ℕ) (e : head * 65536 + tail ≡ x * 16777216 + y) where
  pub low-zero : head ≡ 0 → eqb tail 0 ≡ (eqb x 0 && eqb y 0)
  low-zero z = let same : tail ≡ x * 16777216 + y = omega arith in ap (λ (n : ℕ). eqb n 0) same ∙ zero-sum x y

  pub high-some : (head ≡ 0 → ⊥) → eqb head 0 ≡ (eqb x 0 && eqb y 0)
  high-some n = ne_eqb head 0 n ∙ sym (ne_eqb (x * 16777216 + y) 0 (λ z. n (omega arith))) ∙ zero-sum x y
