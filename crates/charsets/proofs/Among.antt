-- Lists of numbers and tests on their members.
use mathlib.Core.Path.{◌≡◌, refl, sym, subst, ◌∙◌}
use mathlib.Core.Bool.{Bool, true, false, not}
use mathlib.Core.List.{List, [], ◌∷◌}
use Prim.Native.Nat.{ℕ}
use borrow.Author.Tests.{ne_eqb, not-true}
use Rattle.notation.specs.Basics.{one_of, every}
use Rattle.charsets.proofs.Bools.{contra, and_left, and_right}

-- a number that passes a test which no member passes is none of them
pub apart : (p : ℕ → Bool) (l : List ℕ) (x : ℕ) → every (λ a. not (p a)) l ≡ true → p x ≡ true → one_of l x ≡ false
unfolding one_of every
apart p [] x t h = refl
apart p (a ∷ l) x t h =
    rw (ne_eqb a x (λ e. contra (sym (not-true (p a) (and_left (not (p a)) (every (λ b. not (p b)) l) t)) ∙ subst (λ (y : ℕ). p y ≡ true) (sym e) h)))
    (apart p l x (and_right (not (p a)) (every (λ b. not (p b)) l) t) h)
