-- What a rule gives that asks others one after another, by what each of them gave. Assumes nothing.
use Prim.Native.Nat.{ℕ}
use mathlib.Core.Path.{◌≡◌, refl}
use mathlib.Core.Bool.{Bool, true, false}
use mathlib.Core.Option.{Option, none, some}
use Rattle.notation.specs.Refusals.{Outcome, refusal, result, ◌>>=◌, unless, or_refuse}
use Rattle.laws.proofs.Bools.{no-refusal}

pub same-result : {A : Type 0} {a b : A} → ◌≡◌ {A = Outcome A} (result a) (result b) → a ≡ b
same-result e = cc

-- what the first gave, and that the rest gave the result
pub after : {A B : Type 0} (o : Outcome A) {f : A → Outcome B} {b : B} → ◌>>=◌ o f ≡ result b → (a : A) × (o ≡ result a) × (f a ≡ result b)
after (refusal r) e = no-refusal e
after (result a) e = (a, refl, e)

pub test-holds : (r : ℕ) {u : Unit {0}} (t : Bool) → unless r t ≡ result u → t ≡ true
test-holds r true e = refl
test-holds r false e = no-refusal e

pub was-there : {A : Type 0} (r : ℕ) {a : A} (o : Option A) → or_refuse r o ≡ result a → o ≡ some a
was-there r none e = no-refusal e
was-there r (some b) e = cc
