-- What the count of a tree's steps comes to, case by case, after what `check` found: refused before, refused 7, 8 or 9, counted.
-- Assumes nothing.
use Prim.Native.Nat.{ℕ, ◌≤◌, ◌<◌}
use mathlib.Core.Path.{◌≡◌, refl, sym, ap, ◌∙◌}
use mathlib.Core.Bool.{Bool, false}
use mathlib.Core.List.{List}
use mathlib.Core.Option.{Option, none}
use native.Mathlib.Omega.{arith}
use borrow.Author.Tests.{le-leb, lt-leb}
use Rattle.notation.specs.Refusals.{Outcome, refusal, result, TOO-MANY-STEPS}
use Rattle.notation.specs.Packed.{unpack}
use Rattle.notation.specs.Counts.{cap, count}
use Rattle.notation.specs.Lending.{number, number_of, value}
use Rattle.notation.specs.Entries.{steps, count_steps, MAX-STEPS}
use Rattle.laws.proofs.Bools.{no-refusal}
use Rattle.laws.specs.Unrolled.{first_refusal}
use Rattle.laws.proofs.Unrolling.{flatten-is}
use Rattle.laws.proofs.Counting.{count-is}
use Rattle.well_formed.specs.declared.walk.Visited.{Visited}
use Rattle.notation.specs.declared.refusals.Refusal.{Refusal}
use Rattle.std.specs.Prelude as code
use Rattle.checked.specs.Checked.{Accepted, Checks, Counted}
use Rattle.checked.proofs.Outcomes.{counted, refused}

-- What `count_checked` promises of its answer.
pub record Counts (text tree : List ℕ) (o : Outcome ℕ) : Type 0 where
  pub answer : o ≡ count_steps text tree
  pub counted : (n : ℕ) → o ≡ result n → Counted text tree n

refused_as : (text tree : List ℕ) {o : Outcome ℕ} (r : ℕ) → o ≡ refusal r → steps text tree ≡ refusal r → Counts text tree o
refused_as text tree r q e = record { answer = rw (q, e); counted = λ n p. no-refusal (sym q ∙ p) }

module _ (text tree : List ℕ) where
  pub count-unaccepted : (r : Refusal) → Checks text tree (code.Err r) → Counts text tree (refusal (number r))
  unfolding steps
  count-unaccepted r c = refused_as text tree (number r) refl (rw (refused text tree c.answer refl))

  module _ (k : Visited) (c : Checks text tree (code.Ok k)) where
    accepted : Accepted text tree
    accepted = c.found.accepted

    met : number_of k.met.forward ≡ first_refusal false (unpack tree)
    met = ap (λ (f : Bool → Option ℕ). f false) c.found.meets

    pub count-refused : (r : Refusal) → k.met.forward ≡ code.Some r → Counts text tree (refusal (number r))
    unfolding steps
    count-refused r e = refused_as text tree (number r) refl (rw (accepted.is, flatten-is (unpack tree) false, sym met ∙ ap number_of e))

    module _ (z : k.met.forward ≡ code.None) where
      unmet : first_refusal false (unpack tree) ≡ none
      unmet = sym met ∙ ap number_of z

      capped : k.steps ≡ cap (count (unpack tree))
      capped = counted text tree c.answer accepted refl

      pub count-many : MAX-STEPS < k.steps → Counts text tree (refusal TOO-MANY-STEPS)
      unfolding steps
      count-many h =
          let e = capped in
          refused_as text tree TOO-MANY-STEPS refl
          (rw (accepted.is, flatten-is (unpack tree) false, unmet, count-is (unpack tree) false, lt-leb (count (unpack tree)) MAX-STEPS (omega arith)))

      pub count-done : k.steps ≤ MAX-STEPS → Counts text tree (result k.steps)
      unfolding steps
      count-done h =
          let e = capped in
          let most : count (unpack tree) ≤ MAX-STEPS = omega arith in
          let is : k.steps ≡ count (unpack tree) = omega arith in
          record {
            answer = rw (accepted.is, flatten-is (unpack tree) false, unmet, count-is (unpack tree) false, le-leb (count (unpack tree)) MAX-STEPS most, is) (ap result (sym (count-is (unpack tree) false)));
            counted = λ m q.
                let same : k.steps ≡ m = ap value q in
                record { accepted = accepted; unrefused = unmet; steps = sym same ∙ is; most = omega arith };
          }
