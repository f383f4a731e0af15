-- What an entry knows of a text and a tree once they are not refused.
use Rattle.std.specs.Prelude.{ℕ, ◌≤◌, ◌≡◌, Bool, true, false, List, length, Result, Ok, Err, IfOk}
use Rattle.std.proofs.Math.Option.{none}
use Rattle.notation.specs.Refusals.{Outcome, refusal, result, ◌>>=◌}
use Rattle.notation.specs.Packed.{unpack}
use Rattle.notation.specs.WellFormed.{tree_ok}
use Rattle.notation.specs.Lending.{number}
use Rattle.notation.specs.declared.refusals.Refusal.{Refusal}
use Rattle.notation.specs.Entries.{checked, MAX-TEXT, MAX-STEPS}
use Rattle.laws.specs.Packed.{Packed}
use Rattle.laws.specs.Unrolled.{first_refusal}
use Rattle.notation.specs.Counts.{cap, count}
use Rattle.well_formed.specs.Refusing.{refuses}
use Rattle.well_formed.specs.declared.refusals.Refusals.{Refusals}
use Rattle.well_formed.specs.declared.walk.Visited.{Visited}

-- how many steps a tree counts, capped: refusals 1, 2, 6
abbrev pub checked_steps : List ℕ → List ℕ → Outcome ℕ
checked_steps text tree = do
  t ← checked text tree
  result (cap (count t))

-- how many of them an answer of `check` says
abbrev pub steps_of : Result Visited Refusal → Outcome ℕ
steps_of (Ok v) = result v.steps
steps_of (Err r) = refusal (number r)

-- not refused 1, 2 or 6
pub record Accepted (text tree : List ℕ) : Type 0 where
  pub short : length text ≤ MAX-TEXT
  pub packed : Packed tree
  pub ok : tree_ok text (unpack tree) ≡ true
  pub is : checked text tree ≡ result (unpack tree)

-- what `check` tells of such a tree beside its steps: the first refusals that unrolling it meets
pub record Found (text tree : List ℕ) (met : Refusals) : Type 0 where
  pub accepted : Accepted text tree
  pub meets : refuses met ≡ (λ (d : Bool). first_refusal d (unpack tree))

-- what `check` promises of its answer, for whoever takes it over
pub record Checks (text tree : List ℕ) (c : Result Visited Refusal) : Type 0 where
  pub answer : steps_of c ≡ checked_steps text tree
  pub found : IfOk c (λ v. Found text tree v.met)

-- nor 7, 8 or 9
pub record Counted (text tree : List ℕ) (n : ℕ) : Type 0 where
  pub accepted : Accepted text tree
  pub unrefused : first_refusal false (unpack tree) ≡ none
  pub steps : n ≡ count (unpack tree)
  pub most : n ≤ MAX-STEPS
