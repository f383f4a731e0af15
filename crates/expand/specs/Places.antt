-- Looking for the step at a place.
use Rattle.std.specs.Prelude.{ℕ, ◌≤◌, ◌<◌, ◌≡◌, Bool, false, List, []}
use Rattle.std.proofs.Math.Option.{Option, none, some}
use Rattle.std.proofs.Math.ListN.{get_elem?}
use Rattle.notation.specs.Tree.{Leaf}
use Rattle.notation.specs.Packed.{leaf_record, unpack}
use Rattle.notation.specs.Invert.{undo}
use Rattle.notation.specs.Entries.{MAX-STEPS}
use Rattle.notation.specs.Counts.{count}
use Rattle.laws.specs.Packed.{Packed}
use Rattle.laws.specs.Unrolled.{flat}
use Rattle.laws.specs.Unrolled.{undo_if}

-- the step at a place of what a list unrolls into
abbrev pub step_in : List ℕ → ℕ → Option Leaf
step_in list place = get_elem? (flat undo false (unpack list)) place

-- the bytes of what was found
abbrev pub found : Option Leaf → List ℕ
found none = []
found (some x) = leaf_record x

-- a packed list with a step at the place, and with no more steps than may be counted: what its groups store is the number of their steps
pub record Has (list : List ℕ) (place : ℕ) : Type 0 where
  pub packed : Packed list
  pub below : place < count (unpack list)
  pub few : count (unpack list) ≤ MAX-STEPS

-- What the loop keeps: the step sought is the step at the remaining place of the rest of the list, undone if the direction is inverted.
pub record Sought (sought : Option Leaf) (rest : List ℕ) (remaining : ℕ) (inverted : Bool) : Type 0 where
  pub has : Has rest remaining
  pub step : sought ≡ undo_if inverted (step_in rest remaining)
