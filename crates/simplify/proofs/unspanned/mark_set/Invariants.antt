-- `mark_set` meets its contract. The invariant: the elements from `at` on, marked in the table as it is, give the table asked for.
-- Each turn passes a comma, so that what is left of the text falls, and the grammar's fuel with it. Assumes nothing.
use Prim.Native.Nat.{ℕ, ◌+◌, ◌≤◌, ◌-◌}
use mathlib.Core.Path.{◌≡◌}
use lib.ListN.{length}
use Rattle.notation.specs.Meaning.{layer_set_in, or_empty}
use Rattle.simplify.specs.Elements.{marked_set}
use Rattle.simplify.proofs.SetElements.{elements_at}
use Rattle.simplify.proofs.unspanned.mark_set.Given as goal

abbrev pub invariant-loop-element : goal.invariant-loop-element
invariant-loop-element l =
    (fuel : ℕ) × (length l.part ≤ l.at + fuel) × (l.at ≤ length l.part) × (length l.reach ≡ length l.initial.reach)
    × (marked_set l.axis.max_layer l.axis.allow_negatives (elements_at l.part fuel l.at) l.reach
    ≡ marked_set l.axis.max_layer l.axis.allow_negatives (or_empty (layer_set_in l.part)) l.initial.reach)

abbrev pub decreases-loop-element : goal.decreases-loop-element
decreases-loop-element l = length l.part - l.at
