-- `seek::seek` meets its contract. Assumes nothing.
use mathlib.Core.Path.{◌≡◌}
use lib.ListN.{length}
use Rattle.expand.specs.Places.{step_in, Sought}
use Rattle.expand.proofs.seek.seek.Given as goal

abbrev pub invariant-loop-rest : goal.invariant-loop-rest
invariant-loop-rest l = Sought (step_in l.tree l.place) l.rest l.target.place l.target.inverted × (l.step ≡ l.initial.step)

abbrev pub decreases-loop-rest : goal.decreases-loop-rest
decreases-loop-rest l = length l.rest
