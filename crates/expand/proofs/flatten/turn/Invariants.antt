-- `flatten::turn` meets its contract. Assumes nothing.
use Prim.Native.Nat.{◌-◌}
use Rattle.expand.proofs.Turning.{Turning}
use Rattle.expand.proofs.flatten.turn.Given as goal

abbrev pub invariant-loop-from : goal.invariant-loop-from
invariant-loop-from l = Turning l.initial.steps l.steps l.from l.to

abbrev pub decreases-loop-from : goal.decreases-loop-from
decreases-loop-from l = l.to - l.from
