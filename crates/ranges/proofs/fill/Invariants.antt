-- The first k ranges are written over the front of the run.
use Rattle.std.proofs.Common.{◌≡◌}
use Rattle.ranges.proofs.Front.{front}
use Rattle.ranges.proofs.fill.Given as goal

abbrev pub invariant-loop-k : goal.invariant-loop-k
invariant-loop-k l = l.ranges ≡ front l.bytes l.initial.ranges l.k
