-- `charsets::utf8::run_end` meets its contract: by the laws of a walk along a run.
use Prim.Native.Nat.{◌-◌}
use lib.ListN.{length}
use Rattle.charsets.proofs.Runs.{Reached}
use Rattle.charsets.proofs.utf8.run_end.Given as goal

abbrev pub invariant-loop-end : goal.invariant-loop-end
invariant-loop-end g l = Reached g.W.Wanted.rule l.s l.at l.end

abbrev pub decreases-loop-end : goal.decreases-loop-end
decreases-loop-end g l = length l.s - l.end
