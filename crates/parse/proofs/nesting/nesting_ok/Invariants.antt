-- `nesting::nesting_ok` meets its contract: what stands before is allowed, and the rest decides. Assumes nothing.
use lib.ListN.{length}
use Rattle.parse.proofs.NestingScan.{Blocks}
use Rattle.parse.proofs.nesting.nesting_ok.Given as goal

abbrev pub invariant-loop-block : goal.invariant-loop-block
invariant-loop-block l = Blocks l.text l.t l.opened l.closed

abbrev pub decreases-loop-block : goal.decreases-loop-block
decreases-loop-block l = length l.t
