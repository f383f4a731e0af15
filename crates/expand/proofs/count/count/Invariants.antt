-- `count::count` meets its contract. Assumes nothing.
use lib.ListN.{length}
use Rattle.expand.proofs.Counting.{Counting}
use Rattle.expand.proofs.count.count.Given as goal

abbrev pub invariant-loop-t : goal.invariant-loop-t
invariant-loop-t l = Counting l.list l.t l.steps

abbrev pub decreases-loop-t : goal.decreases-loop-t
decreases-loop-t l = length l.t
