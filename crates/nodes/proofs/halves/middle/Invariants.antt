-- `halves::middle` meets its contract. Assumes nothing.
use lib.ListN.{length}
use Rattle.nodes.proofs.Parting.{Parting}
use Rattle.nodes.proofs.halves.middle.Given as goal

abbrev pub invariant-loop-t : goal.invariant-loop-t
invariant-loop-t l = Parting l.list l.t l.at

abbrev pub decreases-loop-t : goal.decreases-loop-t
decreases-loop-t l = length l.t
