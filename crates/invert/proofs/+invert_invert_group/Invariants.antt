-- The proof of the cycle of calls {invert, invert_group}: a list calls on its nodes, a node on the list inside it, which is shorter.
-- Assumes nothing.
use Prim.Native.Nat.{◌+◌, ◌*◌}
use lib.ListN.{length}
use Rattle.invert.specs.Nodes.{inverse}
use Rattle.invert.proofs.Loops.{WroteNodes}
use Rattle.invert.proofs.+invert_invert_group.Given as goal

abbrev pub decreases-invert : goal.decreases-invert
decreases-invert l = length l.tree.now * 2 + 1

abbrev pub decreases-invert_group : goal.decreases-invert_group
decreases-invert_group l = length l.node.now * 2

abbrev pub invariant-invert-loop-t : goal.invariant-invert-loop-t
invariant-invert-loop-t l = WroteNodes (inverse l.deep) l.tree l.t l.at l.out

abbrev pub decreases-invert-loop-t : goal.decreases-invert-loop-t
decreases-invert-loop-t l = length l.t
