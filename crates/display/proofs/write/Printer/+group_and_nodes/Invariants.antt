-- `put_group` and `put_nodes` meet their contracts. A list's measure lies above that of the groups in it, which lies above that of the
-- lists in the group. Assumes nothing.
use Prim.Native.Nat.{◌+◌, ◌*◌}
use lib.ListN.{length}
use Rattle.notation.specs.Print.{put_nodes}
use Rattle.display.proofs.Nodes.{Listing}
use Rattle.display.proofs.write.Printer.+group_and_nodes.Given as goal

abbrev pub decreases-put_group : goal.decreases-put_group
decreases-put_group l = length l.bytes.now * 2

abbrev pub decreases-put_nodes : goal.decreases-put_nodes
decreases-put_nodes l = length l.tree.now * 2 + 1

abbrev pub invariant-put_nodes-loop-t : goal.invariant-put_nodes-loop-t
invariant-put_nodes-loop-t l = Listing put_nodes l.text l.tree l.t l.initial.self l.self

abbrev pub decreases-put_nodes-loop-t : goal.decreases-put_nodes-loop-t
decreases-put_nodes-loop-t l = length l.t
