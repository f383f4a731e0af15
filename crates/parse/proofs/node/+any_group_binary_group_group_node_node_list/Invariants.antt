-- The proof of the cycle of calls {any_group, binary_group, group, node, node_list}: a list calls on nodes from its start on, a node on a
-- group of either sort at the same place, that on a group, and a group on lists further on. So the measure is the bytes left, five times, and
-- 4 for a list, 3 for a node, 2 for a group of either sort, 1 for a group. The facts of each place go to the lemmas of Turns, Blocks and Arms.
-- Assumes nothing.
use Prim.Native.Nat.{◌+◌, ◌*◌, ◌-◌}
use lib.ListN.{length}
use Rattle.parse.proofs.Turns.{Going}
use Rattle.parse.proofs.node.+any_group_binary_group_group_node_node_list.Given as goal

abbrev pub decreases-any_group : goal.decreases-any_group
decreases-any_group l = 5 * (length l.text.now - l.at) + 2

abbrev pub decreases-binary_group : goal.decreases-binary_group
decreases-binary_group l = 5 * (length l.text.now - l.at) + 1

abbrev pub decreases-group : goal.decreases-group
decreases-group l = 5 * (length l.text.now - l.at) + 1

abbrev pub decreases-node : goal.decreases-node
decreases-node l = 5 * (length l.text.now - l.at) + 3

abbrev pub decreases-node_list : goal.decreases-node_list
decreases-node_list l = 5 * (length l.text.now - l.at) + 4

abbrev pub invariant-node_list-loop-read : goal.invariant-node_list-loop-read
invariant-node_list-loop-read l = Going l.features l.text l.at l.slot l.tally l.initial.tree l.next l.end l.tree

abbrev pub decreases-node_list-loop-read : goal.decreases-node_list-loop-read
decreases-node_list-loop-read l = length l.text - l.next
