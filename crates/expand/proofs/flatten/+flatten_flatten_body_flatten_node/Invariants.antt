-- `flatten::flatten`, `flatten::flatten_node` and `flatten::flatten_body` meet their contracts. What ends them is the length of what they are given: a list
-- hands on its nodes, a node itself, and a body its lists, which are shorter. Assumes nothing.
use Prim.Native.Nat.{◌+◌, ◌*◌}
use lib.ListN.{length}
use Rattle.expand.proofs.Flattening.{Flattening}
use Rattle.expand.proofs.flatten.+flatten_flatten_body_flatten_node.Given as goal

abbrev pub decreases-flatten : goal.decreases-flatten
decreases-flatten l = length l.tree.now * 2 + 2

abbrev pub decreases-flatten_body : goal.decreases-flatten_body
decreases-flatten_body l = length l.node.now * 2

abbrev pub decreases-flatten_node : goal.decreases-flatten_node
decreases-flatten_node l = length l.node.now * 2 + 1

abbrev pub invariant-flatten-loop-t : goal.invariant-flatten-loop-t
invariant-flatten-loop-t l = Flattening l.tree l.initial.out l.t l.out l.at

abbrev pub decreases-flatten-loop-t : goal.decreases-flatten-loop-t
decreases-flatten-loop-t l = length l.t
