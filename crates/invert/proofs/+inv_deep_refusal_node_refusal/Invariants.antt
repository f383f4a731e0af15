-- The proof of the cycle of calls {inv_deep_refusal, node_refusal}: a list calls on its nodes, a node on the list inside it, which is shorter.
-- Assumes nothing.
use Prim.Native.Nat.{◌+◌, ◌*◌}
use lib.ListN.{length}
use Rattle.laws.specs.Inverted.{deep_refusal}
use Rattle.notation.specs.Lending.{number_of}
use Rattle.invert.proofs.Loops.{Looked}
use Rattle.invert.proofs.+inv_deep_refusal_node_refusal.Given as goal

abbrev pub decreases-inv_deep_refusal : goal.decreases-inv_deep_refusal
decreases-inv_deep_refusal l = length l.tree.now * 2 + 1

abbrev pub decreases-node_refusal : goal.decreases-node_refusal
decreases-node_refusal l = length l.node.now * 2

abbrev pub invariant-inv_deep_refusal-loop-t : goal.invariant-inv_deep_refusal-loop-t
invariant-inv_deep_refusal-loop-t l = Looked deep_refusal l.tree l.t (number_of l.found)

abbrev pub decreases-inv_deep_refusal-loop-t : goal.decreases-inv_deep_refusal-loop-t
decreases-inv_deep_refusal-loop-t l = length l.t
