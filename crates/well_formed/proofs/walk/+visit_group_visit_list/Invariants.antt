-- The proof of the cycle of calls {visit_group, visit_list}: a list calls on its groups, a group on its lists with one level less. Assumes nothing.
use Prim.Native.Nat.{◌+◌, ◌*◌}
use lib.ListN.{length}
use Rattle.well_formed.proofs.Turns.{Left}
use Rattle.well_formed.proofs.walk.+visit_group_visit_list.Given as goal

abbrev pub decreases-visit_group : goal.decreases-visit_group
decreases-visit_group l = l.depth * 2

abbrev pub decreases-visit_list : goal.decreases-visit_list
decreases-visit_list l = l.depth * 2 + 1

abbrev pub invariant-visit_list-loop-t : goal.invariant-visit_list-loop-t
invariant-visit_list-loop-t l = Left l.text l.depth l.list l.t l.count l.met

abbrev pub decreases-visit_list-loop-t : goal.decreases-visit_list-loop-t
decreases-visit_list-loop-t l = length l.t
