-- `count::count` meets its contract. Assumes nothing.
use native.Mathlib.Omega.{arith}
use Rattle.nodes.proofs.Nodes.{record-room, first_of, first_leaf}
use Rattle.expand.proofs.Shapes.{first-steps, leaf-steps}
use Rattle.expand.proofs.Counting.{left-few, counted-few, counting-goes-on, counted}
use Rattle.expand.proofs.count.count.Goals as goal

pub is_leaf-requires : goal.is_leaf-requires
is_leaf-requires c = record-room _ c.loop-t.invariant.packed c.loop-t-test.true

pub slice_bounds-t-count : goal.slice_bounds-t-count
slice_bounds-t-count c = record-room _ c.loop-t.invariant.packed c.loop-t-test.true

pub slice_bounds-t-start : goal.slice_bounds-t-start
slice_bounds-t-start c = record-room _ c.loop-t.invariant.packed c.loop-t-test.true

pub loop-t-preserved-then-is_leaf : goal.loop-t-preserved-then-is_leaf
loop-t-preserved-then-is_leaf c =
    let leaf = first_leaf c.loop-t.invariant.packed c.loop-t-test.true c.is_leaf.ensures c.if-is_leaf.true in
    counting-goes-on c.loop-t.invariant leaf.first (leaf-steps leaf)

pub count-steps-requires : goal.count-steps-requires
count-steps-requires c = record-room _ c.loop-t.invariant.packed c.loop-t-test.true

pub overflow_add-steps-else-is_leaf : goal.overflow_add-steps-else-is_leaf
overflow_add-steps-else-is_leaf c =
    let first = first_of _ c.loop-t.invariant.packed c.loop-t-test.true in
    record { fits = omega (arith, counted-few c.loop-t.invariant first (first-steps first (left-few c.loop-t.invariant) c.count-steps.ensures)) }

pub loop-t-preserved : goal.loop-t-preserved
loop-t-preserved c =
    let first = c.node_end-end.ensures in
    counting-goes-on c.loop-t.invariant first (first-steps first (left-few c.loop-t.invariant) c.count-steps.ensures)

pub returns : goal.returns
returns c = counted c.loop-t.invariant c.loop-t-test.false
