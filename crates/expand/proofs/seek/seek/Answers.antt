-- `seek::seek` meets its contract. Assumes nothing.
use mathlib.Core.Bool.{true}
use mathlib.Core.Path.{◌≡◌, sym, ◌∙◌}
use native.Mathlib.Omega.{arith}
use lib.Dec.{lit≤}
use Rattle.notation.specs.Packed.{RECORD}
use Rattle.notation.specs.Counts.{count_node}
use Rattle.nodes.proofs.Nodes.{rest-less, FirstLeaf, first_leaf}
use Rattle.expand.proofs.Shapes.{group_of, first-steps, leaf-steps, one-count}
use Rattle.expand.proofs.Seeking.{some-record, room, sought-past, leaf-step, found-leaf, sought-within}
use Rattle.expand.proofs.seek.seek.Goals as goal
use Rattle.expand.proofs.seek.seek.Goals.{After-node_end-end, After-is_leaf}

pub is_leaf-requires : goal.is_leaf-requires
is_leaf-requires c = room c.loop-rest.invariant.0.has

leaf-of : (c : After-is_leaf) → c.is_leaf.result ≡ true → FirstLeaf c.loop-rest.rest.now
leaf-of c h = first_leaf c.loop-rest.invariant.0.has.packed (some-record c.loop-rest.invariant.0.has) c.is_leaf.ensures h

pub slice_bounds-write_step-end : goal.slice_bounds-write_step-end
slice_bounds-write_step-end c = room c.loop-rest.invariant.0.has

pub write_step-requires-clause-undoable : goal.write_step-requires-clause-undoable
write_step-requires-clause-undoable c =
    let leaf = leaf-of (goal.at.write_step-requires-clause-undoable c).After-is_leaf c.if-is_leaf.true in
    (leaf.step, leaf-step leaf)

pub returns-then-target-eq0 : goal.returns-then-target-eq0
returns-then-target-eq0 c =
    found-leaf c.loop-rest.invariant.0 (leaf-of (goal.at.returns-then-target-eq0 c).After-is_leaf c.if-is_leaf.true) c.if-target-eq0.true c.args.step.now c.loop-rest.invariant.1 c.write_step.ensures

pub slice_bounds-rest-count : goal.slice_bounds-rest-count
slice_bounds-rest-count c = room c.loop-rest.invariant.0.has

pub slice_bounds-rest-start : goal.slice_bounds-rest-start
slice_bounds-rest-start c = room c.loop-rest.invariant.0.has

pub loop-rest-smaller-then-is_leaf : goal.loop-rest-smaller-then-is_leaf
loop-rest-smaller-then-is_leaf c =
    rest-less c.loop-rest.rest.now RECORD (lit≤ tt) (room c.loop-rest.invariant.0.has)

pub loop-rest-preserved-then-is_leaf : goal.loop-rest-preserved-then-is_leaf
loop-rest-preserved-then-is_leaf c =
    let leaf = leaf-of (goal.at.loop-rest-preserved-then-is_leaf c).After-is_leaf c.if-is_leaf.true in
    (sought-past c.loop-rest.invariant.0 leaf.first (leaf-steps leaf) (omega (arith, c.if-target-eq0.false)), c.loop-rest.invariant.1)

pub count-steps-requires : goal.count-steps-requires
count-steps-requires c = room c.loop-rest.invariant.0.has

pub node_end-end-requires-clause-list_nonzero : goal.node_end-end-requires-clause-list_nonzero
node_end-end-requires-clause-list_nonzero c = some-record c.loop-rest.invariant.0.has

-- the steps of the node in front
exact : (c : After-node_end-end) → c.count-steps.result ≡ count_node c.node_end-end.ensures.node
exact c = first-steps c.node_end-end.ensures c.loop-rest.invariant.0.has.few c.count-steps.ensures

pub loop-rest-preserved-then-steps-target : goal.loop-rest-preserved-then-steps-target
loop-rest-preserved-then-steps-target c =
    (sought-past c.loop-rest.invariant.0 c.node_end-end.ensures (exact (goal.at.loop-rest-preserved-then-steps-target c).After-node_end-end) c.if-steps-target.true, c.loop-rest.invariant.1)

pub enter-requires-clause-group : goal.enter-requires-clause-group
enter-requires-clause-group c =
    let first = c.node_end-end.ensures in
    (group_of first c.is_leaf.ensures c.if-is_leaf.false, (sought-within c.loop-rest.invariant.0 first (exact (goal.at.enter-requires-clause-group c).After-node_end-end) c.if-steps-target.false).has)

pub enter-requires-clause-steps_counted : goal.enter-requires-clause-steps_counted
enter-requires-clause-steps_counted c = exact (goal.at.enter-requires-clause-steps_counted c).After-node_end-end ∙ sym (one-count c.node_end-end.ensures.is_node)

pub loop-rest-preserved : goal.loop-rest-preserved
loop-rest-preserved c =
    (c.enter.ensures.entered _ (sought-within c.loop-rest.invariant.0 c.node_end-end.ensures (exact (goal.at.loop-rest-preserved c).After-node_end-end) c.if-steps-target.false), c.loop-rest.invariant.1)
