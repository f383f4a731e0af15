-- `flatten::flatten`, `flatten::flatten_node` and `flatten::flatten_body` meet their contracts. What ends them is the length of what they are given: a list
-- hands on its nodes, a node itself, and a body its lists, which are shorter. Assumes nothing.
use mathlib.Core.Logic.{⊎_elim}
use native.Mathlib.Omega.{arith}
use lib.ListN.{length}
use Rattle.notation.specs.Packed.{RECORD}
use Rattle.nodes.proofs.Nodes.{part_length, record-room, node-room, first_leaf, leaf-record}
use Rattle.record.specs.declared.kinds.Kind.TheVariants.{Commutator}
use Rattle.record.proofs.SameKind.{test-kind}
use Rattle.record.proofs.KindTests.{single, binary}
use Rattle.expand.proofs.Shapes.{group_of}
use Rattle.expand.proofs.Flattening.{flattening-starts, flattening-goes-on, flattening-passes, flattening-carried, flattened, leaf-fits, node-fits, node-steps, next_fits, wrote-fits, node-written, leaf_room, leaf-written, first-room, second-room, group-steps, group-written, binary-pair, binary-steps, binary-written, body-room, total-fits, repeat-room, repeats-written}
use Rattle.expand.proofs.flatten.+flatten_flatten_body_flatten_node.Goals as goal

pub flatten-loop-t-init : goal.flatten-loop-t-init
flatten-loop-t-init t c = flattening-starts _ _ c.requires.packed c.requires.tree_in_bounds

pub flatten-is_leaf-requires : goal.flatten-is_leaf-requires
flatten-is_leaf-requires t c = record-room _ c.loop-t.invariant.packed c.loop-t-test.true

pub flatten-slice_bounds-copy_record-end : goal.flatten-slice_bounds-copy_record-end
flatten-slice_bounds-copy_record-end t c = record-room _ c.loop-t.invariant.packed c.loop-t-test.true

pub flatten-copy_record-requires : goal.flatten-copy_record-requires
flatten-copy_record-requires t c =
    let leaf = first_leaf c.loop-t.invariant.packed c.loop-t-test.true c.is_leaf.ensures c.if-is_leaf.true in
    record { from_len = leaf-record leaf; record_size_in_bounds = leaf_room leaf (leaf-fits c.loop-t.invariant leaf.first) }

pub flatten-slice_bounds-t-count : goal.flatten-slice_bounds-t-count
flatten-slice_bounds-t-count t c =
    record-room _ c.loop-t.invariant.packed c.loop-t-test.true

pub flatten-slice_bounds-t-start : goal.flatten-slice_bounds-t-start
flatten-slice_bounds-t-start t c =
    record-room _ c.loop-t.invariant.packed c.loop-t-test.true

pub flatten-loop-t-preserved-then-is_leaf : goal.flatten-loop-t-preserved-then-is_leaf
flatten-loop-t-preserved-then-is_leaf t c =
    let leaf = first_leaf c.loop-t.invariant.packed c.loop-t-test.true c.is_leaf.ensures c.if-is_leaf.true in
    flattening-goes-on c.loop-t.invariant leaf.first (leaf-written leaf c.copy_record.ensures) c.copy_record.auto.out

pub flatten-flatten_node-size-requires : goal.flatten-flatten_node-size-requires
flatten-flatten_node-size-requires t c = (
  omega (arith, part_length 0 c.node_end-end.result c.loop-t.t.now, c.loop-t.invariant.shorter, c.decreases),
  (
    group_of c.node_end-end.ensures c.is_leaf.ensures c.if-is_leaf.false,
    (node-steps c.loop-t.invariant c.node_end-end.ensures c.count.ensures c.if-count-ne0.true, node-fits c.loop-t.invariant c.node_end-end.ensures),
  ),
)

pub flatten-overflow_add-at-then-count-ne0 : goal.flatten-overflow_add-at-then-count-ne0
flatten-overflow_add-at-then-count-ne0 t c =
    omega (arith, next_fits c.loop-t.invariant c.node_end-end.ensures (node-written c.node_end-end.ensures.is_node c.flatten_node-size.ensures), c.loop-t.invariant.long, c.well_formed)

pub flatten-loop-t-preserved : goal.flatten-loop-t-preserved
flatten-loop-t-preserved t c =
    ⊎_elim
    (λ w. flattening-carried w.out-is w.at-is (flattening-goes-on c.loop-t.invariant c.node_end-end.ensures (node-written c.node_end-end.ensures.is_node w.flatten_node-size.ensures) w.flatten_node-size.auto.out))
    (λ w. flattening-carried w.out-is w.at-is (flattening-passes c.loop-t.invariant c.node_end-end.ensures c.count.ensures w.if-count-ne0.false))
    c.if-count-ne0.branch-raw

pub flatten-returns : goal.flatten-returns
flatten-returns t c = flattened c.loop-t.invariant c.loop-t-test.false

pub flatten_body-kind-kind-requires : goal.flatten_body-kind-kind-requires
flatten_body-kind-kind-requires t c = node-room c.requires.group.is_node

pub flatten_body-flatten-a-requires : goal.flatten_body-flatten-a-requires
flatten_body-flatten-a-requires t c = (
  omega (arith, part_length RECORD c.first_end-middle.result c.args.node.now, node-room c.requires.group.is_node, c.decreases),
  (c.first_end-middle.ensures.packed_first, first-room c.requires.group c.first_end-middle.ensures c.requires.node_in_bounds),
)

pub flatten_body-turn_if-requires : goal.flatten_body-turn_if-requires
flatten_body-turn_if-requires t c =
    group-steps c.requires.group c.first_end-middle.ensures c.kind-kind.ensures c.flatten-a.ensures (single c.requires.group.low c.kind-kind.ensures c.is_binary.ensures c.if-not-is_binary.true)

pub flatten_body-returns-then-not-is_binary : goal.flatten_body-returns-then-not-is_binary
flatten_body-returns-then-not-is_binary t c =
    group-written c.requires.group c.first_end-middle.ensures c.kind-kind.ensures c.flatten-a.ensures (single c.requires.group.low c.kind-kind.ensures c.is_binary.ensures c.if-not-is_binary.true) c.args.inverted c.turn_if.ensures

pub flatten_body-slice_bounds-flatten-count-3 : goal.flatten_body-slice_bounds-flatten-count-3
flatten_body-slice_bounds-flatten-count-3 t c = wrote-fits c.flatten-a.ensures

pub flatten_body-slice_bounds-flatten-start-3 : goal.flatten_body-slice_bounds-flatten-start-3
flatten_body-slice_bounds-flatten-start-3 t c = wrote-fits c.flatten-a.ensures

pub flatten_body-flatten-b-requires : goal.flatten_body-flatten-b-requires
flatten_body-flatten-b-requires t c = (
  omega (arith, part_length c.first_end-middle.result (length c.args.node.now) c.args.node.now, c.first_end-middle.ensures.least, node-room c.requires.group.is_node, c.decreases),
  (c.first_end-middle.ensures.packed_second, second-room c.requires.group c.first_end-middle.ensures c.kind-kind.ensures c.flatten-a.ensures c.requires.node_in_bounds),
)

pub flatten_body-complete_binary-size-requires : goal.flatten_body-complete_binary-size-requires
flatten_body-complete_binary-size-requires t c =
    rw (test-kind _ Commutator c.eq.ensures) (binary-pair c.requires.group c.first_end-middle.ensures c.kind-kind.ensures c.flatten-a.ensures c.requires.node_in_bounds (binary c.is_binary.ensures c.if-not-is_binary.false) c.flatten-b.ensures)

pub flatten_body-turn_if-requires-2 : goal.flatten_body-turn_if-requires-2
flatten_body-turn_if-requires-2 t c =
    binary-steps c.requires.group c.first_end-middle.ensures c.kind-kind.ensures c.flatten-a.ensures c.requires.node_in_bounds (binary c.is_binary.ensures c.if-not-is_binary.false) c.flatten-b.ensures (rw (test-kind _ Commutator c.eq.ensures) at c.complete_binary-size.ensures)

pub flatten_body-returns : goal.flatten_body-returns
flatten_body-returns t c =
    binary-written c.requires.group c.first_end-middle.ensures c.kind-kind.ensures c.flatten-a.ensures c.requires.node_in_bounds (binary c.is_binary.ensures c.if-not-is_binary.false) c.flatten-b.ensures (rw (test-kind _ Commutator c.eq.ensures) at c.complete_binary-size.ensures) c.args.inverted c.turn_if-2.ensures

pub flatten_node-number-multiplier-requires : goal.flatten_node-number-multiplier-requires
flatten_node-number-multiplier-requires t c = node-room c.requires.group.is_node

pub flatten_node-flatten_body-size-requires : goal.flatten_node-flatten_body-size-requires
flatten_node-flatten_body-size-requires t c =
    (omega (arith, c.decreases), (c.requires.group, body-room c.requires.group c.requires.nonzero c.number-multiplier.ensures c.requires.node_in_bounds))

pub flatten_node-overflow_mul-total : goal.flatten_node-overflow_mul-total
flatten_node-overflow_mul-total t c =
    omega (arith, total-fits c.requires.group c.requires.nonzero c.number-multiplier.ensures c.is_negative.ensures c.magnitude.ensures c.flatten_body-size.ensures c.requires.node_in_bounds, c.well_formed)

pub flatten_node-repeat-requires : goal.flatten_node-repeat-requires
flatten_node-repeat-requires t c =
    repeat-room c.requires.group c.requires.nonzero c.number-multiplier.ensures c.is_negative.ensures c.magnitude.ensures c.flatten_body-size.ensures c.requires.node_in_bounds

pub flatten_node-returns : goal.flatten_node-returns
flatten_node-returns t c =
    repeats-written c.requires.group c.requires.nonzero c.number-multiplier.ensures c.is_negative.ensures c.magnitude.ensures c.flatten_body-size.ensures c.requires.node_in_bounds c.repeat.ensures
