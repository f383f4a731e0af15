-- `put_group` and `put_nodes` meet their contracts. A list's measure lies above that of the groups in it, which lies above that of the
-- lists in the group. Assumes nothing.
use Prim.Native.Nat.{ℕ, ◌<◌}
use mathlib.Core.Path.{refl, ap}
use mathlib.Core.Logic.{⊎_elim}
use native.Mathlib.Omega.{arith}
use lib.Dec.{lit≤}
use lib.ListN.{length}
use Rattle.notation.specs.Packed.{RECORD, unpack}
use Rattle.notation.specs.Meaning.{unspanned}
use Rattle.notation.specs.Print.{put_nodes, put_others}
use Rattle.record.proofs.KindTests.{no-leaf-low}
use Rattle.nodes.proofs.Nodes.{node-room, record-room, first-low, first_leaf, leaf-head, node-less, list-less}
use Rattle.record.specs.Kinds.{kind_number}
use Rattle.record.proofs.KindTests.{single, binary}
use Rattle.display.proofs.Writing.{wrote_as, wrote_then}
use Rattle.display.proofs.Nodes.{
  OneGroup,
  one-group,
  TwoGroup,
  two-group,
  first_good,
  leaf-good,
  Listing,
  leaf-listed,
  group-listed,
  listing-spaced,
  listing-ended,
  listing-all,
}
use Rattle.display.proofs.write.Printer.+group_and_nodes.Goals as goal
use Rattle.display.proofs.write.Printer.+group_and_nodes.Goals.{put_group-After-first_end-middle, put_group-Then-not-is_binary, put_nodes-Joined-is_leaf}

one : {t : ℕ} (c : put_group-Then-not-is_binary t) → OneGroup c.args.text.now c.args.bytes.now (kind_number c.kind-kind.result) c.number-multiplier.result
one {t = t} c = one-group c.requires.good_node c.kind-kind.ensures c.number-multiplier.ensures (single c.requires.bytes_bound c.kind-kind.ensures c.is_binary.ensures c.if-not-is_binary.true)

two : {t : ℕ} (c : put_group-After-first_end-middle t) → TwoGroup c.args.text.now c.args.bytes.now (kind_number c.kind-kind.result) c.number-multiplier.result c.first_end-middle.result
two {t = t} c =
    two-group c.requires.good_node c.kind-kind.ensures c.number-multiplier.ensures c.first_end-middle.ensures (binary c.is_binary.ensures c.if-not-is_binary.false) c.requires.bytes_bound

pub put_group-number-multiplier-requires : goal.put_group-number-multiplier-requires
put_group-number-multiplier-requires t c = node-room c.requires.good_node.is_node

pub put_group-kind-kind-requires : goal.put_group-kind-kind-requires
put_group-kind-kind-requires t c = node-room c.requires.good_node.is_node

pub put_group-slice_bounds-put_nodes-count : goal.put_group-slice_bounds-put_nodes-count
put_group-slice_bounds-put_nodes-count t c = node-room c.requires.good_node.is_node

pub put_group-slice_bounds-put_nodes-start : goal.put_group-slice_bounds-put_nodes-start
put_group-slice_bounds-put_nodes-start t c = node-room c.requires.good_node.is_node

pub put_group-put_nodes-requires : goal.put_group-put_nodes-requires
put_group-put_nodes-requires t c =
    let o = one (goal.at.put_group-put_nodes-requires t c).Then-not-is_binary in (
      list-less c.args.bytes.now RECORD (length c.args.bytes.now) _ (lit≤ tt) (node-room c.requires.good_node.is_node) c.decreases,
      (o.inside.packed_list, o.inside.ok),
    )

pub put_group-returns-then-not-is_binary : goal.put_group-returns-then-not-is_binary
put_group-returns-then-not-is_binary t c =
    let g = one (goal.at.put_group-returns-then-not-is_binary t c).Then-not-is_binary in
    wrote_as (put_nodes (unspanned c.args.text.now (unpack c.args.bytes.now))) g.inside.prints (wrote_then (c.put_opening.ensures g.group g.number) (wrote_then c.put_nodes.ensures c.put_closing.ensures))

pub put_group-put_nodes-requires-2 : goal.put_group-put_nodes-requires-2
put_group-put_nodes-requires-2 t c =
    let o = (two (goal.at.put_group-put_nodes-requires-2 t c).After-first_end-middle).inside in (
      list-less c.args.bytes.now RECORD c.first_end-middle.result _ (lit≤ tt) (node-room c.requires.good_node.is_node) c.decreases,
      (c.first_end-middle.ensures.packed_first, o.ok_first),
    )

-- Either list would do here; that it is the second, the return asks.
pub put_group-put_nodes-requires-3 : goal.put_group-put_nodes-requires-3
put_group-put_nodes-requires-3 t c =
    let l = c.first_end-middle.ensures in
    let o = (two (goal.at.put_group-put_nodes-requires-3 t c).After-first_end-middle).inside in (
      list-less c.args.bytes.now _ _ _ (omega (arith, l.least)) (node-room c.requires.good_node.is_node) c.decreases,
      (assumption (l.packed_second, l.packed_first), assumption (o.ok_second, o.ok_first)),
    )

pub put_group-returns : goal.put_group-returns
put_group-returns t c =
    let g = two (goal.at.put_group-returns t c).After-first_end-middle in
    wrote_as (put_nodes (unspanned c.args.text.now (unpack c.args.bytes.now))) g.inside.prints
    (wrote_then c.put.ensures (wrote_then c.put_nodes-2.ensures (wrote_then (c.put_separator.ensures g.group g.number) (wrote_then c.put_nodes-3.ensures c.put_closing-2.ensures))))

pub put_nodes-is_leaf-requires : goal.put_nodes-is_leaf-requires
put_nodes-is_leaf-requires t c = record-room _ c.loop-t.invariant.packed_left c.loop-t-test.true

pub put_nodes-put_leaf-self-requires : goal.put_nodes-put_leaf-self-requires
put_nodes-put_leaf-self-requires t c =
    leaf-good c.args.text.now (first_leaf c.loop-t.invariant.packed_left c.loop-t-test.true c.is_leaf.ensures c.if-is_leaf.true) c.loop-t.invariant.ok

pub put_nodes-slice_bounds-t-count : goal.put_nodes-slice_bounds-t-count
put_nodes-slice_bounds-t-count t c = record-room _ c.loop-t.invariant.packed_left c.loop-t-test.true

pub put_nodes-slice_bounds-t-start : goal.put_nodes-slice_bounds-t-start
put_nodes-slice_bounds-t-start t c = record-room _ c.loop-t.invariant.packed_left c.loop-t-test.true

pub put_nodes-put_group-self-requires : goal.put_nodes-put_group-self-requires
put_nodes-put_group-self-requires t c = (
  node-less c.args.tree.now c.loop-t.t.now c.node_end-end.result _ c.loop-t.invariant.shorter c.decreases,
  (first_good c.args.text.now c.node_end-end.ensures c.loop-t.invariant.ok, first-low c.node_end-end.ensures refl (no-leaf-low c.is_leaf.ensures c.if-is_leaf.false)),
)

-- after a node
others : {t : ℕ} (c : put_nodes-Joined-is_leaf t) → Listing put_others c.args.text.now c.args.tree.now c.if-is_leaf.t.now c.args.self c.if-is_leaf.self × (length c.if-is_leaf.t.now < length c.loop-t.t.now)
others {t = t} c =
    ⊎_elim
    (λ w.
    let f = first_leaf c.loop-t.invariant.packed_left c.loop-t-test.true c.is_leaf.ensures w.if-is_leaf.true in
    rw (w.self-is, ap (λ x. x.now) w.t-is) (leaf-listed c.loop-t.invariant f (w.put_leaf-self.ensures f.step (leaf-head f))))
    (λ w. rw (w.self-is, ap (λ x. x.now) w.t-is) (group-listed c.loop-t.invariant w.node_end-end.ensures w.put_group-self.ensures))
    c.if-is_leaf.branch-raw

pub put_nodes-loop-t-smaller-then-t-gt0 : goal.put_nodes-loop-t-smaller-then-t-gt0
put_nodes-loop-t-smaller-then-t-gt0 t c = (others (goal.at.put_nodes-loop-t-smaller-then-t-gt0 t c).Joined-is_leaf).1

pub put_nodes-loop-t-preserved-then-t-gt0 : goal.put_nodes-loop-t-preserved-then-t-gt0
put_nodes-loop-t-preserved-then-t-gt0 t c = listing-spaced (others (goal.at.put_nodes-loop-t-preserved-then-t-gt0 t c).Joined-is_leaf).0 c.if-t-gt0.true c.put-self.ensures

pub put_nodes-loop-t-smaller : goal.put_nodes-loop-t-smaller
put_nodes-loop-t-smaller t c = (others (goal.at.put_nodes-loop-t-smaller t c).Joined-is_leaf).1

pub put_nodes-loop-t-preserved : goal.put_nodes-loop-t-preserved
put_nodes-loop-t-preserved t c = listing-ended (others (goal.at.put_nodes-loop-t-preserved t c).Joined-is_leaf).0 (omega (arith, c.if-t-gt0.false))

pub put_nodes-returns : goal.put_nodes-returns
put_nodes-returns t c = listing-all c.loop-t.invariant (omega (arith, c.loop-t-test.false))
