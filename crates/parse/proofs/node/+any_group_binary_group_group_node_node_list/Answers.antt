-- The proof of the cycle of calls {any_group, binary_group, group, node, node_list}: a list calls on nodes from its start on, a node on a
-- group of either sort at the same place, that on a group, and a group on lists further on. So the measure is the bytes left, five times, and
-- 4 for a list, 3 for a node, 2 for a group of either sort, 1 for a group. The facts of each place go to the lemmas of Turns, Blocks and Arms.
-- Assumes nothing.
use mathlib.Core.Path.{sym, ◌∙◌}
use native.Mathlib.Omega.{arith}
use Rattle.parse.proofs.Bytes.{seen}
use Rattle.parse.proofs.Past.{within}
use Rattle.parse.proofs.Groups.{takes-kind, stands-first, signed}
use Rattle.parse.proofs.Turns.{going_start, going_on, list-ends, list-stops, some-records}
use Rattle.parse.proofs.Blocks.{no-group, open-group, closed-group, unsigned-group, open-binary, closed-binary}
use Rattle.parse.proofs.Arms.{none-at-end, none-opened, a-group, a-bracket, leaf_first, group-instead, no-bracket-byte}
use Rattle.record.specs.Meaning.{listed}
use Rattle.parse.proofs.node.+any_group_binary_group_group_node_node_list.Goals as goal

pub any_group-returns-then-text-at : goal.any_group-returns-then-text-at
any_group-returns-then-text-at t c =
    let a = c.args in
    none-at-end a.text.now a.at a.slot a.tally a.features a.tree.now c.if-text-at.true

pub any_group-group-requires : goal.any_group-group-requires
any_group-group-requires t c =
    (omega (arith, c.decreases), (c.requires, c.if-text-at.false))

pub any_group-binary_group-requires : goal.any_group-binary_group-requires
any_group-binary_group-requires t c =
    (omega (arith, c.decreases), (c.requires, c.if-text-at.false, c.in-91.is))

pub any_group-returns-in-40 : goal.any_group-returns-in-40
any_group-returns-in-40 t c =
    let a = c.args in
    a-group a.text.now a.at a.slot a.tally a.features c.if-text-at.false (no-bracket-byte _ c.in-40.is) a.tree.now _ c.group.result
    c.group.ensures

pub any_group-returns-in-91 : goal.any_group-returns-in-91
any_group-returns-in-91 t c =
    let a = c.args in
    a-bracket a.text.now a.at a.slot a.tally a.features c.if-text-at.false c.in-91.is a.tree.now _ c.binary_group.result
    c.binary_group.ensures

pub any_group-returns-in_default : goal.any_group-returns-in_default
any_group-returns-in_default t c =
    let a = c.args in
    none-opened a.text.now a.at a.slot a.tally a.features c.if-text-at.false c.in_default.in_default-own.rest.0.1 c.in_default.in_default-own.rest.1 a.tree.now

pub binary_group-overflow_add-at : goal.binary_group-overflow_add-at
binary_group-overflow_add-at t c =
    let a = c.args in
    let pre = c.requires in
    omega (arith, pre.1, pre.0.short)

pub binary_group-overflow_add-slot : goal.binary_group-overflow_add-slot
binary_group-overflow_add-slot t c =
    let a = c.args in
    let pre = c.requires in
    omega (arith, pre.0.slots, pre.0.inside, pre.0.short)

pub binary_group-overflow_add-tally : goal.binary_group-overflow_add-tally
binary_group-overflow_add-tally t c =
    let pre = c.requires in
    omega (arith, pre.0.tallies, pre.0.inside, pre.0.short)

pub binary_group-node_list-a-requires : goal.binary_group-node_list-a-requires
binary_group-node_list-a-requires t c =
    let a = c.args in
    let pre = c.requires in (
      omega (arith, c.decreases, pre.1),
      record { inside = omega (arith, pre.1); short = pre.0.short; slots = omega (arith, pre.0.slots); tallies = omega (arith, pre.0.tallies) },
    )

pub binary_group-overflow_add-a : goal.binary_group-overflow_add-a
binary_group-overflow_add-a t c =
    let a = c.args in
    let pre = c.requires in
    let one = c.node_list-a in
    let opens = stands-first a.text.now a.at 91 pre.1 pre.2 in
    let signs = rw c.in-Some.is at c.binary_group_kind.ensures in
    let sign = signed a.text.now one.result.next _ one.ensures.inside signs in
    omega (arith, sign, pre.0.short)

pub binary_group-overflow_add-tally-2 : goal.binary_group-overflow_add-tally-2
binary_group-overflow_add-tally-2 t c =
    let pre = c.requires in
    omega (arith, pre.0.tallies, pre.0.inside, pre.0.short)

pub binary_group-node_list-b-requires : goal.binary_group-node_list-b-requires
binary_group-node_list-b-requires t c =
    let a = c.args in
    let pre = c.requires in
    let one = c.node_list-a in
    let opens = stands-first a.text.now a.at 91 pre.1 pre.2 in
    let signs = rw c.in-Some.is at c.binary_group_kind.ensures in
    let sign = signed a.text.now one.result.next _ one.ensures.inside signs in (
      omega (arith, c.decreases, sign, one.ensures.advances, pre.1),
      record {
        inside = omega (arith, sign);
        short = pre.0.short;
        slots = omega (arith, pre.0.slots, one.ensures.slots, one.ensures.advances);
        tallies = omega (arith, pre.0.tallies, one.ensures.advances);
      },
    )

pub binary_group-close-requires : goal.binary_group-close-requires
binary_group-close-requires t c = c.node_list-b.ensures.inside

pub binary_group-overflow_add-first : goal.binary_group-overflow_add-first
binary_group-overflow_add-first t c =
    let a = c.args in
    let pre = c.requires in
    omega (arith, pre.0.slots, pre.0.inside, pre.0.short)

pub binary_group-overflow_sub-first : goal.binary_group-overflow_sub-first
binary_group-overflow_sub-first t c =
    let one = c.node_list-a in
    omega (arith, one.ensures.slots)

pub binary_group-overflow_cast-first : goal.binary_group-overflow_cast-first
binary_group-overflow_cast-first t c =
    let a = c.args in
    let pre = c.requires in
    let one = c.node_list-a in
    omega (arith, one.ensures.slots, one.ensures.advances, one.ensures.inside, pre.0.short)

pub binary_group-overflow_sub-second : goal.binary_group-overflow_sub-second
binary_group-overflow_sub-second t c =
    let two = c.node_list-b in
    omega (arith, two.ensures.slots)

pub binary_group-overflow_cast-second : goal.binary_group-overflow_cast-second
binary_group-overflow_cast-second t c =
    let a = c.args in
    let pre = c.requires in
    let two = c.node_list-b in
    omega (arith, two.ensures.slots, two.ensures.advances, two.ensures.inside, pre.0.short)

pub binary_group-put_record-requires : goal.binary_group-put_record-requires
binary_group-put_record-requires t c =
    let a = c.args in
    let pre = c.requires in
    omega (arith, pre.0.slots, pre.0.inside, pre.0.short)

pub binary_group-returns : goal.binary_group-returns
binary_group-returns t c =
    let a = c.args in
    let pre = c.requires in
    let one = c.node_list-a in
    let opens = stands-first a.text.now a.at 91 pre.1 pre.2 in
    let two = c.node_list-b in
    let signs = rw c.in-Some.is at c.binary_group_kind.ensures in
    let fields = c.binary_group_fields in
    rw c.put_record.ensures
    (closed-binary a.features a.text.now a.at a.slot a.tally a.tree.now opens _ _ _ one.ensures c.in-Some.kind signs _ _ _ two.ensures
    c.in-Some-close.end.value c.in-Some-close.end.next (listed fields.result) fields.ensures (rw c.in-Some-close.is at c.close.ensures))

pub binary_group-shape_of-tree : goal.binary_group-shape_of-tree
binary_group-shape_of-tree t c = (binary_group-returns t c).wrote.kept.long

pub group-group_kind-start-requires : goal.group-group_kind-start-requires
group-group_kind-start-requires t c = c.requires.0.inside

pub group-overflow_add-open : goal.group-overflow_add-open
group-overflow_add-open t c =
    let a = c.args in
    let pre = c.requires in
    let start = c.group_kind-start in
    let opens = sym c.has.ensures ∙ c.if-not-has.false in
    let later = (within a.text.now a.at takes-kind pre.0.inside start.ensures).0 in
    let inside = seen a.text.now start.result.next 40 (omega arith) opens in
    omega (arith, inside, pre.0.short)

pub group-overflow_add-slot : goal.group-overflow_add-slot
group-overflow_add-slot t c =
    let a = c.args in
    let pre = c.requires in
    omega (arith, pre.0.slots, pre.0.inside, pre.0.short)

pub group-overflow_add-tally : goal.group-overflow_add-tally
group-overflow_add-tally t c =
    let pre = c.requires in
    omega (arith, pre.0.tallies, pre.0.inside, pre.0.short)

pub group-node_list-list-requires : goal.group-node_list-list-requires
group-node_list-list-requires t c =
    let a = c.args in
    let pre = c.requires in
    let start = c.group_kind-start in
    let opens = sym c.has.ensures ∙ c.if-not-has.false in
    let later = (within a.text.now a.at takes-kind pre.0.inside start.ensures).0 in
    let inside = seen a.text.now start.result.next 40 (omega arith) opens in (
      omega (arith, c.decreases, later, inside),
      record { inside = omega (arith, inside); short = pre.0.short; slots = omega (arith, pre.0.slots, later); tallies = omega (arith, pre.0.tallies, later) },
    )

pub group-close-requires : goal.group-close-requires
group-close-requires t c = c.node_list-list.ensures.inside

pub group-overflow_add-first : goal.group-overflow_add-first
group-overflow_add-first t c =
    let a = c.args in
    let pre = c.requires in
    omega (arith, pre.0.slots, pre.0.inside, pre.0.short)

pub group-overflow_sub-first : goal.group-overflow_sub-first
group-overflow_sub-first t c =
    let list = c.node_list-list in
    omega (arith, list.ensures.slots)

pub group-overflow_cast-first : goal.group-overflow_cast-first
group-overflow_cast-first t c =
    let a = c.args in
    let pre = c.requires in
    let list = c.node_list-list in
    omega (arith, list.ensures.slots, list.ensures.advances, list.ensures.inside, pre.0.short)

pub group-put_record-requires : goal.group-put_record-requires
group-put_record-requires t c =
    let a = c.args in
    let pre = c.requires in
    omega (arith, pre.0.slots, pre.0.inside, pre.0.short)

pub group-returns : goal.group-returns
group-returns t c =
    let a = c.args in
    let pre = c.requires in
    let start = c.group_kind-start in
    let opens = sym c.has.ensures ∙ c.if-not-has.false in
    let later = (within a.text.now a.at takes-kind pre.0.inside start.ensures).0 in
    let list = c.node_list-list in
    let fields = c.group_fields in
    rw c.put_record.ensures
    (closed-group a.features a.text.now a.at a.slot a.tally a.tree.now start.result.value start.result.next start.ensures opens (omega (arith, later)) _ _ _
    (list.ensures) c.in-Some.end.value c.in-Some.end.next (listed fields.result) fields.ensures (rw c.in-Some.is at c.close.ensures))

pub group-returns-then-not-has : goal.group-returns-then-not-has
group-returns-then-not-has t c =
    let a = c.args in
    let pre = c.requires in
    let start = c.group_kind-start in
    no-group a.features a.text.now a.at a.slot a.tally a.tree.now start.result.value start.result.next start.ensures
    (sym c.has.ensures ∙ c.if-not-has.true)

pub node-leaf_node-requires : goal.node-leaf_node-requires
node-leaf_node-requires t c = c.requires

pub node-any_group-requires : goal.node-any_group-requires
node-any_group-requires t c =
    (omega (arith, c.decreases), c.requires)

pub node_list-whitespace_end-next-requires : goal.node_list-whitespace_end-next-requires
node_list-whitespace_end-next-requires t c = c.requires.inside

pub node_list-loop-read-init : goal.node_list-loop-read-init
node_list-loop-read-init t c =
    let a = c.args in
    let pre = c.requires in
    going_start a.features a.text.now a.at a.slot a.tally a.tree.now c.whitespace_end-next.result pre.inside c.whitespace_end-next.ensures

pub node_list-node-requires : goal.node_list-node-requires
node_list-node-requires t c =
    let a = c.args in
    let pre = c.requires in
    let loop = c.loop-read in (
      omega (arith, c.decreases, loop.invariant.advances, loop.invariant.inside),
      record {
        inside = loop.invariant.inside;
        short = pre.short;
        slots = omega (arith, loop.invariant.slots, loop.invariant.advances, pre.slots);
        tallies = omega (arith, loop.invariant.advances, pre.tallies);
      },
    )

pub node_list-returns-in_default : goal.node_list-returns-in_default
node_list-returns-in_default t c =
    let a = c.args in
    let pre = c.requires in
    let loop = c.loop-read in
    list-ends a.features a.text.now a.at a.slot a.tally a.tree.now loop.next loop.end loop.tree _ loop.invariant (rw c.in_default.is at c.node.ensures)

pub node_list-shape_of-tree-in_default : goal.node_list-shape_of-tree-in_default
node_list-shape_of-tree-in_default t c = (node_list-returns-in_default t c).wrote.kept.long

pub node_list-whitespace_end-next-requires-in-loop-read : goal.node_list-whitespace_end-next-requires-in-loop-read
node_list-whitespace_end-next-requires-in-loop-read t c =
    let read = rw c.in-Some.is at c.node.ensures in
    read.inside

pub node_list-returns-then-next-read : goal.node_list-returns-then-next-read
node_list-returns-then-next-read t c =
    let a = c.args in
    let pre = c.requires in
    let loop = c.loop-read in
    let read = rw c.in-Some.is at c.node.ensures in
    (list-stops a.features a.text.now a.at a.slot a.tally a.tree.now loop.next loop.end loop.tree _ loop.invariant c.in-Some.read.next c.in-Some.read.slot read (omega (arith, c.whitespace_end-next-in-loop-read.ensures, c.if-next-read.true)))

pub node_list-shape_of-tree-then-next-read : goal.node_list-shape_of-tree-then-next-read
node_list-shape_of-tree-then-next-read t c = (node_list-returns-then-next-read t c).wrote.kept.long

pub node_list-loop-read-smaller : goal.node_list-loop-read-smaller
node_list-loop-read-smaller t c =
    let a = c.args in
    let pre = c.requires in
    let loop = c.loop-read in
    let read = rw c.in-Some.is at c.node.ensures in
    omega (arith, c.whitespace_end-next-in-loop-read.ensures, read.advances, read.inside, some-records read.node)

pub node_list-loop-read-preserved : goal.node_list-loop-read-preserved
node_list-loop-read-preserved t c =
    let a = c.args in
    let pre = c.requires in
    let loop = c.loop-read in
    let read = rw c.in-Some.is at c.node.ensures in
    going_on a.features a.text.now a.at a.slot a.tally a.tree.now loop.next loop.end loop.tree _ loop.invariant c.in-Some.read.next c.in-Some.read.slot read c.whitespace_end-next-in-loop-read.result c.whitespace_end-next-in-loop-read.ensures c.if-next-read.false

pub binary_group-returns-in_default : goal.binary_group-returns-in_default
binary_group-returns-in_default t c =
    let a = c.args in
    let pre = c.requires in
    let one = c.node_list-a in
    let opens = stands-first a.text.now a.at 91 pre.1 pre.2 in
    unsigned-group a.features a.text.now a.at a.slot a.tally a.tree.now opens _ _ _ one.ensures
    (rw c.in_default.is at c.binary_group_kind.ensures)

pub binary_group-returns-in_default-close : goal.binary_group-returns-in_default-close
binary_group-returns-in_default-close t c =
    let a = c.args in
    let pre = c.requires in
    let one = c.node_list-a in
    let opens = stands-first a.text.now a.at 91 pre.1 pre.2 in
    let two = c.node_list-b in
    let signs = rw c.in-Some.is at c.binary_group_kind.ensures in
    open-binary a.features a.text.now a.at a.slot a.tally a.tree.now opens _ _ _ one.ensures c.in-Some.kind signs _ _ _ two.ensures
    (rw c.in_default-close.is at c.close.ensures)

pub group-returns-in_default : goal.group-returns-in_default
group-returns-in_default t c =
    let a = c.args in
    let pre = c.requires in
    let start = c.group_kind-start in
    let opens = sym c.has.ensures ∙ c.if-not-has.false in
    let later = (within a.text.now a.at takes-kind pre.0.inside start.ensures).0 in
    let list = c.node_list-list in
    open-group a.features a.text.now a.at a.slot a.tally a.tree.now start.result.value start.result.next start.ensures opens (omega (arith, later)) _ _ _
    (list.ensures) (rw c.in_default.is at c.close.ensures)

pub node-returns : goal.node-returns
node-returns t c =
    let a = c.args in
    group-instead a.text.now a.at a.slot a.tally a.features a.tree.now _ _ c.any_group.result
    (rw c.in_default.is at c.leaf_node.ensures) c.any_group.ensures

pub node-returns-in-Some : goal.node-returns-in-Some
node-returns-in-Some t c =
    let a = c.args in
    leaf_first a.text.now a.at a.slot a.tally a.features a.tree.now _ _ _ (rw c.in-Some.is at c.leaf_node.ensures)
