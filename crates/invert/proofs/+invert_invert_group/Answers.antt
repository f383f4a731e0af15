-- The proof of the cycle of calls {invert, invert_group}: a list calls on its nodes, a node on the list inside it, which is shorter.
-- Assumes nothing.
use Prim.Native.Nat.{ℕ}
use mathlib.Core.Path.{sym, ◌∙◌}
use native.Mathlib.Omega.{arith}
use Rattle.record.proofs.SameKind.{is-kind, not-kind}
use Rattle.record.specs.declared.kinds.Kind.TheVariants.{Commutator}
use Rattle.nodes.proofs.Nodes.{record-room, node-room, FirstLeaf, first_leaf, leaf-node, leaf-record}
use Rattle.invert.proofs.Loops.{wrote_none, wrote-leaf, wrote-more, wrote-all, node-place, front-node, front_long, front_low, inverse-reverses}
use Rattle.invert.proofs.+invert_invert_group.Goals as goal
use Rattle.invert.proofs.+invert_invert_group.Goals.{invert-Then-is_leaf}

pub invert-loop-t-init : goal.invert-loop-t-init
invert-loop-t-init t c = wrote_none (inverse-reverses c.args.deep) c.args.tree.now c.args.out.now c.requires.packed c.requires.out_len

pub invert-is_leaf-requires : goal.invert-is_leaf-requires
invert-is_leaf-requires t c = record-room _ c.loop-t.invariant.packed c.loop-t-test.true

-- the leaf in front of what is left
leaf-at : {t : ℕ} (c : invert-Then-is_leaf t) → FirstLeaf c.loop-t.t.now
leaf-at c = first_leaf c.loop-t.invariant.packed c.loop-t-test.true c.is_leaf.ensures c.if-is_leaf.true

pub invert-overflow_sub-to : goal.invert-overflow_sub-to
invert-overflow_sub-to t c = omega (arith, (leaf-at c).first.most, c.loop-t.invariant.place)

pub invert-slice_bounds-inv_leaf-end : goal.invert-slice_bounds-inv_leaf-end
invert-slice_bounds-inv_leaf-end t c = sym (leaf-record (leaf-at c))

pub invert-inv_leaf-requires : goal.invert-inv_leaf-requires
invert-inv_leaf-requires t c =
    let front = leaf-at (goal.at.invert-inv_leaf-requires t c).Then-is_leaf in
    record { node = (_, leaf-node front); node_len = (leaf-record front, node-place c.loop-t.invariant front.first) }

pub invert-slice_bounds-t-count : goal.invert-slice_bounds-t-count
invert-slice_bounds-t-count t c = (leaf-at (goal.at.invert-slice_bounds-t-count t c).Then-is_leaf).first.most

pub invert-slice_bounds-t-start : goal.invert-slice_bounds-t-start
invert-slice_bounds-t-start t c = (leaf-at (goal.at.invert-slice_bounds-t-start t c).Then-is_leaf).first.most

pub invert-loop-t-preserved-then-is_leaf : goal.invert-loop-t-preserved-then-is_leaf
invert-loop-t-preserved-then-is_leaf t c =
    wrote-leaf c.loop-t.invariant (leaf-at (goal.at.invert-loop-t-preserved-then-is_leaf t c).Then-is_leaf) _ c.inv_leaf.auto.out c.inv_leaf.ensures

pub invert-invert_group-requires : goal.invert-invert_group-requires
invert-invert_group-requires t c =
    let step = c.node_end-e.ensures in (
      omega (arith, front_long step, step.most, c.loop-t.invariant.short, c.decreases),
      ((_, front-node step), (front_low step c.is_leaf.ensures c.if-is_leaf.false, node-place c.loop-t.invariant step)),
    )

pub invert-loop-t-preserved : goal.invert-loop-t-preserved
invert-loop-t-preserved t c =
    wrote-more c.loop-t.invariant c.node_end-e.ensures _ c.invert_group.auto.out c.invert_group.ensures

pub invert-returns : goal.invert-returns
invert-returns t c = wrote-all c.loop-t.invariant c.loop-t-test.false

pub invert_group-kind-requires : goal.invert_group-kind-requires
invert_group-kind-requires t c = node-room c.requires.node.1

pub invert_group-exchange_lists-requires-clause-commutator : goal.invert_group-exchange_lists-requires-clause-commutator
invert_group-exchange_lists-requires-clause-commutator t c = sym c.kind.ensures ∙ is-kind _ Commutator c.eq.ensures c.if-eq.true

pub invert_group-inner_start-m-requires-clause-no_commutator : goal.invert_group-inner_start-m-requires-clause-no_commutator
invert_group-inner_start-m-requires-clause-no_commutator t c = λ e. not-kind _ Commutator c.eq.ensures c.if-eq.false (c.kind.ensures ∙ e)
