-- The proof of the cycle of calls {inv_deep_refusal, node_refusal}: a list calls on its nodes, a node on the list inside it, which is shorter.
-- Assumes nothing.
use mathlib.Core.Path.{sym, ap, ◌∙◌}
use Rattle.laws.specs.Inverted.{deep_refusal}
use Rattle.nodes.proofs.Nodes.{node-room, alone}
use Rattle.invert.proofs.Nodes.{node-starts, niss-refused, commutator-refused, leaf-refused}
use Rattle.invert.proofs.Loops.{looked-more, looked-all, deep-latest, front-node}
use Rattle.record.proofs.SameKind.{is-kind, not-kind}
use Rattle.record.specs.declared.kinds.Kind.TheVariants.{Niss, Commutator}
use Rattle.record.proofs.KindTests.{leaf-high}
use Rattle.invert.proofs.+inv_deep_refusal_node_refusal.Goals as goal

pub inv_deep_refusal-loop-t-preserved : goal.inv_deep_refusal-loop-t-preserved
inv_deep_refusal-loop-t-preserved t c =
    let step = c.node_end-e.ensures in
    looked-more _ _ _ deep-latest c.loop-t.invariant step c.or-found.ensures (c.node_refusal.ensures ∙ ap deep_refusal (alone (front-node step)))

pub inv_deep_refusal-returns : goal.inv_deep_refusal-returns
inv_deep_refusal-returns t c = looked-all deep-latest c.loop-t.invariant c.loop-t-test.false

pub node_refusal-kind-kind-requires : goal.node_refusal-kind-kind-requires
node_refusal-kind-kind-requires t c = node-room c.requires.1

pub node_refusal-returns-then-eq : goal.node_refusal-returns-then-eq
node_refusal-returns-then-eq t c =
    sym (niss-refused _ c.requires.1 (sym c.kind-kind.ensures ∙ is-kind _ Niss c.eq.ensures c.if-eq.true))

pub node_refusal-returns-then-eq-2 : goal.node_refusal-returns-then-eq-2
node_refusal-returns-then-eq-2 t c =
    sym (commutator-refused _ c.requires.1 (sym c.kind-kind.ensures ∙ is-kind _ Commutator c.eq-2.ensures c.if-eq-2.true))

pub node_refusal-is_leaf-requires : goal.node_refusal-is_leaf-requires
node_refusal-is_leaf-requires t c = node-room c.requires.1

pub node_refusal-pair_refusal-requires : goal.node_refusal-pair_refusal-requires
node_refusal-pair_refusal-requires t c =
    node-starts c.requires.1

pub node_refusal-returns-then-is_leaf : goal.node_refusal-returns-then-is_leaf
node_refusal-returns-then-is_leaf t c =
    c.pair_refusal.ensures
    ∙ leaf-refused _ c.requires.1 (leaf-high c.is_leaf.ensures c.if-is_leaf.true)

pub node_refusal-inner_start-m-requires-clause-no_commutator : goal.node_refusal-inner_start-m-requires-clause-no_commutator
node_refusal-inner_start-m-requires-clause-no_commutator t c = λ e. not-kind _ Commutator c.eq-2.ensures c.if-eq-2.false (c.kind-kind.ensures ∙ e)

pub node_refusal-returns : goal.node_refusal-returns
node_refusal-returns t c =
    c.inv_deep_refusal.ensures ∙ c.inner_start-m.ensures.refusal (λ e. not-kind _ Niss c.eq.ensures c.if-eq.false (c.kind-kind.ensures ∙ e))
