-- `invert::parts::inner_start` meets its contract. Assumes nothing.
use mathlib.Core.Path.{sym, ◌∙◌}
use Rattle.nodes.proofs.Nodes.{node-room}
use Rattle.record.proofs.SameKind.{is-kind, not-kind}
use Rattle.record.specs.declared.kinds.Kind.TheVariants.{Conjugate}
use Rattle.invert.proofs.Nodes.{group-inner, conjugate-inner}
use Rattle.invert.proofs.parts.inner_start.Goals as goal

pub kind-requires : goal.kind-requires
kind-requires c = node-room c.requires.node.1

pub returns-then-eq : goal.returns-then-eq
returns-then-eq c =
    conjugate-inner _ c.requires.node.1 (sym c.kind.ensures ∙ is-kind _ Conjugate c.eq.ensures c.if-eq.true) c.first_end.ensures

pub returns-else-eq : goal.returns-else-eq
returns-else-eq c =
    group-inner _ c.requires.node.1 c.requires.node_bound c.requires.no_commutator (λ e. not-kind _ Conjugate c.eq.ensures c.if-eq.false (c.kind.ensures ∙ e))
