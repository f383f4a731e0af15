-- `parts::simplify` meets its contract: each way out is one case of the rule. Assumes nothing.
use mathlib.Core.Path.{◌∙◌, ap, sym}
use mathlib.Core.Bool.{Bool}
use Rattle.std.proofs.Common.{rules}
use Rattle.notation.specs.Refusals.{result}
use Rattle.notation.specs.Tree.{Span, Layers}
use Rattle.notation.specs.WellFormed.{layers_ok}
use Rattle.record.specs.Meaning.{layers_at}
use Rattle.checked.proofs.Outcomes.{handed_on}
use Rattle.record.specs.Kinds.{kind_number}
use Rattle.record.specs.declared.kinds.Kind.TheVariants.{Move}
use Rattle.record.proofs.SameKind.{same, differs}
use Rattle.entries.proofs.Naming.{
  accepted-record,
  no-prefix,
  some_prefix,
  layers-inside,
  simplify-unaccepted,
  simplify-layers,
  simplify-none,
  simplify-no-move,
  simplify-move,
}
use Rattle.entries.proofs.parts.simplify.Goals as goal

pub returns-in_err-check : goal.returns-in_err-check
returns-in_err-check c =
    let a = c.args in
    rw (handed_on _ _ c.from_residual.ensures) (simplify-unaccepted a.text.now a.tree.now a.«record» a.max_layer a.allow_negatives a.out.now _ c.in_err-check.ensures.answer)

pub returns-then-not-contains : goal.returns-then-not-contains
returns-then-not-contains c =
    let a = c.args in
    simplify-layers a.text.now a.tree.now a.«record» a.max_layer a.allow_negatives a.out.now c.in_ok-check.ensures.found.accepted (search rules)

pub returns-in_default : goal.returns-in_default
returns-in_default c =
    let a = c.args in
    simplify-none a.text.now a.tree.now a.«record» a.max_layer a.allow_negatives a.out.now c.in_ok-check.ensures.found.accepted (search rules) c.in_default.ensures.1

pub returns-then-ne : goal.returns-then-ne
returns-then-ne c =
    let a = c.args in
    let k = c.in_ok-check.ensures.found in
    simplify-no-move a.text.now a.tree.now a.«record» a.max_layer a.allow_negatives a.out.now k.accepted (search rules) c.in-Ok.ensures
    (no-prefix c.in-Ok.found.now (kind_number c.kind.result) c.kind.ensures (differs _ Move c.ne.ensures c.if-ne.true))

pub simplify-requires-clause-layers_value : goal.simplify-requires-clause-layers_value
simplify-requires-clause-layers_value c =
    let a = c.args in
    let k = c.in_ok-check.ensures.found in
    ap (λ (l : Layers Span). layers_ok a.text.now l) c.layers-layers.ensures
    ∙ layers-inside c.in-Ok.found.now (kind_number c.kind.result) c.kind.ensures a.text.now (same _ Move c.ne.ensures c.if-ne.false)
    (accepted-record a.text.now a.tree.now a.«record» k.accepted c.in-Ok.ensures)

pub returns : goal.returns
returns c =
    let a = c.args in
    let k = c.in_ok-check.ensures.found in
    simplify-move a.text.now a.tree.now a.«record» a.max_layer a.allow_negatives a.out.now k.accepted (search rules) c.in-Ok.ensures
    c.tilde-inverted.result _
    (some_prefix c.in-Ok.found.now (kind_number c.kind.result) c.kind.ensures (same _ Move c.ne.ensures c.if-ne.false)
    ∙ ap (λ (t : Bool). result (t, layers_at c.in-Ok.found.now)) (sym c.tilde-inverted.ensures)
    ∙ ap (λ (l : Layers Span). result (c.tilde-inverted.result, l)) (sym c.layers-layers.ensures))
    _ c.simplify.ensures
