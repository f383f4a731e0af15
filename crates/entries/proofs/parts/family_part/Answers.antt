-- `parts::family_part` meets its contract: each way out is one case of the rule. Assumes nothing.
use Prim.Native.Nat.{◌≤◌}
use mathlib.Core.Path.{◌∙◌, ap}
use native.Mathlib.Omega.{arith}
use Rattle.notation.specs.Refusals.{result}
use Rattle.notation.specs.Tree.{Span}
use Rattle.notation.specs.WellFormed.{inside}
use Rattle.record.specs.Kinds.{kind_number}
use Rattle.record.specs.declared.kinds.Kind.TheVariants.{Rotation, Move}
use Rattle.record.proofs.SameKind.{same, differs}
use Rattle.checked.proofs.Outcomes.{handed_on}
use Rattle.entries.proofs.Naming.{family-other, family-named, family-inside, family-unaccepted, family-none, accepted-record, family-is}
use Rattle.entries.proofs.parts.family_part.Goals.{else-ne-via-then-ne+else-ne-2, else-ne-via-else-ne}
use Rattle.entries.proofs.parts.family_part.Goals as goal

pub returns-in_err-check-clause-result_value : goal.returns-in_err-check-clause-result_value
returns-in_err-check-clause-result_value c =
    let a = c.args in
    rw (handed_on _ _ c.from_residual.ensures)
    (family-unaccepted a.text.now a.tree.now a.«record» _ c.in_err-check.ensures.answer)

pub returns-in_default : goal.returns-in_default
returns-in_default c =
    let a = c.args in record {
      result_value = family-none a.text.now a.tree.now a.«record» c.in_ok-check.ensures.found.accepted c.in_default.ensures.1;
      inside = tt;
      fits = tt;
    }

pub returns-then-ne-2 : goal.returns-then-ne-2
returns-then-ne-2 c =
    let a = c.args in record {
      result_value = family-other c.in-Ok.found.now _ c.kind-kind.ensures (differs _ Rotation c.ne.ensures c.if-ne.true) (differs _ Move c.ne-then-ne.ensures c.if-ne-2.true)
          ∙ family-is a.text.now a.tree.now a.«record» c.in_ok-check.ensures.found.accepted c.in-Ok.ensures;
      inside = tt;
      fits = tt;
    }

pub returns : goal.returns
returns c =
    let a = c.args in
    let k = c.in_ok-check.ensures.found in
    let found = c.in-Ok.found.now in
    let between : (6 ≤ kind_number c.kind-kind.result) × (kind_number c.kind-kind.result ≤ 7) =
    elim c.else-ne.branch [
      | else-ne-via-then-ne+else-ne-2 w ↦ let e = same _ Move w.ne-then-ne.ensures w.if-ne-2.false in (omega (arith, e), omega (arith, e))
      | else-ne-via-else-ne w ↦ let e = same _ Rotation c.ne.ensures w.if-ne.false in (omega (arith, e), omega (arith, e))
    ] in record {
      result_value = ap result c.family_of.ensures.result_value
          ∙ family-named found _ c.kind-kind.ensures between.0 between.1 ∙ family-is a.text.now a.tree.now a.«record» k.accepted c.in-Ok.ensures;
      inside = ap (λ (p : Span). inside a.text.now p) c.family_of.ensures.result_value
          ∙ family-inside found _ c.kind-kind.ensures a.text.now between.0 between.1 (accepted-record a.text.now a.tree.now a.«record» k.accepted c.in-Ok.ensures);
      fits = c.family_of.ensures.fits_span;
    }
