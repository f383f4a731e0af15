-- `bound::allowance` meets its contract: each term is one of the rule's. Assumes nothing.
use Prim.Native.Nat.{ℕ}
use mathlib.Core.Path.{ap}
use Rattle.notation.specs.Tree.{Span}
use Rattle.record.specs.declared.kinds.Kind.TheVariants.{Pair}
use Rattle.record.specs.declared.kinds.LayerForm.TheVariants.{None}
use Rattle.record.proofs.SameKind.{test-kind, ne-form}
use Rattle.display.proofs.bound.allowance.Goals as goal

pub returns : goal.returns
returns c =
    let size : Span → ℕ = λ p. p.size in
    rw (
      c.extra.ensures.value,
      c.extra-2.ensures.value,
      c.extra-3.ensures.value,
      c.extra-4.ensures.value,
      c.is_group.ensures,
      test-kind _ Pair c.eq.ensures,
      c.kind.ensures,
      c.magnitude-n.ensures,
      c.number.ensures,
      ap size c.family.ensures.result_value,
      ap size c.constraints.ensures.result_value,
      ne-form _ None c.ne.ensures,
      c.layer_form.ensures,
    )
