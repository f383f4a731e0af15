use mathlib.Core.Path.{refl, ◌∙◌}
use Rattle.well_formed.specs.Refusing.{refuses}
use Rattle.well_formed.proofs.Refusing.{either_way, or-as, commutator-refuses, conjugate-refuses}
use Rattle.well_formed.proofs.refusals.contents.Goals as goal

pub returns-then-kind-number : goal.returns-then-kind-number
returns-then-kind-number c =
    either_way
    (or-as _ _ _ _ c.or-then-kind-number-2.ensures (or-as _ _ _ _ c.or-then-kind-number.ensures (or-as _ _ _ _ c.or.ensures refl)))
    (or-as _ _ _ _ c.or-then-kind-number-5.ensures (or-as _ _ _ _ c.or-then-kind-number-4.ensures (or-as _ _ _ _ c.or-then-kind-number-3.ensures refl)))
    ∙ commutator-refuses _ (refuses c.args.a) (refuses c.args.b) (c.if-kind-number.true ∙ c.number.ensures.value)

pub returns-then-kind-number-2 : goal.returns-then-kind-number-2
returns-then-kind-number-2 c =
    either_way
    (or-as _ _ _ _ c.or-then-kind-number-2-3.ensures (or-as _ _ _ _ c.or-then-kind-number-2-2.ensures refl))
    (or-as _ _ _ _ c.or-then-kind-number-2-5.ensures (or-as _ _ _ _ c.or-then-kind-number-2-4.ensures refl))
    ∙ conjugate-refuses _ (refuses c.args.a) (refuses c.args.b) (c.if-kind-number-2.true ∙ c.number-else-kind-number.ensures.value)
