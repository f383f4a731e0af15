-- `inverses::invert` meets its contract: each way out is one case of the rule. Assumes nothing.
use mathlib.Core.Path.{sym, ap, ◌∙◌}
use Rattle.notation.specs.Lending.{number_of}
use Rattle.entries.proofs.Inverting.{inverting, inverse-refused, inverse-short, inverse-written}
use Rattle.entries.proofs.inverses.invert.Goals as goal

pub returns-in-Some : goal.returns-in-Some
returns-in-Some g c =
    let a = c.args in
    inverse-refused (inverting g.I.Inverse.deep a.text.now a.tree.now) a.out.now c.in_ok-check.ensures.found.accepted _ (ap number_of (sym c.in-Some.is) ∙ c.refusal.ensures)

pub returns-then-out-size : goal.returns-then-out-size
returns-then-out-size g c =
    let a = c.args in
    inverse-short (inverting g.I.Inverse.deep a.text.now a.tree.now) a.out.now c.in_ok-check.ensures.found.accepted (ap number_of (sym c.in_default.is) ∙ c.refusal.ensures) c.if-out-size.true

pub returns : goal.returns
returns g c =
    let a = c.args in
    inverse-written (inverting g.I.Inverse.deep a.text.now a.tree.now) a.out.now c.in_ok-check.ensures.found.accepted (ap number_of (sym c.in_default.is) ∙ c.refusal.ensures)
    c.if-out-size.false _ c.write.ensures
