-- `host::hypuz_family` meets its contract: each case by its rule. Assumes nothing.
use mathlib.Core.Path.{sym, ap, subst, ◌∙◌}
use Rattle.entries.specs.Parts.{part_outcome, Fits}
use Rattle.hypuz_notation.proofs.Handing.{part-coded, no-part-coded}
use Rattle.hypuz_notation.proofs.host.hypuz_family.Goals as goal

pub returns-in-Ok : goal.returns-in-Ok
returns-in-Ok c =
    let fits = subst Fits c.in-Ok.is c.family_part.ensures.fits in
    part-coded _ _ fits.offset fits.size (ap part_outcome (sym c.in-Ok.is) ∙ c.family_part.ensures.result_value)

pub returns-in-Err : goal.returns-in-Err
returns-in-Err c =
    rw c.number.ensures (no-part-coded _ _ (ap part_outcome (sym c.in-Err.is) ∙ c.family_part.ensures.result_value))
