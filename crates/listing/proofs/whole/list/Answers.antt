-- Measured, and then written where it fits. Assumes nothing.
use native.Mathlib.Omega.{arith}
use Rattle.notation.specs.Lister.{lister}
use Rattle.listing.proofs.Lending.{measured-short, measured-written}
use Rattle.listing.proofs.whole.list.Goals as goal

pub returns-then-out-size : goal.returns-then-out-size
returns-then-out-size c =
    let a = c.args in
    measured-short (lister a.input.now) a.out.now _ c.print-size.ensures.counts (omega (arith, c.well_formed)) c.if-out-size.true

pub returns : goal.returns
returns c =
    let a = c.args in
    measured-written (lister a.input.now) a.out.now _ c.print-size.ensures.counts (omega (arith, c.well_formed)) c.if-out-size.false c.print.ensures.prints
