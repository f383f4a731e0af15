-- Every listing fits. Assumes nothing.
use native.Mathlib.Omega.{arith}
use Rattle.notation.specs.Lister.{lister}
use Rattle.size_laws.proofs.Listing.{listing-fits}
use Rattle.listing.proofs.Lending.{at_front}
use Rattle.listing.proofs.whole.list_whole.Goals as goal

pub returns : goal.returns
returns c =
    let a = c.args in
    let w = c.print.ensures in
    at_front (lister a.input.now) a.out.now w.counts w.prints (omega (arith, c.well_formed)) (omega (arith, c.well_formed, listing-fits a.input.now))
