-- What is written lies in the buffer: the listing stands at its front.
use Rattle.std.proofs.Common.{sym}
use lib.Seq.{length-take-le}
use Rattle.listing.proofs.Lending.{front_fits}
use Rattle.lister.proofs.main.Goals as goal

pub slice_bounds-out-end : goal.slice_bounds-out-end
slice_bounds-out-end c = front_fits c.list_whole-size.ensures

pub slice_bounds-write_all-end : goal.slice_bounds-write_all-end
slice_bounds-write_all-end c = sym (length-take-le c.list_whole-size.result _ (front_fits c.list_whole-size.ensures))
