-- `bound::fits` meets its contract: only where all records were counted off does it say that the text fits. Assumes nothing.
use lib.ListN.{length}
use Rattle.display.proofs.Sure.{Going}
use Rattle.display.proofs.bound.fits.Given as goal

abbrev pub invariant-loop-t : goal.invariant-loop-t
invariant-loop-t l = Going l.tree l.t l.room l.left

abbrev pub decreases-loop-t : goal.decreases-loop-t
decreases-loop-t l = length l.t
