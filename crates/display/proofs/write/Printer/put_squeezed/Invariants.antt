-- The loop keeps what printing the rest of the part completes. Assumes nothing.
use Prim.Native.Nat.{◌-◌}
use lib.ListN.{length}
use Rattle.display.proofs.Squeezing.{Remaining}
use Rattle.display.proofs.write.Printer.put_squeezed.Given as goal

abbrev pub invariant-loop-i : goal.invariant-loop-i
invariant-loop-i l = Remaining l.part l.i l.initial.self l.self

abbrev pub decreases-loop-i : goal.decreases-loop-i
decreases-loop-i l = length l.part - l.i
