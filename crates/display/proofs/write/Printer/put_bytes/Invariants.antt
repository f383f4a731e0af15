-- The loop copies byte by byte. Assumes nothing.
use Rattle.display.proofs.Writing.{Copied}
use Rattle.display.proofs.write.Printer.put_bytes.Given as goal

abbrev pub invariant-loop-i : goal.invariant-loop-i
invariant-loop-i l = Copied l.initial.out l.at l.bytes l.out l.i
