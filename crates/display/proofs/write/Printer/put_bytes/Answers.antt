-- The loop copies byte by byte. Assumes nothing.
use Rattle.display.proofs.Writing.{copied-one}
use Rattle.display.proofs.write.Printer.put_bytes.Goals as goal

pub loop-i-preserved : goal.loop-i-preserved
loop-i-preserved c = copied-one c.loop-i.invariant c.loop-i-test.true
