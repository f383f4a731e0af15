-- One after the other. Assumes nothing.
use Rattle.display.proofs.Writing.{wrote_then}
use Rattle.display.proofs.write.Printer.put_closing.Goals as goal

pub returns : goal.returns
returns c = wrote_then c.put.ensures c.put_multiplier.ensures
