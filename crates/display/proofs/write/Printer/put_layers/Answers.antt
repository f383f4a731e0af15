-- The two numbers with a hyphen between them. Assumes nothing.
use Rattle.display.proofs.Writing.{wrote_then}
use Rattle.display.proofs.write.Printer.put_layers.Goals as goal

pub returns-in-Range : goal.returns-in-Range
returns-in-Range c =
    rw c.in-Range.is (wrote_then c.put_number-in-Range.ensures (wrote_then c.put.ensures c.put_number-in-Range-2.ensures))
