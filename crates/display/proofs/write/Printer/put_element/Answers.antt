-- The two numbers with dots between them. Assumes nothing.
use Rattle.display.proofs.Writing.{wrote_then}
use Rattle.display.proofs.write.Printer.put_element.Goals as goal

pub returns-in-Range : goal.returns-in-Range
returns-in-Range c =
    rw c.in-Range.is
    (wrote_then c.put_signed-in-Range.ensures (wrote_then c.put.ensures (wrote_then c.put-in-Range.ensures c.put_signed-in-Range-2.ensures)))
