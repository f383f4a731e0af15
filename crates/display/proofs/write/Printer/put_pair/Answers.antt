-- One after the other. Assumes nothing.
use Rattle.notation.specs.Print.{put_step}
use Rattle.display.proofs.Writing.{wrote_then}
use Rattle.display.proofs.write.Printer.put_pair.Goals as goal

pub returns : goal.returns
unfolding put_step
returns c =
    wrote_then c.put.ensures (wrote_then c.put_signed.ensures (wrote_then c.put-2.ensures (wrote_then c.put-3.ensures
    (wrote_then c.put_signed-2.ensures c.put-4.ensures))))
