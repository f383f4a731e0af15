-- A sign, then the magnitude. Assumes nothing.
use Rattle.notation.specs.Numbers.{from_bits}
use Rattle.display.proofs.Writing.{wrote_then}
use Rattle.display.proofs.Signs.{signed-is}
use Rattle.display.proofs.write.Printer.put_signed.Goals as goal

pub returns : goal.returns
returns c =
    signed-is (from_bits 32 c.args.bits) c.is_negative.ensures c.magnitude.ensures (wrote_then c.put_if.ensures c.put_number.ensures)
