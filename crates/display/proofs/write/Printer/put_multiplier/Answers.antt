-- The magnitude, then the quote. Assumes nothing.
use Rattle.notation.specs.Numbers.{from_bits}
use Rattle.display.proofs.Writing.{wrote_then}
use Rattle.display.proofs.Signs.{multiplier-is}
use Rattle.display.proofs.write.Printer.put_multiplier.Goals as goal

pub returns : goal.returns
returns c =
    multiplier-is (from_bits 32 c.args.bits) c.is_negative.ensures c.magnitude.ensures (wrote_then c.put_magnitude.ensures c.put_if.ensures)
