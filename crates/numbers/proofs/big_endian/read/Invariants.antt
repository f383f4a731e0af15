-- `big_endian::read` meets its contract: the number is that of the bytes so far. Assumes nothing.
use Rattle.std.proofs.Common.{◌≡◌, take}
use Rattle.notation.specs.Numbers.{from_big_endian}
use Rattle.numbers.proofs.big_endian.read.Given as goal

abbrev pub invariant-loop-b : goal.invariant-loop-b
invariant-loop-b g l = l.n ≡ from_big_endian (take l.b-index l.b-items)
