-- The digits fill an array from its end, and the part that they fill is copied. Assumes nothing.
use mathlib.Core.List.{[]}
use Rattle.notation.specs.Numbers.{show}
use Rattle.display.proofs.Decimals.{Left}
use Rattle.display.proofs.write.Printer.put_long_number.Given as goal

abbrev pub invariant-loop-rest : goal.invariant-loop-rest
invariant-loop-rest l = Left l.digits l.rest l.i (show l.n [])

abbrev pub decreases-loop-rest : goal.decreases-loop-rest
decreases-loop-rest l = l.rest
