-- `digits` meets its contract: what the digits from `at + i` on give after `value` is what all of them give, and the run's end stays the same.
-- Assumes nothing.
use Rattle.std.proofs.Common.{◌+◌}
use Rattle.numbers.proofs.DigitRuns as runs
use Rattle.numbers.proofs.decimal.digits.Given as goal

abbrev pub invariant-loop-i : goal.invariant-loop-i
invariant-loop-i l = runs.Kept l.s l.at l.value (l.at + l.i)
