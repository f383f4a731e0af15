-- `negative` meets its contract: the bits are those of the opposite, since the magnitude fits. Assumes nothing.
use Rattle.std.proofs.Common.{rules}
use Rattle.numbers.proofs.Bounds.{negative-read}
use Rattle.numbers.proofs.decimal.negative.Goals as goal

pub returns : goal.returns
returns c = negative-read _ _ _ _ _ _ _ _ (search rules) c.in_ok-number.ensures c.negate.ensures
