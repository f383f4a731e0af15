-- `flatten::turn_if` meets its contract. Assumes nothing.
use Rattle.expand.proofs.Completing.{turned-written, kept-written}
use Rattle.expand.proofs.flatten.turn_if.Goals as goal

pub returns-then-inverted : goal.returns-then-inverted
returns-then-inverted c = turned-written c.requires c.if-inverted.true c.turn.ensures

pub returns-else-inverted : goal.returns-else-inverted
returns-else-inverted c = kept-written c.requires c.if-inverted.false
