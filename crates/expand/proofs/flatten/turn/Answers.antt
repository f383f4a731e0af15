-- `flatten::turn` meets its contract. Assumes nothing.
use Rattle.expand.proofs.Turning.{turning-starts, two-long, ends-start, turning-goes-on, only-starts, turned-odd, turned-even}
use Rattle.expand.proofs.flatten.turn.Goals as goal

pub loop-from-init : goal.loop-from-init
loop-from-init c = turning-starts _ c.requires

pub exchange_ends-requires : goal.exchange_ends-requires
exchange_ends-requires c =
    record { record_size_in_bounds = two-long c.requires c.loop-from.invariant c.loop-from-test.true; starts_record = ends-start c.requires c.loop-from.invariant c.loop-from-test.true }

pub loop-from-preserved : goal.loop-from-preserved
loop-from-preserved c =
    turning-goes-on c.requires c.loop-from.invariant c.loop-from-test.true c.exchange_ends.ensures c.exchange_ends.auto.steps

pub undo_record-requires : goal.undo_record-requires
undo_record-requires c =
    only-starts c.requires c.loop-from.invariant c.loop-from-test.false c.if-from-to.true

pub returns-then-from-to : goal.returns-then-from-to
returns-then-from-to c =
    turned-odd c.requires c.loop-from.invariant c.loop-from-test.false c.if-from-to.true c.undo_record.ensures

pub returns-else-from-to : goal.returns-else-from-to
returns-else-from-to c = turned-even c.requires c.loop-from.invariant c.if-from-to.false
