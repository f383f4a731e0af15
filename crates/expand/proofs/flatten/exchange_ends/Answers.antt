-- `flatten::exchange_ends` meets its contract. Assumes nothing.
use Rattle.expand.proofs.Turning.{front-starts, back-starts, ends-exchanged}
use Rattle.expand.proofs.flatten.exchange_ends.Goals as goal

pub undo_record-requires : goal.undo_record-requires
undo_record-requires c =
    front-starts c.requires.record_size_in_bounds c.requires.starts_record c.copy_record.ensures c.copy_record-2.ensures c.copy_record-3.ensures c.copy_record-4.ensures

pub undo_record-requires-2 : goal.undo_record-requires-2
undo_record-requires-2 c =
    back-starts c.requires.record_size_in_bounds c.requires.starts_record c.copy_record.ensures c.copy_record-2.ensures c.copy_record-3.ensures c.copy_record-4.ensures c.undo_record.ensures

pub returns : goal.returns
returns c =
    ends-exchanged c.requires.record_size_in_bounds c.requires.starts_record c.copy_record.ensures c.copy_record-2.ensures c.copy_record-3.ensures c.copy_record-4.ensures c.undo_record.ensures c.undo_record-2.ensures
