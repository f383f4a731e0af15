-- `seek::write_step` meets its contract. Assumes nothing.
use Rattle.expand.proofs.Seeking.{step-turned, copy-starts}
use Rattle.expand.proofs.seek.write_step.Goals as goal

pub undo_record-requires : goal.undo_record-requires
undo_record-requires c = copy-starts c.args.step.now c.requires.undoable c.copy_record.ensures

pub returns-then-inverted : goal.returns-then-inverted
returns-then-inverted c = λ x u e.
    let a = c.args in
    step-turned a.inverted x a.step.now c.if-inverted.true u e c.copy_record.ensures c.undo_record.ensures
