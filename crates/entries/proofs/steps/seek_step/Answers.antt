-- `steps::seek_step` meets its contract: each way out is one case of the rule. Assumes nothing.
use mathlib.Core.Path.{refl}
use Rattle.entries.proofs.Stepping.{seek-past, seek-short, seek-written}
use Rattle.entries.proofs.steps.seek_step.Goals as goal

pub returns-then-steps-place : goal.returns-then-steps-place
returns-then-steps-place c =
    let a = c.args in
    let counted = c.in-Ok.ensures.counted _ refl in
    seek-past a.text.now a.tree.now _ counted a.step.now a.place c.if-steps-place.true

pub returns-then-step-lt-RECORD : goal.returns-then-step-lt-RECORD
returns-then-step-lt-RECORD c =
    let a = c.args in
    let counted = c.in-Ok.ensures.counted _ refl in
    seek-short a.text.now a.tree.now _ counted a.step.now a.place c.if-steps-place.false c.if-step-lt-RECORD.true

pub returns : goal.returns
returns c =
    let a = c.args in
    let counted = c.in-Ok.ensures.counted _ refl in
    seek-written a.text.now a.tree.now _ counted a.step.now a.place c.if-steps-place.false c.if-step-lt-RECORD.false _ c.seek.ensures
