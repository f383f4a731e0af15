-- `ranges::resolve` meets its contract: each way out is one case of the rule. Assumes nothing.
use mathlib.Core.Path.{refl}
use Rattle.checked.proofs.Outcomes.{handed_on}
use Rattle.ranges.proofs.Answers.{resolved-refusal, resolved-full, resolved-value}
use Rattle.ranges.proofs.resolve.Goals as goal

pub returns-in_err-n : goal.returns-in_err-n
returns-in_err-n c =
    let a = c.args in
    rw (handed_on _ _ c.from_residual.ensures)
    (resolved-refusal a.text.now a.tree.now a.«record» a.max_layer a.allow_negatives a.room a.bytes.now _ c.requires _ (c.in_err-n.ensures) _ refl)

pub returns-then-room-n : goal.returns-then-room-n
returns-then-room-n c =
    let a = c.args in
    resolved-full a.text.now a.tree.now a.«record» a.max_layer a.allow_negatives a.room a.bytes.now _ c.requires _ c.in_ok-n.ensures _ refl c.if-room-n.true

pub returns : goal.returns
returns c =
    let a = c.args in
    resolved-value a.text.now a.tree.now a.«record» a.max_layer a.allow_negatives a.room a.bytes.now _ c.requires _ c.in_ok-n.ensures _ refl c.if-room-n.false
