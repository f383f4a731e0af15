-- `simplify_around` meets its contract: the layers beside a range are those that it leaves over. Assumes nothing.
use Rattle.simplify.proofs.Beside.{around}
use Rattle.simplify.proofs.around.simplify_around.Goals as goal

pub returns : goal.returns
returns c =
    let a = c.args in
    rw (← around a.range.min.0 a.range.max.0 a.max_layer c.requires.range c.min.result c.min.ensures, ← c.some_range-before.ensures, ← c.some_range-after.ensures) c.answer_both.ensures
