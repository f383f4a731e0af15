-- `simplify_range` meets its contract: one range or none, which stays as it is. Assumes nothing.
use Rattle.simplify.proofs.Listed.{listed-simplified}
use Rattle.simplify.proofs.around.simplify_range.Goals as goal

pub returns : goal.returns
returns c = rw (← listed-simplified c.clamp_to_layer_count.result _ c.clamp_to_layer_count.ensures.result_value) c.answer_both.ensures
