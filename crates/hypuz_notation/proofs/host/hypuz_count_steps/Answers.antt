-- `host::hypuz_count_steps` meets its contract: it hands over what the entry answers. Assumes nothing.
use mathlib.Core.Path.{ap, ◌∙◌}
use Rattle.notation.specs.Host.{coded}
use Rattle.hypuz_notation.proofs.host.hypuz_count_steps.Goals as goal

pub returns : goal.returns
returns c = c.code.ensures ∙ ap coded c.count_steps.ensures.answer
