-- `constraint_set` meets its contract: of the elements only the ends are told. Assumes nothing.
use mathlib.Core.Path.{◌∙◌}
use lib.ListN.{drop}
use Rattle.parse.proofs.InBraces.{constraint-set-ends}
use Rattle.parse.proofs.sets.constraint_set.Goals as goal

pub returns : goal.returns
returns c = c.braces.ensures ∙ constraint-set-ends c.args.at (drop c.args.at c.args.text.now)
