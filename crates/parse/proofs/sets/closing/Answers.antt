-- `closing` meets its contract. Assumes nothing.
use mathlib.Core.Path.{sym, ◌∙◌}
use native.Mathlib.Omega.{arith}
use Rattle.parse.proofs.Bytes.{just-is, just-not}
use Rattle.parse.proofs.sets.closing.Goals as goal

pub returns-then-has : goal.returns-then-has
returns-then-has c = sym (just-is "}" c.args.text.now c.args.at (omega arith) (sym c.has.ensures ∙ c.if-has.true))

pub returns-else-has : goal.returns-else-has
returns-else-has c = sym (just-not "}" c.args.text.now c.args.at (sym c.has.ensures ∙ c.if-has.false))
