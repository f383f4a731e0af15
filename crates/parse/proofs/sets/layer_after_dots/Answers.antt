-- `layer_after_dots` meets its contract. Assumes nothing.
use mathlib.Core.Path.{sym, ◌∙◌}
use native.Mathlib.Omega.{arith}
use Rattle.parse.proofs.Bytes.{word-is, word-not, two-inside}
use Rattle.parse.proofs.sets.layer_after_dots.Goals as goal

pub sint-requires : goal.sint-requires
sint-requires c = (two-inside "." "." c.args.text.now c.args.at (omega arith) (omega arith) (sym c.has_two.ensures ∙ c.if-has_two.true), omega arith, omega arith)

pub returns-then-has_two : goal.returns-then-has_two
returns-then-has_two c = rw (word-is "." "." c.args.text.now c.args.at (omega arith) (omega arith) (sym c.has_two.ensures ∙ c.if-has_two.true)) c.sint.ensures

pub returns-else-has_two : goal.returns-else-has_two
returns-else-has_two c = rw (word-not "." "." c.args.text.now c.args.at (omega arith) (sym c.has_two.ensures ∙ c.if-has_two.false))
