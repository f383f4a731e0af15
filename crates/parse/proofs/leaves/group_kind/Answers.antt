-- `group_kind` meets its contract: the choices before reject at another byte. Assumes nothing.
use mathlib.Core.Path.{sym, ◌∙◌}
use native.Mathlib.Omega.{arith}
use Rattle.parse.proofs.Bytes.{just-is, just-not}
use Rattle.parse.proofs.leaves.group_kind.Goals as goal

pub returns-then-has : goal.returns-then-has
returns-then-has c = rw (just-is "!" c.args.text.now c.args.at (omega arith) (sym c.has.ensures ∙ c.if-has.true))

pub returns-then-has-2 : goal.returns-then-has-2
returns-then-has-2 c = rw (just-not "!" c.args.text.now c.args.at (sym c.has.ensures ∙ c.if-has.false), just-is "&" c.args.text.now c.args.at (omega arith) (sym c.has-2.ensures ∙ c.if-has-2.true))

pub returns-then-has-3 : goal.returns-then-has-3
returns-then-has-3 c = rw (just-not "!" c.args.text.now c.args.at (sym c.has.ensures ∙ c.if-has.false), just-not "&" c.args.text.now c.args.at (sym c.has-2.ensures ∙ c.if-has-2.false), just-is "^" c.args.text.now c.args.at (omega arith) (sym c.has-3.ensures ∙ c.if-has-3.true))

pub returns : goal.returns
returns c = rw (just-not "!" c.args.text.now c.args.at (sym c.has.ensures ∙ c.if-has.false), just-not "&" c.args.text.now c.args.at (sym c.has-2.ensures ∙ c.if-has-2.false), just-not "^" c.args.text.now c.args.at (sym c.has-3.ensures ∙ c.if-has-3.false))
