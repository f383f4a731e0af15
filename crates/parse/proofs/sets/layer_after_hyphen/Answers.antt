-- `layer_after_hyphen` meets its contract. Assumes nothing.
use mathlib.Core.Path.{sym, ◌∙◌}
use native.Mathlib.Omega.{arith}
use Rattle.parse.proofs.Bytes.{seen, just-is, just-not}
use Rattle.parse.proofs.sets.layer_after_hyphen.Goals as goal

pub uint-requires : goal.uint-requires
uint-requires c = omega (arith, seen c.args.text.now c.args.at 45 (omega arith) (sym c.has.ensures ∙ c.if-has.true))

pub returns-then-has : goal.returns-then-has
returns-then-has c = rw (just-is "-" c.args.text.now c.args.at (omega arith) (sym c.has.ensures ∙ c.if-has.true)) c.uint.ensures

pub returns-else-has : goal.returns-else-has
returns-else-has c = rw (just-not "-" c.args.text.now c.args.at (sym c.has.ensures ∙ c.if-has.false))
