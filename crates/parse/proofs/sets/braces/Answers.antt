-- `braces` meets its contract: without a brace there is no set. Assumes nothing.
use mathlib.Core.Path.{sym, ◌∙◌}
use borrow.Author.Tests.{eqb-true}
use Rattle.parse.proofs.InBraces.{no-brace}
use Rattle.parse.proofs.sets.braces.Goals as goal

pub in_braces-requires : goal.in_braces-requires
in_braces-requires g c = (c.requires, eqb-true _ _ (sym c.has.ensures ∙ c.if-has.true))

pub returns-then-has : goal.returns-then-has
returns-then-has g c = c.in_braces.ensures

pub returns : goal.returns
returns g c = no-brace (g.E.Element.reads c.args.element) c.args.text.now c.args.at (sym c.has.ensures ∙ c.if-has.false)
