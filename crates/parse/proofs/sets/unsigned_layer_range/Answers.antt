-- `unsigned_layer_range` meets its contract: a `-` before the first number leaves it by itself. Assumes nothing.
use mathlib.Core.Path.{sym, ◌∙◌}
use Rattle.parse.proofs.LayerSets.{negative-single, hyphen-single, hyphen-range}
use Rattle.parse.proofs.Past.{within}
use Rattle.parse.proofs.Rules.{takes-sint}
use Rattle.parse.proofs.sets.unsigned_layer_range.Goals as goal

pub returns-then-has : goal.returns-then-has
returns-then-has c = rw (c.single.ensures.value, c.single.ensures.next) (negative-single c.args.text.now c.args.at c.args.first.value c.args.first.next (sym c.requires.first_read) (sym c.has.ensures ∙ c.if-has.true))

pub layer_after_hyphen-requires : goal.layer_after_hyphen-requires
layer_after_hyphen-requires c = (within c.args.text.now c.args.at (takes-sint 1 32767 32767) c.requires.at_in_bounds (sym c.requires.first_read)).1

pub returns-in_default : goal.returns-in_default
returns-in_default c = rw (c.single-in_default.ensures.value, c.single-in_default.ensures.next) (hyphen-single c.args.text.now c.args.at c.args.first.value c.args.first.next (sym c.requires.first_read) (sym c.has.ensures ∙ c.if-has.false) (rw c.in_default.is at c.layer_after_hyphen.ensures))

pub returns : goal.returns
returns c = rw (c.range.ensures.value, c.range.ensures.next) (hyphen-range c.args.text.now c.args.at c.args.first.value c.args.first.next (sym c.requires.first_read) (sym c.has.ensures ∙ c.if-has.false) _ _ (rw c.in-Some.is at c.layer_after_hyphen.ensures))
