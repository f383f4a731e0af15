-- `layer_set_element` meets its contract: each way out is one case of the rule. Assumes nothing.
use mathlib.Core.Path.{sym, ap, ◌∙◌}
use lib.ListN.{drop}
use mathlib.Core.Bool.{Bool}
use Rattle.notation.specs.Grammar.{layer_set_element}
use Rattle.parse.proofs.LayerSets.{dots-range, no-dots, no-range}
use Rattle.parse.proofs.Past.{within}
use Rattle.parse.proofs.Rules.{takes-sint}
use Rattle.parse.proofs.sets.layer_set_element.Goals as goal

pub layer_after_dots-requires : goal.layer_after_dots-requires
layer_after_dots-requires c = (within c.args.text.now c.args.at (takes-sint 1 32767 32767) c.requires (rw c.in-Some.is at c.sint.ensures)).1

pub unsigned_layer_range-requires : goal.unsigned_layer_range-requires
unsigned_layer_range-requires c = record { at_in_bounds = c.requires; first_read = sym (rw c.in-Some.is at c.sint.ensures) }

pub returns-then-hsc1 : goal.returns-then-hsc1
returns-then-hsc1 c = c.unsigned_layer_range.ensures ∙ no-dots c.args.text.now c.args.at c.in-Some.first.value c.in-Some.first.next (rw c.in-Some.is at c.sint.ensures) (rw c.in_default-layer_after_dots.is at c.layer_after_dots.ensures) ∙ ap (λ (b : Bool). layer_set_element b c.args.at (drop c.args.at c.args.text.now)) (sym c.if-hsc1.true)

pub returns-in_default-layer_after_dots : goal.returns-in_default-layer_after_dots
returns-in_default-layer_after_dots c = rw (c.single.ensures.value, c.single.ensures.next) (no-range c.args.text.now c.args.at c.in-Some.first.value c.in-Some.first.next (rw c.in-Some.is at c.sint.ensures) (rw c.in_default-layer_after_dots.is at c.layer_after_dots.ensures) ∙ ap (λ (b : Bool). layer_set_element b c.args.at (drop c.args.at c.args.text.now)) (sym c.if-hsc1.false))

pub returns : goal.returns
returns c = rw (c.range.ensures.value, c.range.ensures.next) (dots-range c.args.text.now c.args.at c.in-Some.first.value c.in-Some.first.next (rw c.in-Some.is at c.sint.ensures) c.args.hsc1 _ c.in-Some-layer_after_dots.last.next (rw c.in-Some-layer_after_dots.is at c.layer_after_dots.ensures))
