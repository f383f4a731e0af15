-- `numbered_layers` meets its contract: each way out is one case of the rule, and a layer fits 16 bits. Assumes nothing.
use mathlib.Core.Path.{sym}
use native.Mathlib.Omega.{arith}
use lib.ListN.{drop}
use Rattle.numbers.proofs.Bounds.{number}
use Rattle.parse.proofs.LayerSets.{after-hyphen, no-layers, one-layer, two-layers}
use Rattle.parse.proofs.Past.{within, takes-uint}
use Rattle.parse.proofs.leaves.numbered_layers.Goals as goal

pub returns-in_default : goal.returns-in_default
returns-in_default c = no-layers c.args.at (drop c.args.at c.args.text.now) (rw c.in_default.is at c.uint.ensures)

pub overflow_cast-i : goal.overflow_cast-i
overflow_cast-i c = omega (arith, (number 1 32767 c.args.at (drop c.args.at c.args.text.now) _ _ _ (sym (rw c.in-Some.is at c.uint.ensures))).most)

pub layer_after_hyphen-requires : goal.layer_after_hyphen-requires
layer_after_hyphen-requires c = (within c.args.text.now c.args.at (takes-uint 1 32767) c.requires (rw c.in-Some.is at c.uint.ensures)).1

pub returns-in_default-layer_after_hyphen : goal.returns-in_default-layer_after_hyphen
returns-in_default-layer_after_hyphen c = one-layer c.args.at (drop c.args.at c.args.text.now) _ _ _ (rw c.in-Some.is at c.uint.ensures) (rw c.in_default-layer_after_hyphen.is at c.layer_after_hyphen.ensures)

pub overflow_cast-j : goal.overflow_cast-j
overflow_cast-j c = omega (arith, after-hyphen _ _ _ _ _ (rw c.in-Some-layer_after_hyphen.is at c.layer_after_hyphen.ensures))

pub returns : goal.returns
returns c =
    rw (c.min.ensures, c.max.ensures)
    (two-layers c.args.at (drop c.args.at c.args.text.now) _ _ _ (rw c.in-Some.is at c.uint.ensures) _ _ _
    (rw c.in-Some-layer_after_hyphen.is at c.layer_after_hyphen.ensures))
