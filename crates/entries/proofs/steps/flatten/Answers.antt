-- `steps::flatten` meets its contract: each way out is one case of the rule. Assumes nothing.
use mathlib.Core.Path.{refl}
use Rattle.entries.proofs.Stepping.{flatten-short, flatten-written}
use Rattle.entries.proofs.steps.flatten.Goals as goal

pub returns-then-out-size : goal.returns-then-out-size
returns-then-out-size c =
    let a = c.args in
    let counted = c.in-Ok.ensures.counted _ refl in
    flatten-short a.text.now a.tree.now _ counted a.out.now c.if-out-size.true

pub returns : goal.returns
returns c =
    let a = c.args in
    let counted = c.in-Ok.ensures.counted _ refl in
    flatten-written a.text.now a.tree.now _ counted a.out.now c.if-out-size.false _ _ c.flatten.ensures
