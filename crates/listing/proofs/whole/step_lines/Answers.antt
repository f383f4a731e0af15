-- Each turn puts a line of what is left. Assumes nothing.
use mathlib.Core.Bool.{false}
use native.Mathlib.Omega.{arith}
use Rattle.notation.specs.Packed.{unpack}
use Rattle.laws.proofs.Counting.{count-is}
use Rattle.checked.proofs.Played.{there}
use Rattle.listing.proofs.StepLoop.{listed-goes-on, listed-all}
use Rattle.listing.proofs.whole.step_lines.Goals as goal

pub loop-place-preserved : goal.loop-place-preserved
loop-place-preserved c =
    let a = c.args in
    let t = there a.text.now a.tree.now a.n c.requires c.loop-place.place (omega arith) in
    listed-goes-on c.loop-place.invariant t.step t.is (omega arith) (c.step_line-printer.ensures t.step t.is)

pub returns : goal.returns
returns c =
    let a = c.args in
    listed-all c.loop-place.invariant (omega (arith, count-is (unpack a.tree.now) false))
