-- `flatten::repeat` meets its contract. Assumes nothing.
use Rattle.expand.proofs.Repeating.{repeating-starts, repeating-goes-on}
use Rattle.expand.proofs.flatten.repeat.Goals as goal

pub loop-i-init : goal.loop-i-init
loop-i-init c = repeating-starts _ _ _ c.requires.0 c.requires.1

pub loop-i-preserved : goal.loop-i-preserved
loop-i-preserved c =
    repeating-goes-on _ _ _ _ _ c.requires.1 c.loop-i.invariant c.loop-i-test.true
