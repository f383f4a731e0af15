-- `invert::inv_refusal` meets its contract. The loop's invariant: the refusal of what is left, or else `found`, is the tree's.
-- Assumes nothing.
use mathlib.Core.Path.{◌∙◌}
use Rattle.invert.proofs.Nodes.{packed-starts}
use Rattle.invert.proofs.Loops.{looked-more, looked-all, inv-latest, inv-one}
use Rattle.invert.proofs.inv_refusal.Goals as goal

pub pair_refusal-requires : goal.pair_refusal-requires
pair_refusal-requires c = packed-starts c.loop-t.t.now c.loop-t.invariant.packed c.loop-t-test.true

pub loop-t-preserved : goal.loop-t-preserved
loop-t-preserved c =
    let step = c.node_end-e.ensures in
    looked-more _ _ _ inv-latest c.loop-t.invariant step c.or-found.ensures (c.pair_refusal.ensures ∙ inv-one step)

pub returns : goal.returns
returns c = looked-all inv-latest c.loop-t.invariant c.loop-t-test.false
