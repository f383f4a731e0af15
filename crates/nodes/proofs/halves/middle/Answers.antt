-- `halves::middle` meets its contract. Assumes nothing.
use native.Mathlib.Omega.{arith}
use Rattle.nodes.proofs.Nodes.{rest-less}
use Rattle.nodes.proofs.Parting.{parting-starts, parting-long, parting-goes-on, parting-stops, parting-ends}
use Rattle.nodes.proofs.halves.middle.Goals as goal

pub loop-t-init : goal.loop-t-init
loop-t-init c = parting-starts _ c.requires

pub returns-then-t-end : goal.returns-then-t-end
returns-then-t-end c = parting-stops c.requires c.loop-t.invariant c.node_end-end.ensures c.if-t-end.true

pub overflow_add-at : goal.overflow_add-at
overflow_add-at c =
    omega (arith, parting-long c.requires c.loop-t.invariant, c.node_end-end.ensures.most, c.well_formed)

pub loop-t-smaller : goal.loop-t-smaller
loop-t-smaller c = rest-less c.loop-t.t.now _ c.node_end-end.ensures.least c.node_end-end.ensures.most

pub loop-t-preserved : goal.loop-t-preserved
loop-t-preserved c =
    parting-goes-on c.requires c.loop-t.invariant c.node_end-end.ensures c.if-t-end.false

pub returns : goal.returns
returns c = parting-ends c.requires c.loop-t.invariant c.loop-t-test.false
