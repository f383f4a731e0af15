-- `nesting::nesting_ok` meets its contract: what stands before is allowed, and the rest decides. Assumes nothing.
use Rattle.parse.proofs.NestingScan.{blocks-on, blocks_end}
use Rattle.parse.proofs.nesting.nesting_ok.Goals as goal

pub loop-block-preserved : goal.loop-block-preserved
loop-block-preserved c =
    blocks-on c.args.text.now c.loop-block.t.now c.loop-block.opened c.loop-block.closed c.loop-block.invariant c.in-Some.block.now c.in-Some.rest.now c.in-Some.ensures.cases _ _ c.count-more.ensures c.count-closed.ensures c.if-closed-opened.false

pub returns : goal.returns
returns c =
    blocks_end c.args.text.now c.loop-block.t.now c.loop-block.opened c.loop-block.closed c.loop-block.invariant c.if-closed-opened-2.false
