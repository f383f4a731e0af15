-- `fill` meets its contract: one more range stands at the front after each turn.
use Rattle.std.proofs.Common.{List, slice_set, ap₂, ◌∙◌}
use Rattle.layer.specs.declared.range.LayerRange.{LayerRange}
use Rattle.ranges.proofs.Front.{next-front}
use Rattle.ranges.proofs.fill.Goals as goal

pub loop-k-preserved : goal.loop-k-preserved
loop-k-preserved c =
    let k = c.loop-k.k in
    ap₂ (λ (rs : List LayerRange) (r : LayerRange). slice_set rs k r) c.loop-k.invariant c.range_at.ensures ∙ next-front c.args.bytes.now c.args.ranges.now k c.loop-k-test.true
