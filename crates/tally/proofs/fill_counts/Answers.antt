-- `fill_counts` meets its contract. Assumes nothing.
use Prim.Native.Nat.{◌*◌, ◌-◌}
use native.Mathlib.Omega.{arith}
use Rattle.notation.specs.Packed.{RECORD}
use Rattle.tally.proofs.Filling.{records, filling-starts, filling-on, filling-ends, own_open, sums-capped}
use Rattle.tally.proofs.fill_counts.Goals as goal

pub loop-k-init : goal.loop-k-init
loop-k-init c = filling-starts _ c.requires.0 c.requires.1 _ (omega (arith, records _ c.requires.0 c.requires.1))

pub fill_count-requires : goal.fill_count-requires
fill_count-requires c =
    let some = c.loop-k-test.true in
    let next = RECORD * (c.loop-k.k - 1) in (
      own_open _ c.requires.0 c.requires.1 _ _ _ c.loop-k.invariant (omega (arith, some)) next (omega (arith, some)),
      sums-capped _ c.requires.0 c.requires.1 _ _ _ c.loop-k.invariant (omega (arith, some)) next (omega (arith, some)),
    )

pub loop-k-preserved : goal.loop-k-preserved
loop-k-preserved c =
    let some = c.loop-k-test.true in
    let filled = c.fill_count.ensures in
    filling-on _ c.requires.0 c.requires.1 _ _ _ c.loop-k.invariant (omega (arith, some)) (RECORD * (c.loop-k.k - 1)) (omega (arith, some)) _ _ filled.t_after filled.sums_after

pub returns : goal.returns
returns c = λ t h. filling-ends _ t h _ _ _ c.loop-k.invariant (omega (arith, c.loop-k-test.false))
