-- `multiplier` meets its contract: the number, and its opposite where a prime follows. Assumes nothing.
use native.Mathlib.Omega.{arith}
use Rattle.numbers.proofs.Bounds.{negated, not-negated}
use Rattle.parse.proofs.LeafReaders.{positive, negative}
use Rattle.parse.proofs.leaves.multiplier.Goals as goal

pub returns-then-next-times : goal.returns-then-next-times
returns-then-next-times c =
    let a = c.args in
    let n = c.number-times in
    rw (not-negated n.result.value (omega (arith, n.ensures.bits_bound)))
    (positive a.features a.text.now a.at _ _ _ n.ensures.result_value c.prime_end-next.ensures c.if-next-times.true)

pub returns : goal.returns
returns c =
    let a = c.args in
    let n = c.number-times in
    rw (negated n.result.value c.negate.result (omega (arith, n.ensures.bits_bound)) c.negate.ensures)
    (negative a.features a.text.now a.at _ _ _ n.ensures.result_value c.prime_end-next.ensures c.if-next-times.false)
