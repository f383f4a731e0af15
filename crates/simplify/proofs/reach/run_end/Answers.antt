-- `run_end` meets its contract. The invariant: the run from `low` to `high` and the entries from `i` on join to the runs from `low`
-- on, and no entry beyond the layer after the run was passed. Assumes nothing.
use mathlib.Core.Path.{sym, ◌∙◌}
use native.Mathlib.Omega.{arith}
use Rattle.simplify.proofs.Sweep.{opens, grows, ends, ends-with-table}
use Rattle.simplify.proofs.reach.run_end.Goals as goal

pub loop-i-init : goal.loop-i-init
loop-i-init c =
    let a = c.args in
    let far = c.requires.reaches.far a.low c.requires.low_in_bounds.1 in (
      far,
      omega arith,
      omega (arith, far),
      opens a.reach.now a.low c.requires.low_in_bounds.0 c.requires.low_in_bounds.1,
    )

pub returns-then-high-i : goal.returns-then-high-i
returns-then-high-i c =
    let kept = c.loop-i.invariant in
    record { ordered = kept.0; run = sym kept.3 ∙ ends _ _ c.loop-i.high c.loop-i.i kept.2 (omega (arith, c.if-high-i.true)) }

pub loop-i-preserved : goal.loop-i-preserved
loop-i-preserved c =
    let kept = c.loop-i.invariant in
    rw c.max-high.ensures (
      omega arith,
      omega arith,
      omega (arith, c.if-high-i.false),
      sym (grows c.args.reach.now c.args.low c.loop-i.high c.loop-i.i c.requires.reaches kept.0 kept.1 (omega (arith, c.if-high-i.false)) (omega (arith, c.loop-i-test.true))) ∙ kept.3,
    )

pub returns : goal.returns
returns c =
    let kept = c.loop-i.invariant in
    record { ordered = kept.0; run = sym kept.3 ∙ ends-with-table _ _ c.loop-i.high c.loop-i.i kept.2 (omega (arith, c.loop-i-test.false)) }
