-- `charsets::utf8::run_end` meets its contract: by the laws of a walk along a run. Assumes nothing.
use mathlib.Core.Path.{◌∙◌, refl, sym}
use native.Mathlib.Omega.{arith}
use Rattle.charsets.proofs.Runs.{fits, goes_on, arrived, at-the-end}
use Rattle.charsets.proofs.Widths.{width-ascii}
use Rattle.charsets.proofs.utf8.run_end.Goals as goal

pub returns-then-width-eq0 : goal.returns-then-width-eq0
returns-then-width-eq0 g c = arrived _ c.loop-end.invariant c.wide_width-width.ensures c.if-width-eq0.true

pub overflow_add-end : goal.overflow_add-end
overflow_add-end g c = omega (arith, fits _ c.loop-end.invariant c.wide_width-width.ensures)

pub loop-end-preserved-then-a-gt127 : goal.loop-end-preserved-then-a-gt127
loop-end-preserved-then-a-gt127 g c = goes_on _ c.loop-end.invariant c.wide_width-width.ensures (omega arith)

pub loop-end-preserved : goal.loop-end-preserved
loop-end-preserved g c =
    goes_on _ c.loop-end.invariant
    (width-ascii g.W.Wanted.rule c.args.s.now c.loop-end.end c.byte_at-a.ensures c.if-a-gt127.false (sym c.if-is_ascii_wanted.true ∙ c.is_ascii_wanted.ensures) refl)
    (omega arith)

pub returns-else-is_ascii_wanted : goal.returns-else-is_ascii_wanted
returns-else-is_ascii_wanted g c =
    arrived _ c.loop-end.invariant
    (width-ascii g.W.Wanted.rule c.args.s.now c.loop-end.end c.byte_at-a.ensures c.if-a-gt127.false (sym c.if-is_ascii_wanted.false ∙ c.is_ascii_wanted.ensures) refl)
    refl

pub returns : goal.returns
returns g c = at-the-end _ c.loop-end.invariant c.loop-end-test.false
