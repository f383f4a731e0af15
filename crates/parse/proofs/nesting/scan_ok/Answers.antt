-- `nesting::scan_ok` meets its contract: the brackets seen so far are allowed, and the rest decides. Assumes nothing.
use mathlib.Core.Path.{refl, sym, ◌∙◌}
use native.Mathlib.Nat.{add-zero}
use native.Mathlib.Omega.{arith}
use Rattle.parse.proofs.NestingScan.{opening, closing, neither, scan-end, scan-on, scan-refused}
use Rattle.parse.proofs.nesting.scan_ok.Goals as goal
use Rattle.parse.proofs.nesting.scan_ok.Goals.{in-40+else-closed-opened, in-41, in_default}

pub returns-then-closed-opened : goal.returns-then-closed-opened
returns-then-closed-opened c =
    scan-refused c.args.text.now c.loop-b.opened c.loop-b.closed c.loop-b.b-index c.loop-b.invariant c.loop-b-test.true _ _ (opening _ c.in-40.is)
    _ _ refl (sym (add-zero c.loop-b.closed)) c.if-closed-opened.true

pub loop-b-preserved : goal.loop-b-preserved
loop-b-preserved c =
    let on = scan-on c.args.text.now c.loop-b.opened c.loop-b.closed c.loop-b.b-index c.loop-b.invariant c.loop-b-test.true in
    let same-opened = sym (add-zero c.loop-b.opened) in
    let same-closed = sym (add-zero c.loop-b.closed) in
    let few = c.loop-b.invariant.allowed in
    elim c.match-b.branch [
      | in-40+else-closed-opened w ↦ on 1 0 (opening _ w.in-40.is) c.match-b.opened c.match-b.closed w.opened-is (w.closed-is ∙ same-closed) (omega arith) (omega arith) (rw (w.opened-is, w.closed-is) w.if-closed-opened.false)
      | in-41 w ↦ on 0 1 (closing _ w.in-41.is) c.match-b.opened c.match-b.closed (w.opened-is ∙ same-opened) w.closed-is (omega arith) (omega arith) (rw (w.opened-is, w.closed-is) (omega (arith, few)))
      | in_default w ↦ on 0 0 (neither _ w.in_default.in_default-own.rest.0.1 w.in_default.in_default-own.rest.1) c.match-b.opened c.match-b.closed (w.opened-is ∙ same-opened) (w.closed-is ∙ same-closed) (omega arith) (omega arith) (rw (w.opened-is, w.closed-is) few)
    ]

pub returns : goal.returns
returns c =
    scan-end c.args.text.now c.loop-b.opened c.loop-b.closed c.loop-b.b-index c.loop-b.invariant (omega (arith, c.loop-b-test.false))
