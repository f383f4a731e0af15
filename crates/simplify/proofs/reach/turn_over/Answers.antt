-- `turn_over` meets its contract. The invariant: the entries before i are turned over, and those from i on would be, `far` being how far the ranges before reach. Assumes nothing.
use Prim.Native.Nat.{max}
use mathlib.Core.Path.{◌≡◌, sym, ◌∙◌}
use native.Mathlib.Omega.{arith}
use native.Mathlib.Numerals.{add-one}
use lib.Dec.{leb}
use lib.ListN.{get_or}
use borrow.Author.Tests.{le-leb, lt-leb}
use Rattle.notation.specs.Basics.{pick}
use Rattle.simplify.proofs.Over.{next-over, all-over}
use Rattle.simplify.proofs.reach.turn_over.Goals as goal
use Rattle.simplify.proofs.reach.turn_over.Goals.{then-far-i, else-far-i}

pub loop-i-preserved : goal.loop-i-preserved
loop-i-preserved c =
    let i = c.loop-i.i in
    let far = max c.loop-i.far (get_or c.loop-i.reach i 0) in
    let turned : c.if-far-i.entry ≡ pick (leb i far) 0 i =
    elim c.if-far-i.branch [ then-far-i w ↦ rw (lt-leb i far (omega (arith, c.max-far.ensures, w.if-far-i.true))) w.entry-is | else-far-i w ↦ rw (le-leb i far (omega (arith, c.max-far.ensures, w.if-far-i.false))) w.entry-is ] in
    rw (c.max-far.ensures, turned, add-one i) (next-over c.loop-i.far i c.loop-i.reach i (omega arith) ∙ c.loop-i.invariant)

pub returns : goal.returns
returns c = sym (all-over c.loop-i.far c.loop-i.i c.loop-i.reach (omega arith)) ∙ c.loop-i.invariant
