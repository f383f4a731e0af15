-- The loop keeps what printing the rest of the part completes. Assumes nothing.
use mathlib.Core.Path.{sym, ◌∙◌}
use native.Mathlib.Omega.{arith}
use Rattle.display.proofs.Squeezing.{byte_put, space-fits, space-passed, none-remains}
use Rattle.display.proofs.write.Printer.put_squeezed.Goals as goal

pub loop-i-preserved-in-0 : goal.loop-i-preserved-in-0
loop-i-preserved-in-0 c =
    byte_put c.loop-i.invariant c.loop-i-test.true (sym c.whitespace_width.ensures ∙ c.in-0.is) c.put-self.ensures

pub overflow_add-i-in_default : goal.overflow_add-i-in_default
overflow_add-i-in_default c =
    record { fits = omega (arith, c.well_formed, space-fits c.loop-i.invariant _ c.whitespace_width.ensures) }

pub loop-i-preserved : goal.loop-i-preserved
loop-i-preserved c =
    space-passed c.loop-i.invariant c.whitespace_width.result c.whitespace_width.ensures c.in_default.in_default-own.rest.1

pub returns : goal.returns
returns c = none-remains c.loop-i.invariant (omega (arith, c.loop-i-test.false))
