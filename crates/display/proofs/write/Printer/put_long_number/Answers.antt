-- The digits fill an array from its end, and the part that they fill is copied. Assumes nothing.
use Prim.Native.Nat.{ℕ}
use native.Mathlib.Omega.{arith}
use mathlib.Core.Path.{ap, ◌∙◌}
use mathlib.Core.List.{List, ◌++◌}
use Rattle.notation.specs.Numbers.{show}
use Rattle.display.proofs.Writing.{wrote_as}
use Rattle.display.proofs.Decimals.{one_less, none_left, show-adds}
use Rattle.display.proofs.write.Printer.put_long_number.Goals as goal

pub loop-rest-preserved : goal.loop-rest-preserved
loop-rest-preserved c = one_less c.loop-rest.invariant c.loop-rest-test.true

pub returns : goal.returns
returns c =
    let n = c.args.n in
    wrote_as (show n) (λ rest. ap (λ (s : List ℕ). s ++ rest) (none_left c.loop-rest.invariant (omega (arith, c.loop-rest-test.false))) ∙ show-adds n rest)
    c.put_bytes.ensures
