-- One digit, or more. Assumes nothing.
use mathlib.Core.Path.{sym}
use Rattle.notation.specs.Numbers.{show}
use Rattle.display.proofs.Writing.{wrote_as}
use Rattle.display.proofs.Decimals.{show-digit}
use Rattle.display.proofs.write.Printer.put_number.Goals as goal

pub returns-then-n-lt10 : goal.returns-then-n-lt10
returns-then-n-lt10 c =
    let n = c.args.n in
    wrote_as (show n) (λ rest. sym (show-digit n rest c.if-n-lt10.true)) c.put.ensures
