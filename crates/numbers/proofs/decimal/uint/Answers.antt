-- `uint` meets its contract: each way out is one case of the rule, from what `digits` ensures. Assumes nothing.
use Rattle.std.proofs.Common.{sym, rules}
use Rattle.numbers.proofs.DigitRuns as runs
use Rattle.numbers.proofs.decimal.uint.Goals as goal

-- src/decimal.rt:68:9
pub returns-then-found-at : goal.returns-then-found-at
returns-then-found-at c =
    sym
    (runs.no_digit c.args.s.now c.args.low c.args.high c.args.at
    c.digits-found.result.next c.digits-found.result.value
    c.digits-found.ensures.0 c.digits-found.ensures.1 (search rules) (search rules))

-- src/decimal.rt:71:9
pub returns-then-found-low : goal.returns-then-found-low
returns-then-found-low c =
    sym
    (runs.too_small c.args.s.now c.args.low c.args.high c.args.at
    c.digits-found.result.next c.digits-found.result.value
    c.digits-found.ensures.0 c.digits-found.ensures.1 (search rules) (search rules) (search rules))

-- src/decimal.rt:74:9
pub returns-then-high-found : goal.returns-then-high-found
returns-then-high-found c =
    sym
    (runs.too_large c.args.s.now c.args.low c.args.high c.args.at
    c.digits-found.result.next c.digits-found.result.value
    c.digits-found.ensures.0 c.digits-found.ensures.1 (search rules) (search rules))

-- src/decimal.rt:61:1
pub returns : goal.returns
returns c =
    sym
    (runs.in_bounds c.args.s.now c.args.low c.args.high c.args.at
    c.digits-found.result.next c.digits-found.result.value
    c.digits-found.ensures.0 c.digits-found.ensures.1 (search rules) c.if-found-at.false (search rules) (search rules))
