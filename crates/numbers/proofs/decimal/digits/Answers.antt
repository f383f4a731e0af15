-- `digits` meets its contract. Assumes nothing.
use Rattle.std.proofs.Common.{◌+◌, add_assoc, rules, ⊎_elim}
use Rattle.numbers.proofs.DigitRuns as runs
use Rattle.numbers.proofs.decimal.digits.Goals as goal

pub returns-then-not-is_ascii_digit : goal.returns-then-not-is_ascii_digit
returns-then-not-is_ascii_digit c =
    let s = c.args.s.now in
    let i = c.loop-i.i in
    runs.kept-done _ _ _ _ c.loop-i.invariant
    (⊎_elim
    (λ l. runs.run-low s (c.args.at + i) (search rules) (rw (← runs.item s c.args.at i (search rules)) l))
    (λ h. runs.run-high s (c.args.at + i) (search rules) (rw (← runs.item s c.args.at i (search rules)) h))
    c.if-not-is_ascii_digit.ensures.cases)

pub loop-i-preserved : goal.loop-i-preserved
loop-i-preserved c =
    let s = c.args.s.now in
    let i = c.loop-i.i in
    let is = runs.item s c.args.at i (search rules) in
    let (l, u) = c.if-not-is_ascii_digit.ensures.cases in
    rw (← add_assoc c.args.at i 1)
    (runs.kept_on _ _ _ (c.args.at + i) _ c.loop-i.invariant (search rules) (rw (← is) l) (rw (← is) u) (rw (← is) c.next_value-value.ensures))

pub returns : goal.returns
returns c = runs.kept-all _ _ _ _ c.loop-i.invariant (search rules)
