-- `sint` meets its contract: by the byte that stands there, one of the two choices rejects. Assumes nothing.
use Rattle.std.proofs.Common.{sym, ◌∙◌, ⊎_elim, rules}
use Rattle.numbers.proofs.Bounds.{sint-hyphen, sint_plain, positive-reading, just-other, just-end}
use Rattle.numbers.proofs.decimal.sint.Goals as goal

-- src/decimal.rt:99:13
pub returns-then-s-at-eq45 : goal.returns-then-s-at-eq45
returns-then-s-at-eq45 c =
    let a = c.args in
    c.negative.ensures ∙ sym (sint-hyphen a.low a.high a.high_negative a.s.now a.at (search rules) (search rules))

-- src/decimal.rt:93:1
pub returns : goal.returns
returns c =
    let a = c.args in
    rw (sint_plain a.low a.high a.high_negative a.s.now a.at (⊎_elim (λ w. just-other "-" a.s.now a.at (search rules) (search rules)) (λ w. just-end "-" a.s.now a.at (search rules)) c.if-at-s.branch-raw))
    (positive-reading a.low a.high a.at _ _ _ (search rules) c.uint.ensures)
