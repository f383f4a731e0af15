-- `prime_end` meets its contract: the apostrophe, then what the flag admits. Assumes nothing.
use mathlib.Core.Path.{sym, ◌∙◌}
use Rattle.parse.proofs.LeafReaders.{an-apostrophe, no-apostrophe, no-curly, a-curly}
use Rattle.parse.proofs.leaves.prime_end.Goals as goal
use Rattle.parse.proofs.leaves.prime_end.Goals.{else-features-via-then-features+else-has_curly_prime, else-features-via-else-features}

pub returns-then-has : goal.returns-then-has
returns-then-has c =
    let a = c.args in
    an-apostrophe a.features a.text.now a.at (sym c.has.ensures ∙ c.if-has.true)

pub returns-then-has_curly_prime : goal.returns-then-has_curly_prime
returns-then-has_curly_prime c =
    let a = c.args in
    a-curly a.features a.text.now a.at (sym c.has.ensures ∙ c.if-has.false)
    c.if-features.true (rw c.if-has_curly_prime.true at c.has_curly_prime.ensures)

pub returns : goal.returns
returns c =
    let a = c.args in
    elim c.else-features.branch [
      | else-features-via-then-features+else-has_curly_prime w ↦ no-curly a.features a.text.now a.at (sym c.has.ensures ∙ c.if-has.false) w.if-features.true (rw w.if-has_curly_prime.false at w.has_curly_prime.ensures)
      | else-features-via-else-features w ↦ no-apostrophe a.features a.text.now a.at (sym c.has.ensures ∙ c.if-has.false) w.if-features.false
    ]
