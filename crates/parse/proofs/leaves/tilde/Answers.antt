-- `tilde` meets its contract. Assumes nothing.
use mathlib.Core.Path.{sym, ◌∙◌}
use native.Mathlib.Omega.{arith}
use lib.ListN.{drop}
use Rattle.parse.proofs.Bytes.{just-is, just-not}
use Rattle.parse.proofs.LeafReaders.{tilde-off, no-tilde, a-tilde}
use Rattle.parse.proofs.leaves.tilde.Goals as goal
use Rattle.parse.proofs.leaves.tilde.Goals.{else-features-via-then-features+else-has, else-features-via-else-features}

pub returns-then-has : goal.returns-then-has
returns-then-has c = a-tilde c.args.features c.args.at (drop c.args.at c.args.text.now) _ _ c.if-features.true (just-is "~" c.args.text.now c.args.at (omega arith) (sym c.has.ensures ∙ c.if-has.true))

pub returns : goal.returns
returns c =
    elim c.else-features.branch [
      | else-features-via-then-features+else-has w ↦ no-tilde c.args.features c.args.at (drop c.args.at c.args.text.now) w.if-features.true (just-not "~" c.args.text.now c.args.at (sym w.has.ensures ∙ w.if-has.false))
      | else-features-via-else-features w ↦ tilde-off c.args.features c.args.at (drop c.args.at c.args.text.now) w.if-features.false
    ]
