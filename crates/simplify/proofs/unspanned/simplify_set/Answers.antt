-- `simplify_set` meets its contract: the runs of the table are the simplified ranges. Assumes nothing.
use native.Mathlib.Omega.{arith}
use Rattle.simplify.proofs.Answers.{refused}
use Rattle.simplify.proofs.unspanned.simplify_set.Goals as goal

pub returns-then-out-runs : goal.returns-then-out-runs
returns-then-out-runs c =
    refused _ _ c.gather_set.ensures.runs c.args.out.now (omega (arith, c.count_runs-runs.ensures, c.if-out-runs.true))
