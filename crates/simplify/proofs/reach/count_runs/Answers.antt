-- `count_runs` meets its contract: each run begins at an entry of its own, so that their number fits. Assumes nothing.
use mathlib.Core.Logic.{inl}
use native.Mathlib.Omega.{arith}
use Rattle.simplify.proofs.Sweep.{runs-shorter}
use Rattle.simplify.proofs.reach.count_runs.Goals as goal

pub count-requires-clause-fits : goal.count-requires-clause-fits
count-requires-clause-fits c = inl (omega (arith, runs-shorter c.new.result.reach.now c.new.result.at))
