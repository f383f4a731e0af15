-- `run_end` meets its contract. The invariant: the run from `low` to `high` and the entries from `i` on join to the runs from `low`
-- on, and no entry beyond the layer after the run was passed. Assumes nothing.
use Rattle.std.proofs.Common.{◌≡◌, ◌+◌, ◌≤◌, ◌<◌}
use Rattle.simplify.specs.Reach.{runs_from}
use Rattle.simplify.proofs.Sweep.{open-run}
use Rattle.simplify.proofs.reach.run_end.Given as goal

abbrev pub invariant-loop-i : goal.invariant-loop-i
invariant-loop-i l = (l.low ≤ l.high) × (l.low < l.i) × (l.i ≤ l.high + 2) × (open-run l.reach l.low l.high l.i ≡ runs_from l.reach l.low)
