-- `vectors::run` keeps no more of a piece than its buffer holds.
use Rattle.std.proofs.Common.{◌≤◌, length}
use Rattle.vectors.proofs.run.Given as goal

abbrev pub invariant-loop : goal.invariant-loop
invariant-loop g l = l.kept ≤ length l.input
