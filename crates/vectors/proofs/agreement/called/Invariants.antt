-- `vectors::agreement::called` has room for the four checksums behind the answers and the steps. Assumes nothing.
use Rattle.std.proofs.Common.{◌+◌, ◌*◌, ◌≤◌, length}
use Rattle.vectors.proofs.agreement.called.Given as goal

abbrev pub invariant-loop-buffer : goal.invariant-loop-buffer
invariant-loop-buffer l = length l.line ≤ 481 + 21 * l.buffer-index
