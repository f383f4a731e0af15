-- `vectors::agreement::put_answers` has room for each of the eight answers. Assumes nothing.
use Rattle.std.proofs.Common.{◌*◌, ◌≤◌, length}
use Rattle.vectors.proofs.agreement.put_answers.Given as goal

abbrev pub invariant-loop-answer : goal.invariant-loop-answer
invariant-loop-answer l = length l.line ≤ 22 * l.answer-index
