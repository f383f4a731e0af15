-- `flatten::repeat` meets its contract. Assumes nothing.
use Rattle.expand.proofs.Repeating.{Repeating}
use Rattle.expand.proofs.flatten.repeat.Given as goal

abbrev pub invariant-loop-i : goal.invariant-loop-i
invariant-loop-i l = Repeating l.initial.out l.size l.total l.out l.i
