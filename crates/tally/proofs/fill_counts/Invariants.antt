-- `fill_counts` meets its contract. Assumes nothing.
use Prim.Native.Nat.{◌*◌}
use Rattle.notation.specs.Packed.{RECORD}
use Rattle.tally.proofs.Filling.{Filling}
use Rattle.tally.proofs.fill_counts.Given as goal

abbrev pub invariant-loop-k : goal.invariant-loop-k
invariant-loop-k l = Filling l.initial.tree l.tree l.sums (RECORD * l.k)
