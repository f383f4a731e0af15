-- `invert::inv_refusal` meets its contract. The loop's invariant: the refusal of what is left,or else what was found, is the tree's.
-- Assumes nothing.
use lib.ListN.{length}
use Rattle.laws.specs.Inverted.{inv_refusal}
use Rattle.notation.specs.Lending.{number_of}
use Rattle.invert.proofs.Loops.{Looked}
use Rattle.invert.proofs.inv_refusal.Given as goal

abbrev pub invariant-loop-t : goal.invariant-loop-t
invariant-loop-t l = Looked inv_refusal l.tree l.t (number_of l.found)

abbrev pub decreases-loop-t : goal.decreases-loop-t
decreases-loop-t l = length l.t
