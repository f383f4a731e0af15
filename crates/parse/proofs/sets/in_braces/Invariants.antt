-- `in_braces` meets its contract: at each mark that the loop comes to, what follows decides the whole. Assumes nothing.
use Prim.Native.Nat.{◌-◌}
use lib.ListN.{length, drop}
use Rattle.notation.specs.Grammar.{braces}
use Rattle.parse.specs.Meaning.{forget}
use Rattle.parse.proofs.InBraces.{Marked}
use Rattle.parse.proofs.sets.in_braces.Given as goal

abbrev pub invariant-loop-next : goal.invariant-loop-next
invariant-loop-next g l = Marked l.text (g.E.Element.reads l.element) l.at l.mark (forget (braces (g.E.Element.reads l.element) l.at (drop l.at l.text)))

abbrev pub decreases-loop-next : goal.decreases-loop-next
decreases-loop-next g l = length l.text - l.mark
