-- The loop keeps what printing the elements that are left completes. Assumes nothing.
use Prim.Native.Nat.{◌-◌, ◌≤◌}
use mathlib.Core.Bool.{true}
use mathlib.Core.List.{List}
use lib.ListN.{length}
use Rattle.notation.specs.Layers.{LayerSetElement}
use Rattle.notation.specs.Grammar.{layer_set_element}
use Rattle.display.specs.Sets.{Following}
use Rattle.display.proofs.Elements.{Sofar}
use Rattle.display.proofs.write.Printer.put_more.Given as goal

abbrev pub invariant-loop-self : goal.invariant-loop-self
invariant-loop-self l =
    (l.end ≤ length l.part)
    × ((rest : List LayerSetElement) → Following (layer_set_element true) l.part l.from rest → Sofar l.part l.end l.initial.self l.self rest)

abbrev pub decreases-loop-self : goal.decreases-loop-self
decreases-loop-self l = length l.part - l.end
