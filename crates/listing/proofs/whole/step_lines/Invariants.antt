-- Each turn puts a line of what is left. Assumes nothing.
use mathlib.Core.Bool.{false}
use Rattle.notation.specs.Packed.{unpack}
use Rattle.notation.specs.Invert.{undo}
use Rattle.laws.specs.Unrolled.{flat}
use Rattle.listing.proofs.StepLoop.{Listed}
use Rattle.listing.proofs.whole.step_lines.Given as goal

abbrev pub invariant-loop-place : goal.invariant-loop-place
invariant-loop-place l = Listed l.text (flat undo false (unpack l.tree)) l.initial.printer l.printer l.place
