-- The count and the lines after it, or a refusal. Assumes nothing.
use mathlib.Core.Path.{refl}
use mathlib.Core.Bool.{false}
use mathlib.Core.List.{[], ◌++◌}
use Rattle.notation.specs.Numbers.{show}
use Rattle.notation.specs.Packed.{unpack}
use Rattle.notation.specs.Invert.{undo}
use Rattle.notation.specs.Print.{put}
use Rattle.notation.specs.Entries.{steps}
use Rattle.notation.specs.Lister.{line, step_lines, steps_part, SHOWN}
use Rattle.laws.specs.Unrolled.{flat}
use Rattle.display.proofs.Writing.{wrote_then}
use Rattle.listing.proofs.Fields.{wrote-to, steps-counted}
use Rattle.listing.proofs.whole.put_steps.Goals as goal

pub returns-in-Ok : goal.returns-in-Ok
returns-in-Ok c =
    let a = c.args in
    let text = a.text.now in
    let tree = a.tree.now in
    wrote-to (steps_part text (steps text tree)) (steps-counted text tree c.in-Ok.n (c.in-Ok.ensures.counted _ refl))
    (wrote_then {f = line (put "steps" []) (show c.in-Ok.n [])} {g = λ rest. step_lines text SHOWN 0 (flat undo false (unpack tree)) ++ rest}
    c.number_line-counted.ensures c.step_lines.ensures)
