-- One after the other. Assumes nothing.
use mathlib.Core.List.{[], ◌++◌}
use Rattle.notation.specs.Refusals.{result}
use Rattle.notation.specs.Print.{put}
use Rattle.notation.specs.Entries.{display, steps}
use Rattle.notation.specs.Lister.{line, field, steps_part, tree_part}
use Rattle.notation.specs.Demands.{printed_inverse}
use Rattle.display.proofs.Writing.{wrote_then}
use Rattle.listing.proofs.Fields.{wrote-to, tree-lines}
use Rattle.listing.proofs.whole.put_tree.Goals as goal

pub returns : goal.returns
returns c =
    let a = c.args in
    let text = a.text.now in
    let tree = a.tree.now in
    wrote-to (tree_part text (result tree)) (tree-lines text tree)
    (wrote_then {f = line (put "text" []) (field (display text tree))}
    {g = λ rest. line (put "inverse" []) (field (printed_inverse text tree)) (steps_part text (steps text tree) ++ rest)} c.tree_line-printed.ensures
    (wrote_then {f = line (put "inverse" []) (field (printed_inverse text tree))} {g = λ rest. steps_part text (steps text tree) ++ rest}
    c.inverse_line-inverted.ensures c.put_steps.ensures))
