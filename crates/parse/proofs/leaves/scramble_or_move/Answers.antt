-- `scramble_or_move` meets its contract. Assumes nothing.
use mathlib.Core.Path.{sym, ap₂, ◌∙◌}
use mathlib.Core.Bool.{◌&&◌}
use Rattle.parse.proofs.LeafReaders.{a-scramble, no-scramble}
use Rattle.parse.proofs.leaves.scramble_or_move.Goals as goal
use Rattle.parse.proofs.leaves.scramble_or_move.Goals.{else-features-via-then-features+else-is_scramble, else-features-via-else-features}

pub megaminx_scramble_move-requires : goal.megaminx_scramble_move-requires
megaminx_scramble_move-requires c = (c.requires.0, sym c.is_scramble.ensures ∙ c.if-is_scramble.true)

pub returns-then-is_scramble : goal.returns-then-is_scramble
returns-then-is_scramble c =
    let a = c.args in
    a-scramble a.features a.text.now a.at c.if-features.true (sym c.is_scramble.ensures ∙ c.if-is_scramble.true) c.megaminx_scramble_move.ensures

pub returns-else-features : goal.returns-else-features
returns-else-features c =
    let a = c.args in
    no-scramble a.features a.text.now a.at (elim c.else-features.branch [ else-features-via-then-features+else-is_scramble w ↦ ap₂ ◌&&◌ w.if-features.true (sym w.is_scramble.ensures ∙ w.if-is_scramble.false) | else-features-via-else-features w ↦ rw w.if-features.false ])
    c.move_.ensures
