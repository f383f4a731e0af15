-- `gather_set` meets its contract: the table of the set, turned over where there is a tilde. Assumes nothing.
use Rattle.notation.specs.Layers.{set_ranges}
use Rattle.notation.specs.Meaning.{layer_set_in, or_empty}
use Rattle.simplify.specs.Reach.{Gathered}
use Rattle.simplify.proofs.Answers.{set-gathered, others-gathered}
use Rattle.simplify.proofs.unspanned.gather_set.Goals as goal
use Rattle.simplify.proofs.unspanned.gather_set.Goals.{After-mark_set}

-- the table of the set
gathered : (c : After-mark_set) → let a = c.args in Gathered a.axis.max_layer (set_ranges a.axis.max_layer a.axis.allow_negatives (or_empty (layer_set_in a.part.now))) c.mark_set.new.reach
gathered c =
    set-gathered c.args.axis.max_layer c.requires.layer c.args.axis.allow_negatives c.args.part.now c.args.reach.now _ c.requires.reach_value
    c.mark_set.ensures

pub returns-then-inverted : goal.returns-then-inverted
returns-then-inverted c =
    rw c.if-inverted.true
    (others-gathered c.args.axis.max_layer c.requires.layer c.args.axis.allow_negatives c.args.part.now c.args.reach.now _ c.requires.reach_value
    c.mark_set.ensures _ c.turn_over.ensures)

pub returns-else-inverted : goal.returns-else-inverted
returns-else-inverted c = rw c.if-inverted.false (gathered (goal.at.returns-else-inverted c).After-mark_set)
