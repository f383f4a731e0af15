-- `end` of `ConstraintElement` meets its contract. Assumes nothing.
use Rattle.parse.proofs.Rules.{constraint-within}
use Rattle.parse.proofs.sets.ConstraintElementElement.end.Goals as goal

pub returns-clause-within : goal.returns-clause-within
returns-clause-within c = constraint-within c.args.text.now c.args.at c.constraint.result c.requires c.constraint.ensures
