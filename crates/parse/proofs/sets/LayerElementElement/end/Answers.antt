-- `end` of `LayerElement` meets its contract. Assumes nothing.
use Rattle.parse.proofs.Rules.{layer-within}
use Rattle.parse.proofs.sets.LayerElementElement.end.Goals as goal

pub returns-clause-within : goal.returns-clause-within
returns-clause-within c = layer-within c.args.self.hsc1 c.args.text.now c.args.at c.requires (rw c.in-Some.is at c.layer_set_element.ensures)
