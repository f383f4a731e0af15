-- `flatten::flatten_either` meets its contract. Assumes nothing.
use Rattle.expand.proofs.Flattening.{list_steps, list_written}
use Rattle.expand.proofs.flatten.flatten_either.Goals as goal

pub turn_if-requires : goal.turn_if-requires
turn_if-requires c = list_steps c.requires.packed c.flatten-written.ensures

pub returns : goal.returns
returns c =
    list_written c.requires.packed c.flatten-written.ensures c.args.inverted c.turn_if.ensures
