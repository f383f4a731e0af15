-- `number` meets its contract: where no number is written it is 1. Assumes nothing.
use Rattle.parse.proofs.LeafReaders.{number-or-one}
use Rattle.parse.proofs.leaves.number.Goals as goal

pub returns : goal.returns
returns c =
    let read = number-or-one c.args.text.now c.args.at c.requires c.uint.result c.uint.ensures in
    rw c.unwrap_or.ensures (record { result_value = read.0; bits_bound = (read.1, read.2) })
