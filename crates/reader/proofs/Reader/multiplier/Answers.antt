-- `Reader::multiplier` meets its contract: what `parse` read, and the cursor behind it.
use Rattle.reader.proofs.Ends.{multiplier-moves}
use Rattle.reader.proofs.Reader.multiplier.Goals as goal

pub returns : goal.returns
returns c =
    let read = c.multiplier-times.ensures in
    (read, multiplier-moves c.args.features c.args.self.now c.multiplier-times.result c.requires read)
