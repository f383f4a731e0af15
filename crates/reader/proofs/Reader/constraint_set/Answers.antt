-- `Reader::constraint_set` meets its contract: what `parse` read, and the cursor behind it.
use Rattle.reader.proofs.Ends.{set-moves}
use Rattle.reader.proofs.Reader.constraint_set.Goals as goal

pub returns : goal.returns
returns c =
    let read = c.constraint_set-answer.ensures in
    (read, set-moves c.args.self.now c.constraint_set-answer.result c.unwrap_or-self.result c.requires read c.unwrap_or-self.ensures)
