-- `Reader::skip_whitespace` meets its contract.
use Rattle.reader.proofs.Ends.{whitespace-moves}
use Rattle.reader.proofs.Reader.skip_whitespace.Goals as goal

pub returns : goal.returns
returns c = whitespace-moves c.args.self.now c.whitespace_end-self.result c.requires c.whitespace_end-self.ensures
