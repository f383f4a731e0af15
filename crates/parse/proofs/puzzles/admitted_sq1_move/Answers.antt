-- `admitted_sq1_move` meets its contract. Assumes nothing.
use lib.ListN.{drop}
use Rattle.parse.proofs.LeafReaders.{sq1-on, sq1-off}
use Rattle.parse.proofs.puzzles.admitted_sq1_move.Goals as goal

pub returns-then-features : goal.returns-then-features
returns-then-features c = sq1-on c.args.features c.args.at (drop c.args.at c.args.text.now) c.if-features.true c.sq1_move.ensures

pub returns-else-features : goal.returns-else-features
returns-else-features c = sq1-off c.args.features c.args.at (drop c.args.at c.args.text.now) c.if-features.false
