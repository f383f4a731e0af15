-- `nesting::scan_ok` meets its contract: the brackets seen so far are allowed, and the rest decides. Assumes nothing.
use Rattle.parse.proofs.NestingScan.{Scanned}
use Rattle.parse.proofs.nesting.scan_ok.Given as goal

abbrev pub invariant-loop-b : goal.invariant-loop-b
invariant-loop-b l = Scanned l.text l.opened l.closed l.b-index
