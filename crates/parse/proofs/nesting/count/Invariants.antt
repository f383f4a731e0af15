-- `nesting::count` meets its contract: those seen so far are counted. Assumes nothing.
use Rattle.std.proofs.Common.{◌≡◌, ◌≤◌, ◌||◌, eqb, take, count_by}
use Rattle.parse.proofs.nesting.count.Given as goal

abbrev pub invariant-loop-b : goal.invariant-loop-b
invariant-loop-b l = (l.n ≡ count_by (λ b. eqb b l.round || eqb b l.square) (take l.b-index l.bytes)) × (l.n ≤ l.b-index)
