-- `turn_over` meets its contract. The invariant: the entries before i are turned over, and those from i on would be, `far` being how far the ranges before reach. Assumes nothing.
use Rattle.std.proofs.Common.{◌≡◌, ◌++◌}
use lib.ListN.{take, drop}
use Rattle.simplify.specs.Reach.{turned_over}
use Rattle.simplify.proofs.reach.turn_over.Given as goal

abbrev pub invariant-loop-i : goal.invariant-loop-i
invariant-loop-i l = take l.i l.reach ++ turned_over l.far l.i (drop l.i l.reach) ≡ turned_over 0 0 l.initial.reach
