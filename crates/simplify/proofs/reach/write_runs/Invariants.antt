-- `write_runs` meets its contract. The invariant: with the runs that are left written behind those before them, the bytes are those asked for. Assumes nothing.
use Rattle.std.proofs.Common.{◌≡◌, ◌+◌, ◌*◌, ◌≤◌, length}
use Rattle.simplify.specs.Reach.{runs_from, written}
use Rattle.simplify.proofs.reach.write_runs.Given as goal

abbrev pub invariant-loop-k : goal.invariant-loop-k
invariant-loop-k l =
    let k = l.k-iterator.count in
    let left = runs_from l.k-iterator.iter.reach.now l.k-iterator.iter.at in
    (4 * k + 4 * length left ≤ length l.out) × (written l.out (4 * k) left ≡ written l.initial.out 0 (runs_from l.reach 0))
