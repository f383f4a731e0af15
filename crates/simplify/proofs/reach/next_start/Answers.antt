-- `next_start` meets its contract: the entries that it passes begin no range. Assumes nothing.
use Prim.Native.Nat.{◌-◌, ◌≤◌}
use mathlib.Core.Path.{◌≡◌, ◌∙◌}
use mathlib.Core.Logic.{⊎_elim}
use native.Mathlib.Omega.{arith}
use lib.ListN.{length, drop, length-drop}
use lib.Seq.{take_all}
use Rattle.simplify.proofs.Sweep.{next-starts, none-start, no-runs}
use Rattle.simplify.proofs.reach.next_start.Goals as goal
use Rattle.simplify.proofs.reach.next_start.Goals.{In_ok-rest}

pub returns-in_err-rest : goal.returns-in_err-rest
returns-in_err-rest c = rw c.from_residual.ensures (no-runs c.args.reach.now c.args.at (⊎_elim (λ h. omega (arith, h)) (λ h. omega (arith, h)) c.in_err-rest.ensures.lookup.0))

-- what is left of the table
rest-is : (c : In_ok-rest) → c.in_ok-rest.rest.now ≡ drop c.args.at c.args.reach.now
rest-is c =
    let s = drop c.args.at c.args.reach.now in
    c.in_ok-rest.ensures.lookup.0.2 ∙ take_all (length c.args.reach.now - c.args.at) s (let all : length s ≤ length c.args.reach.now - c.args.at = omega (arith, length-drop c.args.at c.args.reach.now) in all)

pub returns-in_err-before_start : goal.returns-in_err-before_start
returns-in_err-before_start c =
    rw c.from_residual-in_err-before_start.ensures
    (none-start c.args.reach.now c.in_ok-rest.rest.now c.args.at (rest-is (goal.at.returns-in_err-before_start c).In_ok-rest) c.in_err-before_start.ensures)

pub returns : goal.returns
returns c =
    next-starts c.args.reach.now c.in_ok-rest.rest.now c.args.at (rest-is (goal.at.returns c).In_ok-rest) c.in_ok-before_start.field-0 c.in_ok-before_start.ensures
