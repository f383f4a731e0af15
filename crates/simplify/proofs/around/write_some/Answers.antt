-- `write_some` meets its contract. Assumes nothing.
use Prim.Native.Nat.{◌+◌, ◌≤◌}
use mathlib.Core.Path.{sym, ◌∙◌}
use lib.ListN.{length}
use Rattle.layer.specs.Meaning.{range}
use Rattle.simplify.proofs.Sweep.{none_written, write-one}
use Rattle.simplify.proofs.around.write_some.Goals as goal

pub returns-in_default-clause-out_after : goal.returns-in_default-clause-out_after
returns-in_default-clause-out_after c = rw c.in_default.is (sym (none_written c.args.out.now c.args.at))

pub returns-clause-out_after : goal.returns-clause-out_after
returns-clause-out_after c =
    let room : c.args.at + 4 ≤ length c.args.out.now = rw c.in-Some.is at c.requires in
    rw c.in-Some.is (c.write_range.ensures ∙ write-one c.args.out.now c.args.at (range c.in-Some.range) room)
