-- The set that the part is. Assumes nothing.
use Rattle.display.proofs.Leaves.{some-constraints, constraints-print}
use Rattle.display.proofs.write.Printer.put_constraints.Goals as goal

pub returns-then-constraints_present : goal.returns-then-constraints_present
returns-then-constraints_present c =
    constraints-print c.args.text.now c.constraints.result
    (some-constraints c.args.t.now c.constraints.result c.constraints_present.ensures c.if-constraints_present.true c.constraints.ensures.result_value) c.requires.t_value
    (rw c.part_of.ensures at c.put_squeezed.ensures)
