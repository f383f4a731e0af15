-- One after the other. Assumes nothing.
use Rattle.display.proofs.Writing.{wrote_then}
use Rattle.display.proofs.Leaves.{transform-as}
use Rattle.display.proofs.write.Printer.put_transform.Goals as goal

pub returns : goal.returns
returns c =
    let a = c.args in
    transform-as a.text.now a.t.now c.family_of.ensures.result_value c.number.ensures
    (wrote_then c.put_before_family.ensures (wrote_then (rw c.part_of.ensures at c.put_bytes.ensures) (wrote_then c.put_constraints.ensures c.put_multiplier.ensures)))
