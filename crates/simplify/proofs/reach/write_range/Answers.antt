-- `write_range` meets its contract: two fields, one after the other. Assumes nothing.
use Rattle.simplify.proofs.Sweep.{two_fields}
use Rattle.simplify.proofs.reach.write_range.Goals as goal

pub returns : goal.returns
returns c =
    let a = c.args in
    two_fields a.out.now c.write.new.out c.write-2.new.out a.at a.range.min.0 a.range.max.0
    c.write.ensures c.write-2.ensures
