-- `encode::fields_at` meets its contract: each field where it stands. Assumes nothing.
use Rattle.record.proofs.Same.{all-fields}
use Rattle.record.proofs.encode.fields_at.Goals as goal

pub returns : goal.returns
returns c =
    let t = c.args.t.now in
    all-fields t c.small.ensures c.first.ensures c.second.ensures c.number.ensures c.other.ensures
    c.family.ensures.result_value c.constraints.ensures.result_value c.layer_set.ensures.result_value c.count.ensures
