-- `record::copy::copy_record` meets its contract: the bytes of its own have the length of a record.
use Rattle.std.proofs.Common.{ap, arith, length, length-take}
use Rattle.record.proofs.copy.copy_record.Goals as goal

pub copy_from_slice-requires-2 : goal.copy_from_slice-requires-2
copy_from_slice-requires-2 c =
    omega (arith, length-take 38 c.args.out.now, c.copy_from_slice.ensures.len, ap length c.copy_from_slice.ensures.after, c.requires.from_len, c.requires.record_size_in_bounds)
