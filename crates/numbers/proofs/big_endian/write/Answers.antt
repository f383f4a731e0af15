-- `big_endian::write` meets its contract: it copies the last of the number's eight bytes. Assumes nothing.
use Rattle.numbers.proofs.BigEndian.{stored-field}
use Rattle.numbers.proofs.big_endian.write.Goals as goal

pub returns : goal.returns
returns g c = stored-field c.args.out.now c.args.at g.row.N c.args.n c.requires.room c.requires.width _ _ c.to_be_bytes.ensures c.copy_from_slice.ensures.after
