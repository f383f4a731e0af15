use mathlib.Core.Path.{refl}
use Rattle.record.specs.Meaning.{listed}
use Rattle.record.proofs.Packed.{stored}
use Rattle.record.proofs.encode.put.Goals as goal

pub returns : goal.returns
returns c =
    rw (c.set_count.ensures, c.set_layer_set.ensures, c.set_constraints.ensures, c.set_family.ensures, c.set_other.ensures, c.set_number.ensures, c.set_lists.ensures, c.set_small.ensures)
    (stored c.args.out.now (listed c.args.f) refl c.requires)
