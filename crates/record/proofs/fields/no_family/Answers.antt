use mathlib.Core.Path.{◌∙◌}
use lib.Dec.{lit<}
use Rattle.record.specs.Meaning.{FAMILY, FAMILY-SIZE}
use Rattle.record.proofs.Packed.{field_at}
use Rattle.record.proofs.fields.no_family.Goals as goal

pub returns : goal.returns
returns c = c.both_zero.ensures ∙ rw (field_at c.args.t.now FAMILY (lit< tt), field_at c.args.t.now FAMILY-SIZE (lit< tt))
