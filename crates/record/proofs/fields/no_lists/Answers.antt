use mathlib.Core.Path.{◌∙◌}
use lib.Dec.{lit<}
use Rattle.record.specs.Meaning.{FIRST, SECOND}
use Rattle.record.proofs.Packed.{field_at}
use Rattle.record.proofs.fields.no_lists.Goals as goal

pub returns : goal.returns
returns c = c.both_zero.ensures ∙ rw (field_at c.args.t.now FIRST (lit< tt), field_at c.args.t.now SECOND (lit< tt))
