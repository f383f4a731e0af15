use mathlib.Core.Path.{◌∙◌}
use lib.Dec.{lit<}
use Rattle.record.specs.Meaning.{CONSTRAINTS}
use Rattle.record.proofs.Packed.{field_at}
use Rattle.record.proofs.fields.no_constraints.Goals as goal

pub returns : goal.returns
returns c = c.both_zero.ensures ∙ rw (field_at c.args.t.now CONSTRAINTS (lit< tt), field_at c.args.t.now 8 (lit< tt))
