use mathlib.Core.Path.{◌∙◌}
use lib.Dec.{lit<}
use Rattle.record.specs.Meaning.{LAYER-SET}
use Rattle.record.proofs.Packed.{field_at}
use Rattle.record.proofs.fields.no_layer_set.Goals as goal

pub returns : goal.returns
returns c = c.both_zero.ensures ∙ rw (field_at c.args.t.now LAYER-SET (lit< tt), field_at c.args.t.now 10 (lit< tt))
