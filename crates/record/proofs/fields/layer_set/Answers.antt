use mathlib.Core.Path.{◌∙◌}
use lib.Dec.{lit<}
use Rattle.record.specs.Meaning.{LAYER-SET}
use Rattle.record.proofs.Packed.{field_at}
use Rattle.record.proofs.fields.layer_set.Goals as goal

pub returns : goal.returns
returns c = record { result_value = c.span_at.ensures.result_value ∙ rw (field_at c.args.t.now LAYER-SET (lit< tt), field_at c.args.t.now 10 (lit< tt)); fits_span = c.span_at.ensures.fits_span }
