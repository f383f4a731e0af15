use mathlib.Core.Path.{◌∙◌}
use lib.Dec.{lit<}
use Rattle.record.specs.Meaning.{CONSTRAINTS}
use Rattle.record.proofs.Packed.{field_at}
use Rattle.record.proofs.fields.constraints.Goals as goal

pub returns : goal.returns
returns c = record { result_value = c.span_at.ensures.result_value ∙ rw (field_at c.args.t.now CONSTRAINTS (lit< tt), field_at c.args.t.now 8 (lit< tt)); fits_span = c.span_at.ensures.fits_span }
