-- `record::encode::same_fields` meets its contract: `==` compares each field. Assumes nothing.
use mathlib.Core.Path.{◌∙◌}
use Rattle.record.proofs.Same.{same-but-count}
use Rattle.record.proofs.encode.same_fields.Goals as goal

pub returns : goal.returns
returns c = c.eq.ensures ∙ same-but-count c.args.a c.args.b
