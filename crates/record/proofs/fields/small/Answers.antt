use mathlib.Core.Path.{sym, ◌∙◌}
use lib.Dec.{lit<}
use Rattle.record.specs.Meaning.{SMALL}
use Rattle.record.proofs.Packed.{field_at}
use Rattle.record.proofs.fields.small.Goals as goal

pub returns : goal.returns
returns c = c.read.ensures.value ∙ sym (field_at c.args.t.now SMALL (lit< tt))
