use mathlib.Core.Path.{refl}
use Rattle.record.proofs.Packed.{more-than-one, one-by-low}
use Rattle.record.proofs.fields.counts_one.Goals as goal

pub returns-then-read-eq0 : goal.returns-then-read-eq0
returns-then-read-eq0 c =
    one-by-low c.args.t.now c.requires c.read.result c.read-then-read-eq0.result c.read.ensures.value c.read-then-read-eq0.ensures.value c.if-read-eq0.true

pub returns-else-read-eq0 : goal.returns-else-read-eq0
returns-else-read-eq0 c =
    more-than-one c.args.t.now c.requires c.read.result _ c.read.ensures.value refl c.if-read-eq0.false
