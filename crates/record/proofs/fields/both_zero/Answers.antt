use mathlib.Core.Path.{refl}
use Rattle.numbers.proofs.BigEndian.{slice-below}
use Rattle.record.proofs.Packed.{two-as-one}
use Rattle.record.proofs.Zeros.{low-zero, high-some}
use Rattle.record.proofs.fields.both_zero.Goals as goal

pub returns-then-read-eq0 : goal.returns-then-read-eq0
returns-then-read-eq0 c =
    low-zero c.read.result c.read-then-read-eq0.result _ _ (two-as-one c.args.t.now c.args.at (slice-below _ c.type_inv.t) c.requires c.read.result c.read-then-read-eq0.result c.read.ensures.value c.read-then-read-eq0.ensures.value)
    c.if-read-eq0.true

pub returns-else-read-eq0 : goal.returns-else-read-eq0
returns-else-read-eq0 c =
    high-some c.read.result _ _ _ (two-as-one c.args.t.now c.args.at (slice-below _ c.type_inv.t) c.requires c.read.result _ c.read.ensures.value refl) c.if-read-eq0.false
