-- `record::undo::is_min` meets its contract: the first byte tells, or all four do. Assumes nothing.
use mathlib.Core.Path.{ap}
use lib.Dec.{eqb}
use Prim.Native.Nat.{ℕ}
use Rattle.notation.specs.Numbers.{MIN-BITS}
use Rattle.numbers.proofs.BigEndian.{slice-below}
use Rattle.record.proofs.Overflows.{min-by-first}
use Rattle.record.proofs.undo.is_min.Goals as goal

pub returns-then-read-eq128 : goal.returns-then-read-eq128
returns-then-read-eq128 c = ap (λ (n : ℕ). eqb n MIN-BITS) c.read-then-read-eq128.ensures.value

pub returns-else-read-eq128 : goal.returns-else-read-eq128
returns-else-read-eq128 c =
    min-by-first c.args.r.now (slice-below _ c.type_inv.r) c.args.at c.requires c.read.ensures.value c.if-read-eq128.false
