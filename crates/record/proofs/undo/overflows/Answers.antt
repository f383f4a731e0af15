-- `record::undo::overflows` meets its contract: the three ways of its test. Assumes nothing.
use mathlib.Core.Path.{◌∙◌, sym, ap}
use Prim.Native.Nat.{ℕ}
use lib.Dec.{eqb, lit<}
use Rattle.notation.specs.Numbers.{MIN-BITS}
use Rattle.record.specs.declared.kinds.Kind.TheVariants.{Pair}
use Rattle.record.specs.Meaning.{NUMBER, OTHER}
use Rattle.record.proofs.Packed.{field_at}
use Rattle.record.proofs.SameKind.{is-kind}
use Rattle.record.proofs.Overflows.{over_first, over-second}
use Rattle.record.proofs.undo.overflows.Goals as goal

pub returns-then-is_min : goal.returns-then-is_min
returns-then-is_min c =
    let bs = c.args.r.now in
    over_first bs c.kind.ensures (c.is_min.ensures ∙ ap (λ (n : ℕ). eqb n MIN-BITS) (sym (field_at bs NUMBER (lit< tt)))) (is-kind _ Pair c.eq.ensures c.if-eq.true) c.if-is_min.true

pub returns-else-is_min : goal.returns-else-is_min
returns-else-is_min c =
    let bs = c.args.r.now in
    over-second bs c.kind.ensures (c.is_min.ensures ∙ ap (λ (n : ℕ). eqb n MIN-BITS) (sym (field_at bs NUMBER (lit< tt))))
    (c.is_min-else-is_min.ensures ∙ ap (λ (n : ℕ). eqb n MIN-BITS) (sym (field_at bs OTHER (lit< tt)))) (is-kind _ Pair c.eq.ensures c.if-eq.true) c.if-is_min.false
