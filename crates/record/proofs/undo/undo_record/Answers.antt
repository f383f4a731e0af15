-- `record::undo::undo_record` meets its contract: each way through it by its law. Assumes nothing.
use mathlib.Core.Path.{◌∙◌, sym, ap}
use Prim.Native.Nat.{ℕ, ◌*◌}
use Rattle.record.specs.declared.kinds.Kind.TheVariants.{Pair}
use Rattle.record.specs.Meaning.{with_field, SMALL}
use Rattle.record.proofs.Undoing.{number-undone, pair-undone, kind-undone}
use Rattle.record.proofs.SameKind.{is-kind, not-kind}
use Rattle.record.proofs.undo.undo_record.Goals as goal

pub returns-then-eq : goal.returns-then-eq
returns-then-eq c =
    pair-undone c.args.r.now c.requires c.kind-kind.ensures c.number-number.ensures c.negate-opposite.ensures c.set_number.ensures
    (is-kind _ Pair c.eq.ensures c.if-eq.true) c.other-other.ensures c.negate-opposite-then-eq.ensures c.set_other.ensures

pub returns-then-is_megaminx : goal.returns-then-is_megaminx
returns-then-is_megaminx c =
    kind-undone c.args.r.now c.requires c.kind-kind.ensures c.number-number.ensures c.negate-opposite.ensures c.set_number.ensures
    (sym c.is_megaminx.ensures ∙ c.if-is_megaminx.true) c.exchanged.ensures (c.set_small.ensures ∙ ap (λ (x : ℕ). with_field SMALL (x * 16) c.set_number.new.out) c.number.ensures.value)

pub returns-else-is_megaminx : goal.returns-else-is_megaminx
returns-else-is_megaminx c =
    number-undone c.args.r.now c.requires c.kind-kind.ensures c.number-number.ensures c.negate-opposite.ensures c.set_number.ensures
    (not-kind _ Pair c.eq.ensures c.if-eq.false) (sym c.is_megaminx.ensures ∙ c.if-is_megaminx.false)
