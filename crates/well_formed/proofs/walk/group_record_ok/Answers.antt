-- `group_record_ok` meets its contract. Assumes nothing.
use mathlib.Core.Path.{sym, subst}
use Prim.Native.Nat.{ℕ, ◌<◌}
use Rattle.record.specs.Kinds.{kind_number}
use Rattle.numbers.proofs.BigEndian.{slice-below}
use Rattle.well_formed.proofs.Heads.{group-says}
use Rattle.well_formed.proofs.Turns.{GroupRead, group-written, multiplier-read, second-refused}
use Rattle.well_formed.proofs.walk.group_record_ok.Goals as goal
use Rattle.well_formed.proofs.walk.group_record_ok.Goals.{After-second_ok}

told : (c : After-second_ok) → GroupRead c.args.t.now (kind_number c.kind-kind.result) c.second-second.result c.second_ok.result
told c =
    let bs = c.args.t.now in
    let below = slice-below bs c.type_inv.t in
    record {
      below = below;
      long = c.requires.in_bounds;
      says = group-says bs below (kind_number c.kind-kind.result) c.kind-kind.ensures (subst (λ (k : ℕ). k < 6) (sym c.kind-kind.ensures) c.requires.t_bound);
      count = c.second-second.ensures;
      may = c.second_ok.ensures;
    }

pub returns-then-multiplier_ok : goal.returns-then-multiplier_ok
returns-then-multiplier_ok c =
    let bs = c.args.t.now in
    group-written (told (goal.at.returns-then-multiplier_ok c).After-second_ok) c.if-not-second_ok.false
    c.multiplier_ok.result (multiplier-read bs c.number-number.result c.multiplier_ok.result c.number-number.ensures c.multiplier_ok.ensures) c.if-multiplier_ok.true
    c.same_fields.result c.first.ensures c.number-number.ensures c.count.ensures c.without_parts.ensures c.fields_at.ensures c.same_fields.ensures

pub returns-then-not-second_ok : goal.returns-then-not-second_ok
returns-then-not-second_ok c = second-refused (told (goal.at.returns-then-not-second_ok c).After-second_ok) c.if-not-second_ok.true
