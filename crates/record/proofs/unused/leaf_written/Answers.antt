use Prim.Native.Nat.{ℕ, ◌≤◌}
use mathlib.Core.Path.{◌≡◌, refl, sym, ap, subst, ◌∙◌}
use mathlib.Core.Bool.{true}
use mathlib.Core.List.{List}
use native.Mathlib.Omega.{arith}
use lib.Dec.{lit<}
use Rattle.numbers.proofs.Positional.{Below}
use Rattle.numbers.proofs.BigEndian.{slice-below}
use Rattle.record.specs.Kinds.{kind_number}
use Rattle.record.specs.Meaning.{field, both_zero, kind_at, FIRST, COUNT}
use Rattle.record.proofs.Packed.{field_lt}
use Rattle.record.proofs.SameKind.{one-kind}
use Rattle.record.proofs.Zeros.{both-passed, first-failed}
use Rattle.record.proofs.Leaves.{with-lists, no_kind, a_move, a-rotation, a_pair, a-kind}
use Rattle.record.proofs.unused.leaf_written.Goals as goal
use Rattle.record.proofs.unused.leaf_written.Goals.{After-kind}

-- what is known where the kind is
record Told (bs : List ℕ) (k : ℕ) : Type 0 where
  below : Below 256 bs
  kind : k ≡ kind_at bs
  leaf : 6 ≤ k
  one : field COUNT bs ≡ 1
  lists : both_zero FIRST bs ≡ true

told : (c : After-kind) → Told c.args.t.now (kind_number c.kind.result)
told c =
    record {
      below = slice-below c.args.t.now c.type_inv.t;
      kind = c.kind.ensures;
      leaf = subst (λ (k : ℕ). 6 ≤ k) (sym c.kind.ensures) c.requires.bound;
      one = c.requires.counts_one;
      lists = sym c.no_lists.ensures ∙ c.if-not-no_lists.false;
    }

pub returns-then-not-no_lists : goal.returns-then-not-no_lists
returns-then-not-no_lists c =
    let bs = c.args.t.now in
    with-lists bs (slice-below bs c.type_inv.t) (kind_at bs) refl c.requires.bound c.requires.counts_one (sym c.no_lists.ensures ∙ c.if-not-no_lists.true)

pub returns-in-Move : goal.returns-in-Move
returns-in-Move c =
    let t = told (goal.at.returns-in-Move c).After-kind in
    a_move _ t.below _ t.kind t.leaf t.one t.lists (ap kind_number c.in-Move.is) c.move_written.result c.move_written.ensures

pub returns-in-Rotation : goal.returns-in-Rotation
returns-in-Rotation c =
    let t = told (goal.at.returns-in-Rotation c).After-kind in
    a-rotation _ t.below _ t.kind t.leaf t.one t.lists (ap kind_number c.in-Rotation.is) c.rotation_written.result c.rotation_written.ensures

pub returns-in-Pair : goal.returns-in-Pair
returns-in-Pair c =
    let t = told (goal.at.returns-in-Pair c).After-kind in
    a_pair _ t.below _ t.kind t.leaf t.one t.lists (ap kind_number c.in-Pair.is) c.kind_alone.result c.kind_alone.ensures

pub returns-in-Unused : goal.returns-in-Unused
returns-in-Unused c =
    let t = told (goal.at.returns-in-Unused c).After-kind in
    no_kind _ t.below _ t.kind t.leaf t.one (ap kind_number c.in-Unused.is)

pub returns-then-kind_alone : goal.returns-then-kind_alone
returns-then-kind_alone c =
    let t = told (goal.at.returns-then-kind_alone c).After-kind in
    let other = c.in_default in
    let known : kind_number c.kind.result ≡ 15 → ⊥ = λ z. other.not-Unused (one-kind _ _ z) in
    let byte = field_lt _ t.below 0 (lit< tt) in
    let few : kind_number c.kind.result ≤ 14 = omega (arith, t.kind, known) in
    a-kind _ t.below _ t.kind t.leaf t.one t.lists (λ z. other.not-Rotation (one-kind _ _ z)) (λ z. other.not-Move (one-kind _ _ z)) (λ z. other.not-Pair (one-kind _ _ z)) few
    c.no_numbers.result (both-passed (sym c.kind_alone-in_default.ensures ∙ c.if-kind_alone.true) c.no_numbers.ensures)

pub returns-else-kind_alone : goal.returns-else-kind_alone
returns-else-kind_alone c =
    let t = told (goal.at.returns-else-kind_alone c).After-kind in
    let other = c.in_default in
    let known : kind_number c.kind.result ≡ 15 → ⊥ = λ z. other.not-Unused (one-kind _ _ z) in
    let byte = field_lt _ t.below 0 (lit< tt) in
    let few : kind_number c.kind.result ≤ 14 = omega (arith, t.kind, known) in
    a-kind _ t.below _ t.kind t.leaf t.one t.lists (λ z. other.not-Rotation (one-kind _ _ z)) (λ z. other.not-Move (one-kind _ _ z)) (λ z. other.not-Pair (one-kind _ _ z)) few
    c.kind_alone-in_default.result (first-failed _ c.kind_alone-in_default.ensures c.if-kind_alone.false)
