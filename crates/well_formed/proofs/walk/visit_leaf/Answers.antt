-- `visit_leaf` meets its contract, by the kinds. Assumes nothing.
use mathlib.Core.Path.{◌≡◌, refl, sym, ◌∙◌}
use native.Mathlib.Omega.{arith}
use borrow.Author.Tests.{eqb-true}
use Rattle.numbers.proofs.BigEndian.{slice-below}
use Rattle.record.specs.Kinds.{kind_number}
use Rattle.record.specs.Meaning.{rotation_leaf, move_leaf, kind_at}
use Rattle.record.proofs.Packed.{head_at-kind}
use Rattle.record.proofs.SameKind.{is-kind, not-kind}
use Rattle.record.specs.declared.kinds.Kind.TheVariants.{Move, Rotation}
use Rattle.well_formed.proofs.Refusing.{no-pair, passes, passes-undone}
use Rattle.well_formed.proofs.Turns.{LeafRead, leaf-not-one, leaf-passed, leaf-refused, leaf-alone}
use Rattle.well_formed.proofs.walk.visit_leaf.Goals as goal
use Rattle.well_formed.proofs.walk.visit_leaf.Goals.{After-kind-kind, After-leaf_written}

-- what is known once the count was looked at, and with the kind
counted : (c : After-leaf_written) → LeafRead c.args.t.now (kind_at c.args.t.now)
counted c =
    record {
      below = slice-below c.args.t.now c.type_inv.t;
      long = c.requires.in_bounds;
      kind = refl;
      leaf = c.requires.bound;
      one = eqb-true _ 1 (sym c.counts_one.ensures ∙ c.if-not-counts_one.false);
    }

told : (c : After-kind-kind) → LeafRead c.args.t.now (kind_number c.kind-kind.result)
told c =
    record {
      below = slice-below c.args.t.now c.type_inv.t;
      long = c.requires.in_bounds;
      kind = c.kind-kind.ensures;
      leaf = rw c.kind-kind.ensures c.requires.bound;
      one = eqb-true _ 1 (sym c.counts_one.ensures ∙ c.if-not-counts_one.false);
    }

pub returns-then-not-counts_one : goal.returns-then-not-counts_one
returns-then-not-counts_one c =
    record {
      by_index = leaf-not-one _ c.args.t.now (slice-below c.args.t.now c.type_inv.t) c.requires.in_bounds c.requires.bound
          c.counts_one.result c.counts_one.ensures c.if-not-counts_one.true;
      overflow = tt;
    }

pub returns-then-not-leaf_written : goal.returns-then-not-leaf_written
returns-then-not-leaf_written c =
    record { by_index = leaf-refused (counted (goal.at.returns-then-not-leaf_written c).After-leaf_written) _ c.leaf_written.result c.leaf_written.ensures c.if-not-leaf_written.true; overflow = tt }

pub returns-then-eq : goal.returns-then-eq
returns-then-eq c =
    let bs = c.args.t.now in
    let is : 7 ≡ kind_at bs = sym (is-kind _ Move c.eq.ensures c.if-eq.true) ∙ c.kind-kind.ensures in record {
      by_index = λ d. passes _ _ c.then_some.ensures
          ∙ leaf-passed (told (goal.at.returns-then-eq c).After-kind-kind) _ c.leaf_written.result c.leaf_written.ensures (move_leaf c.layered_move.result)
          (c.layered_move.ensures ∙ sym (head_at-kind bs 7 is)) c.if-not-leaf_written.false c.move_ok.result c.move_ok.ensures d;
      overflow = passes-undone _ _ _ c.then_some.ensures (no-pair bs is (λ z. omega arith));
    }

pub returns-then-eq-2 : goal.returns-then-eq-2
returns-then-eq-2 c =
    let bs = c.args.t.now in
    let is : 6 ≡ kind_at bs = sym (is-kind _ Rotation c.eq-2.ensures c.if-eq-2.true) ∙ c.kind-kind.ensures in record {
      by_index = λ d. passes _ _ c.then_some-then-eq-2.ensures
          ∙ leaf-passed (told (goal.at.returns-then-eq-2 c).After-kind-kind) _ c.leaf_written.result c.leaf_written.ensures (rotation_leaf c.rotation.result)
          (c.rotation.ensures ∙ sym (head_at-kind bs 6 is)) c.if-not-leaf_written.false c.rotation_ok.result c.rotation_ok.ensures d;
      overflow = passes-undone _ _ _ c.then_some-then-eq-2.ensures (no-pair bs is (λ z. omega arith));
    }

pub returns : goal.returns
returns c =
    record {
      by_index = leaf-alone (told (goal.at.returns c).After-kind-kind) _ c.leaf_written.result c.leaf_written.ensures
          (not-kind _ Rotation c.eq-2.ensures c.if-eq-2.false) (not-kind _ Move c.eq.ensures c.if-eq.false) c.if-not-leaf_written.false;
      overflow = c.overflows.ensures;
    }
