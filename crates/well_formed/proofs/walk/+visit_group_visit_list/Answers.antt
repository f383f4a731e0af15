-- The proof of the cycle of calls {visit_group, visit_list}: a list calls on its groups, a group on its lists with one level less. Assumes nothing.
use Prim.Native.Nat.{ℕ, ◌<◌}
use mathlib.Core.Path.{refl, sym, ap, subst, ◌∙◌}
use mathlib.Core.Bool.{true, false}
use mathlib.Core.Option.{some}
use native.Mathlib.Omega.{arith}
use lib.ListN.{length}
use Rattle.well_formed.specs.Meaning.{step_count as answer}
use Rattle.well_formed.proofs.Refusing.{none-met}
use Rattle.numbers.proofs.BigEndian.{slice-below}
use Rattle.well_formed.proofs.Turns.{GroupTold, group-told, counted, too_short, too_long, bad-node, no_more, all-met, refused, past-group, past-leaf, group-not, group-capped, sum_room, no-group, no-level, group-refused, group-meets, FirstRead, first-refused, first-met, none-second, SecondRead, no_second, second-list-refused, second-met, group-found}
use Rattle.record.specs.Meaning.{kind_at}
use Rattle.record.proofs.KindTests.{no-group-high, single}
use Rattle.well_formed.proofs.walk.+visit_group_visit_list.Goals as goal
use Rattle.well_formed.proofs.walk.+visit_group_visit_list.Goals.{visit_group-After-shared_slice_known-2-1, visit_group-After-visit_list, visit_group-After-visit_list-2, visit_group-In_ok-a}

-- what a group's record says
told : {t : ℕ} (c : visit_group-After-shared_slice_known-2-1 t) → GroupTold c.args.t.now
told {t = t} c =
    let bs = c.args.t.now in
    group-told bs (slice-below bs c.type_inv.t) c.requires.t_in_bounds c.requires.t_bound

told-at-After-visit_list : {t : ℕ} (c : visit_group-After-visit_list t) → GroupTold c.args.t.now
told-at-After-visit_list {t = t} c =
    let bs = c.args.t.now in
    group-told bs (slice-below bs c.type_inv.t) c.requires.t_in_bounds c.requires.t_bound

-- what is known after each list
one : {t : ℕ} (c : visit_group-After-visit_list t) → let a = c.args in FirstRead a.text.now a.depth a.t.now c.first-first.result (answer c.visit_list.result)
one {t = t} c =
    let deep = c.if-depth-eq0.false in
    record {
      told = told-at-After-visit_list c;
      level = omega arith;
      passed = sym c.group_record_ok.ensures ∙ c.if-not-group_record_ok.false;
      size = c.first-first.ensures;
      answer = c.visit_list.ensures.result_value;
    }

told-at-In_ok-a : {t : ℕ} (c : visit_group-In_ok-a t) → GroupTold c.args.t.now
told-at-In_ok-a {t = t} c =
    let bs = c.args.t.now in
    group-told bs (slice-below bs c.type_inv.t) c.requires.t_in_bounds c.requires.t_bound

one-at-In_ok-a : {t : ℕ} (c : visit_group-In_ok-a t) → let a = c.args in FirstRead a.text.now a.depth a.t.now c.first-first.result (answer c.visit_list.result)
one-at-In_ok-a {t = t} c =
    let deep = c.if-depth-eq0.false in
    record {
      told = told-at-In_ok-a c;
      level = omega arith;
      passed = sym c.group_record_ok.ensures ∙ c.if-not-group_record_ok.false;
      size = c.first-first.ensures;
      answer = c.visit_list.ensures.result_value;
    }

-- the first list has so many steps
one-is : {t : ℕ} (c : visit_group-In_ok-a t) → let a = c.args in FirstRead a.text.now a.depth a.t.now (c.first-first.result) (some c.in_ok-a.a.steps)
one-is {t = t} c = subst (FirstRead _ _ _ _) (ap answer c.in_ok-a.was) (one-at-In_ok-a c)

told-at-After-visit_list-2 : {t : ℕ} (c : visit_group-After-visit_list-2 t) → GroupTold c.args.t.now
told-at-After-visit_list-2 {t = t} c =
    let bs = c.args.t.now in
    group-told bs (slice-below bs c.type_inv.t) c.requires.t_in_bounds c.requires.t_bound

one-at-After-visit_list-2 : {t : ℕ} (c : visit_group-After-visit_list-2 t) → let a = c.args in FirstRead a.text.now a.depth a.t.now c.first-first.result (answer c.visit_list.result)
one-at-After-visit_list-2 {t = t} c =
    let deep = c.if-depth-eq0.false in
    record {
      told = told-at-After-visit_list-2 c;
      level = omega arith;
      passed = sym c.group_record_ok.ensures ∙ c.if-not-group_record_ok.false;
      size = c.first-first.ensures;
      answer = c.visit_list.ensures.result_value;
    }

one-is-at-After-visit_list-2 : {t : ℕ} (c : visit_group-After-visit_list-2 t) → let a = c.args in FirstRead a.text.now a.depth a.t.now (c.first-first.result) (some c.in_ok-a.a.steps)
one-is-at-After-visit_list-2 {t = t} c = subst (FirstRead _ _ _ _) (ap answer c.in_ok-a.was) (one-at-After-visit_list-2 c)

two : {t : ℕ} (c : visit_group-After-visit_list-2 t) → let a = c.args in SecondRead a.text.now a.depth a.t.now c.in_ok-a.a.steps (answer c.visit_list-2.result)
two {t = t} c =
    record {
      n = c.first-first.result;
      n' = c.second-second.result;
      one = one-is-at-After-visit_list-2 c;
      size = c.second-second.ensures;
      answer = c.visit_list-2.ensures.result_value;
    }

pub visit_group-returns-then-depth-eq0 : goal.visit_group-returns-then-depth-eq0
visit_group-returns-then-depth-eq0 t c =
    let a = c.args in
    record { result_value = no-group a.text.now a.depth a.t.now (no-level a.text.now a.depth a.t.now (told (goal.at.visit_group-returns-then-depth-eq0 t c).After-shared_slice_known-2-1) c.if-depth-eq0.true); meets_node = tt }

pub visit_group-returns-then-not-is_binary : goal.visit_group-returns-then-not-is_binary
visit_group-returns-then-not-is_binary t c =
    let a = c.args in
    let one = one-is (goal.at.visit_group-returns-then-not-is_binary t c).In_ok-a in
    let low : kind_at a.t.now < 4 = rw (← c.kind-kind.ensures) (single (omega (arith, c.requires.t_bound)) c.kind-kind.ensures c.is_binary.ensures c.if-not-is_binary.true) in
    let in-a = c.in_ok-a.a.met in
    let met = first-met one (c.visit_list.result) c.in_ok-a.a c.in_ok-a.was (c.visit_list.ensures.meets) in
    let found = group-found (no_second one low) 0 refl (c.number.ensures.value ∙ c.kind-kind.ensures) c.number-number.ensures c.count.ensures c.of_group.ensures
    c.compared.result c.of_group-then-not-is_binary.result
    (group-meets a.text.now a.depth a.t.now one.told c.of_group-then-not-is_binary.result in-a none-met (c.number-then-not-is_binary.ensures.value ∙ c.kind-kind.ensures) refl met (none-second one low) c.of_group-then-not-is_binary.ensures)
    c.compared.ensures in
    record { result_value = found.0; meets_node = found.1 }

pub visit_group-returns : goal.visit_group-returns
unfolding two
visit_group-returns t c =
    let a = c.args in
    let both = two (goal.at.visit_group-returns t c).After-visit_list-2 in
    let in-a = c.in_ok-a.a.met in
    let in_b = c.in_ok-b.b.met in
    let met = first-met both.one (c.visit_list.result) c.in_ok-a.a c.in_ok-a.was (c.visit_list.ensures.meets) in
    let met' = second-met both c.visit_list-2.result c.in_ok-b.b c.in_ok-b.was c.visit_list-2.ensures.meets in
    let found = group-found both c.in_ok-b.b.steps (ap answer c.in_ok-b.was) (c.number-2.ensures.value ∙ c.kind-kind.ensures) c.number-number.ensures c.count-2.ensures c.of_group-2.ensures
    c.compared-2.result c.of_group-3.result
    (group-meets a.text.now a.depth a.t.now both.one.told c.of_group-3.result in-a in_b (c.number-3.ensures.value ∙ c.kind-kind.ensures) refl met met' c.of_group-3.ensures)
    c.compared-2.ensures in
    record { result_value = found.0; meets_node = found.1 }

pub visit_group-returns-then-not-group_record_ok : goal.visit_group-returns-then-not-group_record_ok
visit_group-returns-then-not-group_record_ok t c =
    let a = c.args in
    record {
      result_value = no-group a.text.now a.depth a.t.now
          (group-refused a.text.now a.depth a.t.now (told (goal.at.visit_group-returns-then-not-group_record_ok t c).After-shared_slice_known-2-1) c.group_record_ok.result c.group_record_ok.ensures c.if-not-group_record_ok.true);
      meets_node = tt;
    }

pub visit_list-returns-then-t-lt-RECORD : goal.visit_list-returns-then-t-lt-RECORD
visit_list-returns-then-t-lt-RECORD t c =
    let a = c.args in
    record {
      result_value = refused a.text.now a.depth a.list.now c.loop-t.t.now _ _ c.loop-t.invariant
          (too_short a.text.now a.depth c.loop-t.t.now c.loop-t.invariant.below c.loop-t-test.true c.if-t-lt-RECORD.true);
      meets = tt;
    }

pub visit_list-returns-then-t-end : goal.visit_list-returns-then-t-end
visit_list-returns-then-t-end t c =
    let a = c.args in
    record {
      result_value = refused a.text.now a.depth a.list.now c.loop-t.t.now _ _ c.loop-t.invariant
          (too_long a.text.now a.depth c.loop-t.t.now c.loop-t.invariant.below c.loop-t-test.true _ c.if-t-lt-RECORD.false
          (counted c.loop-t.t.now c.first.ensures c.second.ensures) c.if-t-end.true);
      meets = tt;
    }

pub visit_list-sum-count-requires : goal.visit_list-sum-count-requires
visit_list-sum-count-requires t c =
    let a = c.args in
    sum_room c.loop-t.count (length c.loop-t.t.now) (length a.list.now) c.in_ok-group.group.steps c.loop-t.invariant.few c.well_formed.1.0.1 (group-capped a.text.now a.depth c.loop-t.t.now c.in_ok-group.was c.visit_group.ensures.result_value)

pub visit_list-loop-t-preserved-then-is_group : goal.visit_list-loop-t-preserved-then-is_group
visit_list-loop-t-preserved-then-is_group t c =
    let a = c.args in
    past-group a.text.now a.depth a.list.now c.loop-t.t.now _ _ c.loop-t.invariant
    _ (counted c.loop-t.t.now c.first.ensures c.second.ensures) c.if-t-end.false
    c.visit_group.result _ c.in_ok-group.was c.visit_group.ensures.result_value c.visit_group.ensures.meets_node
    c.sum-count.result c.join-met.result c.sum-count.ensures c.join-met.ensures

pub visit_list-loop-t-preserved : goal.visit_list-loop-t-preserved
visit_list-loop-t-preserved t c =
    let a = c.args in
    past-leaf a.text.now a.depth a.list.now c.loop-t.t.now _ _ c.loop-t.invariant true (c.in_ok-overflows.ensures.by_index a.depth) refl
    (no-group-high c.is_group.ensures c.if-is_group.false) c.if-t-lt-RECORD.false
    c.join_leaf-met.result c.in_ok-overflows.overflows c.in_ok-overflows.ensures.overflow c.join_leaf-met.ensures

pub visit_list-returns-in_err-overflows : goal.visit_list-returns-in_err-overflows
visit_list-returns-in_err-overflows t c =
    let a = c.args in
    rw c.from_residual-in_err-overflows.ensures (record {
      result_value = refused a.text.now a.depth a.list.now c.loop-t.t.now _ _ c.loop-t.invariant
          (bad-node a.text.now a.depth c.loop-t.t.now c.loop-t.invariant.below c.loop-t-test.true false (c.in_err-overflows.ensures.by_index a.depth) refl);
      meets = tt;
    })

pub visit_list-returns-in_err-group : goal.visit_list-returns-in_err-group
visit_list-returns-in_err-group t c =
    let a = c.args in
    rw c.from_residual.ensures (record {
      result_value = refused a.text.now a.depth a.list.now c.loop-t.t.now _ _ c.loop-t.invariant
          (bad-node a.text.now a.depth c.loop-t.t.now c.loop-t.invariant.below c.loop-t-test.true false
          (group-not a.text.now a.depth c.loop-t.t.now c.in_err-group.was c.visit_group.ensures.result_value) refl);
      meets = tt;
    })

pub visit_group-returns-in_err-a : goal.visit_group-returns-in_err-a
visit_group-returns-in_err-a t c =
    let a = c.args in
    rw c.from_residual.ensures
    (record { result_value = no-group a.text.now a.depth a.t.now (first-refused (one (goal.at.visit_group-returns-in_err-a t c).After-visit_list) (ap answer c.in_err-a.was)); meets_node = tt })

pub visit_group-returns-in_err-b : goal.visit_group-returns-in_err-b
visit_group-returns-in_err-b t c =
    let a = c.args in
    rw c.from_residual-in_err-b.ensures
    (record { result_value = no-group a.text.now a.depth a.t.now (second-list-refused (two (goal.at.visit_group-returns-in_err-b t c).After-visit_list-2) (ap answer c.in_err-b.was)); meets_node = tt })

pub visit_list-returns : goal.visit_list-returns
visit_list-returns t c =
    let a = c.args in
    record { result_value = no_more a.text.now a.depth a.list.now c.loop-t.t.now _ _ c.loop-t.invariant c.loop-t-test.false c.cap.result c.cap.ensures; meets = all-met a.text.now a.depth a.list.now c.loop-t.t.now _ _ c.loop-t.invariant c.loop-t-test.false }
