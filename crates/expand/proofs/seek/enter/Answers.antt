-- `seek::enter` meets its contract. Assumes nothing.
use Prim.Native.Nat.{◌/◌}
use mathlib.Core.Path.{refl, sym, ◌∙◌}
use mathlib.Core.Bool.{Bool}
use mathlib.Core.Option.{Option}
use mathlib.Core.Logic.{⊎_elim}
use Rattle.notation.specs.Tree.{Leaf}
use Rattle.nodes.proofs.Nodes.{node-room}
use Rattle.expand.specs.Places.{step_in, Sought}
use Rattle.laws.specs.Unrolled.{undo_if}
use Rattle.record.specs.Kinds.{kind_number}
use Rattle.record.specs.declared.kinds.Kind.TheVariants.{Commutator}
use Rattle.record.proofs.SameKind.{test-kind}
use Rattle.record.proofs.KindTests.{single, binary}
use Rattle.expand.proofs.Seeking.{
  sought-itself,
  Group,
  in_group,
  Repeat,
  at_place,
  repeats-one,
  once-some,
  within-once,
  forward,
  from-the-end,
  into-list,
  first-few,
  first_part,
  Parts,
  into-A,
  into-B,
  into-A',
  into-B',
}
use Rattle.expand.proofs.seek.enter.Goals as goal
use Rattle.expand.proofs.seek.enter.Goals.{After-both_count-both, After-number-multiplier, Joined-is_negative}

pub kind-kind-requires : goal.kind-kind-requires
kind-kind-requires c = node-room c.requires.group.0.is_node

pub number-multiplier-requires : goal.number-multiplier-requires
number-multiplier-requires c = node-room c.requires.group.0.is_node

-- the group, whatever it is that is sought in it
group_at : (c : After-number-multiplier) → {sought : Option Leaf} → {d : Bool} → Sought sought c.args.group.now c.args.target.place d → Group sought c.args.group.now (kind_number c.kind-kind.result) c.number-multiplier.result c.args.steps c.args.target.place d
group_at c s = in_group c.requires.group.0 c.requires.steps_counted c.kind-kind.ensures c.number-multiplier.ensures s

itself : (c : After-number-multiplier) → Sought (undo_if c.args.target.inverted (step_in c.args.group.now c.args.target.place)) c.args.group.now c.args.target.place c.args.target.inverted
itself c = sought-itself _ _ _ c.requires.group.1

pub nonzero_div-once : goal.nonzero_div-once
nonzero_div-once c = repeats-one (group_at (goal.at.nonzero_div-once c).After-number-multiplier (itself (goal.at.nonzero_div-once c).After-number-multiplier)) c.magnitude.ensures

pub nonzero_rem-target : goal.nonzero_rem-target
nonzero_rem-target c = once-some (group_at (goal.at.nonzero_rem-target c).After-number-multiplier (itself (goal.at.nonzero_rem-target c).After-number-multiplier)) c.magnitude.ensures

pub turned-target-requires : goal.turned-target-requires
turned-target-requires c = within-once (group_at (goal.at.turned-target-requires c).After-number-multiplier (itself (goal.at.turned-target-requires c).After-number-multiplier)) c.magnitude.ensures

-- in one repeat, forward
repeat-at : (c : Joined-is_negative) → {sought : Option Leaf} → Sought sought c.args.group.now c.args.target.place c.args.target.inverted → Repeat sought c.args.group.now (kind_number c.kind-kind.result) (c.args.steps / c.magnitude.result) c.if-is_negative.target.place c.if-is_negative.target.inverted
repeat-at c s =
    let group = in_group c.requires.group.0 c.requires.steps_counted c.kind-kind.ensures c.number-multiplier.ensures s in
    let times = c.magnitude.ensures in
    ⊎_elim
    (λ w. at_place (from-the-end group times (sym c.is_negative.ensures ∙ w.if-is_negative.true)) (rw w.target-is w.turned-target.ensures.0) (rw w.target-is w.turned-target.ensures.1))
    (λ w. at_place (forward group times (sym c.is_negative.ensures ∙ w.if-is_negative.false)) (rw w.target-is refl) (rw w.target-is refl))
    c.if-is_negative.branch-raw

pub returns-then-not-is_binary-clause-entered : goal.returns-then-not-is_binary-clause-entered
returns-then-not-is_binary-clause-entered c = λ sought s.
    into-list (repeat-at (goal.at.returns-then-not-is_binary-clause-entered c).Joined-is_negative s) (single c.requires.group.0.low c.kind-kind.ensures c.is_binary.ensures c.if-not-is_binary.true) c.first_end-middle.ensures

pub count-a-requires-clause-list_bound : goal.count-a-requires-clause-list_bound
count-a-requires-clause-list_bound c =
    let at = goal.at.count-a-requires-clause-list_bound c in
    first-few (repeat-at at.Joined-is_negative (itself at.After-number-multiplier)) (binary c.is_binary.ensures c.if-not-is_binary.false) c.first_end-middle.ensures

pub both_count-both-requires : goal.both_count-both-requires
both_count-both-requires c =
    let at = goal.at.both_count-both-requires c in
    first_part (repeat-at at.Joined-is_negative (itself at.After-number-multiplier)) (binary c.is_binary.ensures c.if-not-is_binary.false) c.first_end-middle.ensures c.count-a.ensures

-- in A B A' B' or in A B A'
parts_at : (c : After-both_count-both) → {sought : Option Leaf} → Repeat sought c.args.group.now (kind_number c.kind-kind.result) (c.args.steps / c.magnitude.result) c.if-is_negative.target.place c.if-is_negative.target.inverted →
    Parts sought c.args.group.now (kind_number c.kind-kind.result) (c.args.steps / c.magnitude.result) c.first_end-middle.result c.count-a.result c.both_count-both.result c.if-is_negative.target.place c.if-is_negative.target.inverted
parts_at c r =
    record {
      whole = r;
      high = (binary c.is_binary.ensures c.if-not-is_binary.false);
      lists = c.first_end-middle.ensures;
      first = c.count-a.ensures;
      together = rw (test-kind _ Commutator c.eq.ensures) at c.both_count-both.ensures;
    }

pub returns-then-target-a-clause-entered : goal.returns-then-target-a-clause-entered
returns-then-target-a-clause-entered c = λ sought s.
    let at = goal.at.returns-then-target-a-clause-entered c in
    into-A (parts_at at.After-both_count-both (repeat-at at.Joined-is_negative s)) c.if-target-a.true

pub returns-then-target-both-clause-entered : goal.returns-then-target-both-clause-entered
returns-then-target-both-clause-entered c = λ sought s.
    let at = goal.at.returns-then-target-both-clause-entered c in
    into-B (parts_at at.After-both_count-both (repeat-at at.Joined-is_negative s)) c.if-target-a.false c.if-target-both.true

pub returns-then-target-both-2-clause-entered : goal.returns-then-target-both-2-clause-entered
returns-then-target-both-2-clause-entered c = λ sought s.
    let at = goal.at.returns-then-target-both-2-clause-entered c in
    rw (c.turned.ensures.0, c.turned.ensures.1)
    (into-A' (parts_at at.After-both_count-both (repeat-at at.Joined-is_negative s)) c.if-target-both.false c.if-target-both-2.true)

pub turned-requires-2 : goal.turned-requires-2
turned-requires-2 c =
    let at = goal.at.turned-requires-2 c in
    (repeat-at at.Joined-is_negative (itself at.After-number-multiplier)).below

pub returns-clause-entered : goal.returns-clause-entered
returns-clause-entered c = λ sought s.
    let at = goal.at.returns-clause-entered c in
    rw (c.turned-2.ensures.0, c.turned-2.ensures.1)
    (into-B' (parts_at at.After-both_count-both (repeat-at at.Joined-is_negative s)) c.if-target-both-2.false)
