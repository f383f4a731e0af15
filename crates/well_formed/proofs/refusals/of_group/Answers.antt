-- `refusals::of_group` meets its contract: each way out is one case of the rule. Assumes nothing.
use mathlib.Core.Path.{sym, ap, ◌∙◌}
use Prim.Native.Nat.{ℕ}
use Rattle.notation.specs.Numbers.{from_bits}
use Rattle.record.specs.Meaning.{field, NUMBER}
use Rattle.well_formed.specs.Refusing.{refuses, group_refuses}
use Rattle.well_formed.proofs.Refusing.{both-none, never-reached, contents-reached}
use Rattle.well_formed.proofs.refusals.of_group.Goals as goal

pub returns-then-both_none : goal.returns-then-both_none
returns-then-both_none c =
    let none = c.both_none.ensures c.if-both_none.true in
    let a = c.args in
    both-none a.kind (refuses a.a) (refuses a.b) (λ niss. c.if-kind-number.false (niss ∙ sym c.number.ensures.value)) (from_bits 32 (field NUMBER a.group.now)) none.0 none.1

pub returns-then-multiplier-eq0 : goal.returns-then-multiplier-eq0
returns-then-multiplier-eq0 c =
    let a = c.args in
    never-reached a.kind (refuses a.a) (refuses a.b) (λ niss. c.if-kind-number.false (niss ∙ sym c.number.ensures.value)) c.number-multiplier.result c.if-multiplier-eq0.true
    ∙ ap (λ (n : ℕ). group_refuses a.kind (from_bits 32 n) (refuses a.a) (refuses a.b)) c.number-multiplier.ensures

pub returns : goal.returns
returns c =
    let a = c.args in
    contents-reached a.kind (refuses a.a) (refuses a.b) (λ niss. c.if-kind-number.false (niss ∙ sym c.number.ensures.value)) c.number-multiplier.result c.number-multiplier.type_inv c.if-multiplier-eq0.false
    c.contents.ensures c.turned.ensures
    ∙ ap (λ (n : ℕ). group_refuses a.kind (from_bits 32 n) (refuses a.a) (refuses a.b)) c.number-multiplier.ensures
