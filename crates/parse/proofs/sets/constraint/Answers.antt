-- `constraint` meets its contract: each way out is one case of the rule. Assumes nothing.
use Prim.Native.Nat.{◌+◌, ◌≤◌}
use mathlib.Core.Path.{sym, ◌∙◌}
use native.Mathlib.Omega.{arith}
use lib.ListN.{length}
use Rattle.notation.specs.Chars.{is_family_char, white_space}
use Rattle.charsets.proofs.Runs.{end-length}
use Rattle.parse.proofs.Families.{sign-inside, no-constraint, alone, first-only, both-families}
use Rattle.parse.proofs.sets.constraint.Goals as goal
use Rattle.parse.proofs.sets.constraint.Goals.{Else-to-at, Then-is_sign}

-- the first family ends within the text
first-inside : (c : Else-to-at) → c.family_end-to.result ≤ length c.args.text.now
first-inside c =
    omega (arith, c.family_end-to.ensures, end-length is_family_char c.args.text.now c.args.at c.requires)

-- and so does the sign
sign : (c : Then-is_sign) → c.whitespace_end-sign.result + 2 ≤ length c.args.text.now
sign c = sign-inside c.args.text.now _ (sym c.is_sign.ensures ∙ c.if-is_sign.true)

pub returns-then-to-at : goal.returns-then-to-at
returns-then-to-at c =
    let a = c.args in
    no-constraint a.text.now a.at _ c.family_end-to.ensures c.if-to-at.true

pub whitespace_end-sign-requires : goal.whitespace_end-sign-requires
whitespace_end-sign-requires c = first-inside c

pub is_sign-requires : goal.is_sign-requires
is_sign-requires c = omega (arith, c.whitespace_end-sign.ensures, end-length white_space c.args.text.now c.family_end-to.result (first-inside (goal.at.is_sign-requires c).Else-to-at))

pub overflow_add-sign : goal.overflow_add-sign
overflow_add-sign c = omega (arith, sign c)

pub whitespace_end-from-requires : goal.whitespace_end-from-requires
whitespace_end-from-requires c = sign c

pub family_end-end-requires : goal.family_end-end-requires
family_end-end-requires c = omega (arith, c.whitespace_end-from.ensures, end-length white_space c.args.text.now (c.whitespace_end-sign.result + 2) (sign (goal.at.family_end-end-requires c).Then-is_sign))

pub returns-then-from-end : goal.returns-then-from-end
returns-then-from-end c =
    let a = c.args in
    both-families a.text.now a.at c.family_end-to.result c.family_end-to.ensures c.if-to-at.false _ c.whitespace_end-sign.ensures
    (sym c.is_sign.ensures ∙ c.if-is_sign.true) _ _ c.whitespace_end-from.ensures c.family_end-end.ensures c.if-from-end.true

pub returns-else-from-end : goal.returns-else-from-end
returns-else-from-end c =
    let a = c.args in
    first-only a.text.now a.at c.family_end-to.result c.family_end-to.ensures c.if-to-at.false _ c.whitespace_end-sign.ensures
    (sym c.is_sign.ensures ∙ c.if-is_sign.true) _ _ c.whitespace_end-from.ensures c.family_end-end.ensures c.if-from-end.false

pub returns-else-is_sign : goal.returns-else-is_sign
returns-else-is_sign c =
    let a = c.args in
    alone a.text.now a.at c.family_end-to.result c.family_end-to.ensures c.if-to-at.false _ c.whitespace_end-sign.ensures
    (sym c.is_sign.ensures ∙ c.if-is_sign.false)
