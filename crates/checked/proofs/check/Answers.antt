-- `check` meets its contract: each way out is one case of the rule. Assumes nothing.
use mathlib.Core.Path.{sym, ◌∙◌}
use Rattle.std.proofs.Common.{Some, None}
use Rattle.checked.proofs.Outcomes.{too_long, not-utf8, visited}
use Rattle.checked.proofs.check.Goals as goal

pub returns-then-text-gt-MAX_TEXT : goal.returns-then-text-gt-MAX_TEXT
returns-then-text-gt-MAX_TEXT c =
    let told = too_long c.args.text.now c.args.tree.now c.if-text-gt-MAX_TEXT.true in
    record { answer = told.answer; found = told.found }

pub returns-then-not-is_utf8 : goal.returns-then-not-is_utf8
returns-then-not-is_utf8 c =
    let told = not-utf8 c.args.text.now c.args.tree.now c.if-text-gt-MAX_TEXT.false (sym c.is_utf8.ensures ∙ c.if-not-is_utf8.true) in
    record { answer = told.answer; found = told.found }

pub returns-in_default : goal.returns-in_default
returns-in_default c =
    let told = visited c.args.text.now c.args.tree.now c.if-text-gt-MAX_TEXT.false (sym c.is_utf8.ensures ∙ c.if-not-is_utf8.false)
    None c.in_default.ensures.result_value c.in_default.ensures.meets in
    record { answer = told.answer; found = told.found }

pub returns : goal.returns
returns c =
    let told = visited c.args.text.now c.args.tree.now c.if-text-gt-MAX_TEXT.false (sym c.is_utf8.ensures ∙ c.if-not-is_utf8.false)
    (Some c.in-Some.found) c.in-Some.ensures.result_value c.in-Some.ensures.meets in
    record { answer = told.answer; found = told.found }
