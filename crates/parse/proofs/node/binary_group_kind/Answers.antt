-- `nodes::binary_group_kind` meets its contract: each way out is one case of the rule. Assumes nothing.
use mathlib.Core.Path.{sym, ◌∙◌}
use Rattle.parse.proofs.Groups.{signs-comma, signs-colon, signs-none}
use Rattle.parse.proofs.node.binary_group_kind.Goals as goal

pub returns-then-has : goal.returns-then-has
returns-then-has c =
    let a = c.args in
    sym (signs-comma a.text.now a.at (sym c.has.ensures ∙ c.if-has.true))

pub returns-then-has-2 : goal.returns-then-has-2
returns-then-has-2 c =
    let a = c.args in
    sym
    (signs-colon a.text.now a.at (sym c.has.ensures ∙ c.if-has.false)
    (sym c.has-2.ensures ∙ c.if-has-2.true))

pub returns : goal.returns
returns c =
    let a = c.args in
    sym
    (signs-none a.text.now a.at (sym c.has.ensures ∙ c.if-has.false)
    (sym c.has-2.ensures ∙ c.if-has-2.false))
