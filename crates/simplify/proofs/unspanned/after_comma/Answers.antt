-- `after_comma` meets its contract: white space, the comma or not, white space. Assumes nothing.
use Rattle.simplify.proofs.SetElements.{with-comma, without-comma, at-the-end}
use Rattle.simplify.proofs.unspanned.after_comma.Goals as goal

pub returns-then-part-comma-eq44 : goal.returns-then-part-comma-eq44
returns-then-part-comma-eq44 c =
    let a = c.args in
    with-comma a.part.now a.at _ c.whitespace_end-comma.ensures c.whitespace_end.result c.if-comma-part.true c.if-part-comma-eq44.true c.whitespace_end.ensures

pub returns-else-part-comma-eq44 : goal.returns-else-part-comma-eq44
returns-else-part-comma-eq44 c =
    let a = c.args in
    without-comma a.part.now a.at _ c.whitespace_end-comma.ensures c.if-comma-part.true c.if-part-comma-eq44.false

pub returns-else-comma-part : goal.returns-else-comma-part
returns-else-comma-part c =
    let a = c.args in
    at-the-end a.part.now a.at _ c.whitespace_end-comma.ensures c.if-comma-part.false
