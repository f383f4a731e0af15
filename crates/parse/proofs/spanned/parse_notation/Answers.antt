-- `spanned::parse_notation` meets its contract: each way out is one case of the rule. Assumes nothing.
use mathlib.Core.Path.{sym, ◌∙◌}
use Rattle.parse.proofs.Entry.{too_long, not-utf8, too-nested, not-notation, no_room, wrote-tallies, wrote-tree}
use Rattle.parse.proofs.spanned.parse_notation.Goals as goal

pub returns-then-text-gt-MAX_TEXT : goal.returns-then-text-gt-MAX_TEXT
returns-then-text-gt-MAX_TEXT c =
    let a = c.args in
    too_long a.features a.text.now a.tree.now c.if-text-gt-MAX_TEXT.true

pub returns-then-not-is_utf8 : goal.returns-then-not-is_utf8
returns-then-not-is_utf8 c =
    let a = c.args in
    not-utf8 a.features a.text.now a.tree.now c.if-text-gt-MAX_TEXT.false (sym c.is_utf8.ensures ∙ c.if-not-is_utf8.true)

pub returns-then-not-nesting_ok : goal.returns-then-not-nesting_ok
returns-then-not-nesting_ok c =
    let a = c.args in
    too-nested a.features a.text.now a.tree.now c.if-text-gt-MAX_TEXT.false (sym c.is_utf8.ensures ∙ c.if-not-is_utf8.false) (sym c.nesting_ok.ensures ∙ c.if-not-nesting_ok.true)

pub returns-then-measured-text : goal.returns-then-measured-text
returns-then-measured-text c =
    let a = c.args in
    not-notation a.features a.text.now a.tree.now c.if-text-gt-MAX_TEXT.false (sym c.is_utf8.ensures ∙ c.if-not-is_utf8.false) (sym c.nesting_ok.ensures ∙ c.if-not-nesting_ok.false) _ c.node_list-measured.result.next c.node_list-measured.result.slot c.node_list-measured.ensures c.if-measured-text.true

pub returns-then-tree-size : goal.returns-then-tree-size
returns-then-tree-size c =
    let a = c.args in
    no_room a.features a.text.now a.tree.now c.if-text-gt-MAX_TEXT.false (sym c.is_utf8.ensures ∙ c.if-not-is_utf8.false) (sym c.nesting_ok.ensures ∙ c.if-not-nesting_ok.false) _ c.node_list-measured.result.next c.node_list-measured.result.slot c.node_list-measured.ensures c.if-measured-text.false c.if-tree-size.true

pub fill_counts-requires : goal.fill_counts-requires
fill_counts-requires c =
    let a = c.args in (
      c.node_list-measured.ensures.tree,
      wrote-tallies a.features a.text.now a.tree.now c.if-text-gt-MAX_TEXT.false (sym c.is_utf8.ensures ∙ c.if-not-is_utf8.false) (sym c.nesting_ok.ensures ∙ c.if-not-nesting_ok.false) _ c.node_list-measured.result.next c.node_list-measured.result.slot c.node_list-measured.ensures c.if-measured-text.false
          c.if-tree-size.false _ c.node_list.result.next c.node_list.result.slot c.node_list.ensures,
    )

pub returns : goal.returns
returns c =
    let a = c.args in
    wrote-tree a.features a.text.now a.tree.now c.if-text-gt-MAX_TEXT.false (sym c.is_utf8.ensures ∙ c.if-not-is_utf8.false) (sym c.nesting_ok.ensures ∙ c.if-not-nesting_ok.false) _ c.node_list-measured.result.next c.node_list-measured.result.slot c.node_list-measured.ensures c.if-measured-text.false
    c.if-tree-size.false _ c.node_list.result.next c.node_list.result.slot c.node_list.ensures _ c.fill_counts.ensures
