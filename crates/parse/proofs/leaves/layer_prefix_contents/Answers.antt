-- `layer_prefix_contents` meets its contract: a set where sets are admitted and one is read, or else numbers. Assumes nothing.
use mathlib.Core.Path.{sym, ap, ap₂, ◌∙◌}
use mathlib.Core.Bool.{◌&&◌}
use native.Mathlib.Omega.{arith}
use lib.ListN.{drop}
use Rattle.notation.specs.Tree.{Span, layer_set}
use Rattle.notation.specs.Grammar.{read}
use Rattle.parse.proofs.Past.{within}
use Rattle.parse.proofs.Rules.{takes-forget, takes-layer_set}
use Rattle.parse.proofs.LayerSets.{unopened, opened-none, a-set}
use Rattle.parse.proofs.leaves.layer_prefix_contents.Goals as goal
use Rattle.parse.proofs.leaves.layer_prefix_contents.Goals.{else-features-via-then-features+else-has, else-features-via-else-features}

pub returns-in_default : goal.returns-in_default
returns-in_default c =
    let a = c.args in
    opened-none a.features a.text.now a.at c.if-features.true (sym c.has.ensures ∙ c.if-has.true)
    (rw c.in_default.is at c.layer_set.ensures)

pub span_between-part-requires : goal.span_between-part-requires
span_between-part-requires c =
    let ends = within c.args.text.now c.args.at (takes-forget (takes-layer_set c.args.features.layers.hsc1_layer_ranges)) c.requires.0 (rw c.in-Some.is at c.layer_set.ensures) in
    (omega (arith, ends.0), omega (arith, ends.1, c.requires.1))

pub returns-then-has : goal.returns-then-has
returns-then-has c =
    let a = c.args in
    let text = a.text.now in
    let next = c.in-Some.next in
    ap (λ (p : Span). read (layer_set p) next (drop next text)) c.span_between-part.ensures.result_value
    ∙ a-set a.features a.at (drop a.at text) next (drop next text) c.if-features.true
    (rw c.in-Some.is at c.layer_set.ensures)

pub returns : goal.returns
returns c =
    let a = c.args in
    c.numbered_layers.ensures
    ∙ unopened a.features a.text.now a.at (elim c.else-features.branch [ else-features-via-then-features+else-has w ↦ ap₂ ◌&&◌ w.if-features.true (sym w.has.ensures ∙ w.if-has.false) | else-features-via-else-features w ↦ rw w.if-features.false ])
