-- `sq1_move` meets its contract. Assumes nothing.
use mathlib.Core.Path.{sym, ap, ◌∙◌}
use mathlib.Core.List.{List}
use Prim.Native.Nat.{ℕ, ◌+◌}
use lib.ListN.{drop}
use Rattle.notation.specs.Grammar.{read}
use Rattle.parse.proofs.LeafReaders.{a-slash, from-parenthesis, no-sq1}
use Rattle.parse.proofs.puzzles.sq1_move.Goals as goal

pub returns-then-has : goal.returns-then-has
returns-then-has c =
    let a = c.args in
    let last = a.at + 1 in
    ap (λ (l : List ℕ). read l last (drop last a.text.now)) c.slash_fields.ensures
    ∙ a-slash a.text.now a.at (sym c.has.ensures ∙ c.if-has.true)

pub returns-then-has-2 : goal.returns-then-has-2
returns-then-has-2 c = from-parenthesis c.args.text.now c.args.at (sym c.has.ensures ∙ c.if-has.false) (sym c.has-2.ensures ∙ c.if-has-2.true) c.pair.ensures

pub returns : goal.returns
returns c = no-sq1 c.args.text.now c.args.at (sym c.has.ensures ∙ c.if-has.false) (sym c.has-2.ensures ∙ c.if-has-2.false)
