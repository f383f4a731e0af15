-- `megaminx_scramble_move` meets its contract: the letter and the sign tell which one stands there. Assumes nothing.
use mathlib.Core.Path.{ap, ap₂, ◌∙◌}
use mathlib.Core.List.{List}
use Prim.Native.Nat.{ℕ, ◌+◌}
use lib.ListN.{drop}
use Rattle.notation.specs.Tree.{megaminx}
use Rattle.notation.specs.Packed.{leaf_fields}
use Rattle.notation.specs.Grammar.{read}
use Rattle.notation.specs.declared.common.MegaminxScrambleMove.{MegaminxScrambleMove}
use Rattle.parse.specs.Meaning.{scramble_kind}
use Rattle.parse.proofs.LeafReaders.{scramble-stands}
use Rattle.parse.proofs.puzzles.megaminx_scramble_move.Goals as goal

pub returns : goal.returns
returns c =
    let text = c.args.text.now in
    let last = c.args.at + 3 in
    ap (λ (l : List ℕ). read l last (drop last text)) c.megaminx_fields.ensures
    ∙ ap (λ (k : MegaminxScrambleMove). read (leaf_fields (megaminx k)) last (drop last text))
    (c.scramble_kind-kind.ensures ∙ ap₂ scramble_kind c.has.ensures c.has-2.ensures)
    ∙ scramble-stands text c.args.at c.requires.1
