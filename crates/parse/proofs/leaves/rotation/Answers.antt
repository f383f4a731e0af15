-- `rotation` meets its contract: after the `@` nothing rejects. Assumes nothing.
use mathlib.Core.Path.{ap, ◌∙◌}
use mathlib.Core.List.{List}
use native.Mathlib.Omega.{arith}
use Prim.Native.Nat.{ℕ, ◌+◌}
use lib.ListN.{drop}
use Rattle.notation.specs.Chars.{is_family_char}
use Rattle.notation.specs.Grammar.{read}
use Rattle.charsets.proofs.Runs.{end-length}
use Rattle.parse.proofs.Past.{within}
use Rattle.parse.proofs.Rules.{takes-constraints}
use Rattle.parse.proofs.LeafReaders.{rotations-off, a-rotation}
use Rattle.parse.proofs.leaves.rotation.Goals as goal

pub family_span-family-requires : goal.family_span-family-requires
family_span-family-requires c = (omega (arith, c.family_end-end.ensures), omega (arith, c.family_end-end.ensures, end-length is_family_char c.args.text.now (c.args.at + 1) (omega arith)))

pub constraints-set-requires : goal.constraints-set-requires
constraints-set-requires c = (omega (arith, c.family_end-end.ensures, end-length is_family_char c.args.text.now (c.args.at + 1) (omega arith)), c.requires.at_in_bounds.1)

pub multiplier-times-requires : goal.multiplier-times-requires
multiplier-times-requires c = (within c.args.text.now c.family_end-end.result (takes-constraints c.args.features) (omega (arith, c.family_end-end.ensures, end-length is_family_char c.args.text.now (c.args.at + 1) (omega arith))) c.constraints-set.ensures).1

pub returns-then-features : goal.returns-then-features
returns-then-features c =
    let text = c.args.text.now in
    let last = c.multiplier-times.result.next in
    ap (λ (l : List ℕ). read l last (drop last text)) c.rotation_fields.ensures
    ∙ a-rotation c.args.features text c.args.at c.family_end-end.result c.constraints-set.result.next last _ _ _ c.if-features.true c.requires.at_sign
    c.family_end-end.ensures c.family_span-family.ensures.result_value c.constraints-set.ensures c.multiplier-times.ensures

pub returns : goal.returns
returns c = rotations-off c.args.features c.args.at (drop c.args.at c.args.text.now) c.if-features.false
