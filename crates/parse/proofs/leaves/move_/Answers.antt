-- `move_` meets its contract: part after part, it rejects only where no family stands. Assumes nothing.
use mathlib.Core.Path.{ap, ◌∙◌}
use mathlib.Core.List.{List}
use native.Mathlib.Omega.{arith}
use Prim.Native.Nat.{ℕ}
use lib.ListN.{drop}
use Rattle.notation.specs.Chars.{is_family_char}
use Rattle.notation.specs.Grammar.{read}
use Rattle.charsets.proofs.Runs.{end-length}
use Rattle.parse.proofs.Past.{within}
use Rattle.parse.proofs.Rules.{takes-tilde, takes-layers, takes-constraints}
use Rattle.parse.proofs.LeafReaders.{no_move, a_move}
use Rattle.parse.proofs.leaves.move_.Goals as goal

pub layer_prefix_contents-prefix-requires : goal.layer_prefix_contents-prefix-requires
layer_prefix_contents-prefix-requires c = ((within c.args.text.now c.args.at (takes-tilde c.args.features) c.requires.0 c.tilde-sign.ensures).1, c.requires.1)

pub family_end-end-requires : goal.family_end-end-requires
family_end-end-requires c = (within c.args.text.now c.tilde-sign.result.next (takes-layers c.args.features) (within c.args.text.now c.args.at (takes-tilde c.args.features) c.requires.0 c.tilde-sign.ensures).1 c.layer_prefix_contents-prefix.ensures).1

pub returns-then-end-from : goal.returns-then-end-from
returns-then-end-from c = no_move c.args.features c.args.text.now c.args.at c.tilde-sign.result.next _ c.layer_prefix_contents-prefix.result.next c.family_end-end.result _ c.tilde-sign.ensures c.layer_prefix_contents-prefix.ensures c.family_end-end.ensures c.if-end-from.true

pub family_span-family-requires : goal.family_span-family-requires
family_span-family-requires c = (omega (arith, c.family_end-end.ensures), omega (arith, c.family_end-end.ensures, end-length is_family_char c.args.text.now c.layer_prefix_contents-prefix.result.next (within c.args.text.now c.tilde-sign.result.next (takes-layers c.args.features) (within c.args.text.now c.args.at (takes-tilde c.args.features) c.requires.0 c.tilde-sign.ensures).1 c.layer_prefix_contents-prefix.ensures).1))

pub constraints-set-requires : goal.constraints-set-requires
constraints-set-requires c = (omega (arith, c.family_end-end.ensures, end-length is_family_char c.args.text.now c.layer_prefix_contents-prefix.result.next (within c.args.text.now c.tilde-sign.result.next (takes-layers c.args.features) (within c.args.text.now c.args.at (takes-tilde c.args.features) c.requires.0 c.tilde-sign.ensures).1 c.layer_prefix_contents-prefix.ensures).1), c.requires.1)

pub multiplier-times-requires : goal.multiplier-times-requires
multiplier-times-requires c = (within c.args.text.now c.family_end-end.result (takes-constraints c.args.features) (omega (arith, c.family_end-end.ensures, end-length is_family_char c.args.text.now c.layer_prefix_contents-prefix.result.next (within c.args.text.now c.tilde-sign.result.next (takes-layers c.args.features) (within c.args.text.now c.args.at (takes-tilde c.args.features) c.requires.0 c.tilde-sign.ensures).1 c.layer_prefix_contents-prefix.ensures).1)) c.constraints-set.ensures).1

pub returns : goal.returns
returns c =
    let text = c.args.text.now in
    let sign = c.tilde-sign in
    let prefix = c.layer_prefix_contents-prefix in
    let end = c.family_end-end in
    let last = c.multiplier-times.result.next in
    ap (λ (l : List ℕ). read l last (drop last text)) c.move_fields.ensures
    ∙ a_move c.args.features text c.args.at sign.result.next _ prefix.result.next end.result _ sign.ensures prefix.ensures end.ensures c.constraints-set.result.next last _ _ _
    c.if-end-from.false c.family_span-family.ensures.result_value c.constraints-set.ensures c.multiplier-times.ensures
