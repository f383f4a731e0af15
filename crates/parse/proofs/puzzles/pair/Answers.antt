-- `pair` meets its contract: each way out is one case of the rule. Assumes nothing.
use mathlib.Core.Path.{sym, ap, ◌∙◌}
use mathlib.Core.List.{List}
use Prim.Native.Nat.{ℕ, ◌+◌}
use lib.ListN.{drop}
use Rattle.notation.specs.Grammar.{read}
use native.Mathlib.Omega.{arith}
use Rattle.parse.proofs.Bytes.{seen}
use Rattle.parse.proofs.LeafReaders.{no-comma, no-d, a_pair, no-close}
use Rattle.parse.proofs.puzzles.pair.Goals as goal

pub overflow_add-u : goal.overflow_add-u
overflow_add-u c = omega (arith, seen c.args.text.now c.in-Some.u.next 44 (omega arith) (sym c.has.ensures ∙ c.if-has.true))

pub padded_number-requires-then-has : goal.padded_number-requires-then-has
padded_number-requires-then-has c = omega (arith, seen c.args.text.now c.in-Some.u.next 44 (omega arith) (sym c.has.ensures ∙ c.if-has.true))

pub overflow_add-result : goal.overflow_add-result
overflow_add-result c =
    omega (arith, c.well_formed.0.0, seen c.args.text.now c.in-Some-padded_number.d.next 41 (omega arith) (sym c.has-then-has.ensures ∙ c.if-has-2.true))

pub returns-then-has-2 : goal.returns-then-has-2
returns-then-has-2 c =
    let text = c.args.text.now in
    let last = c.in-Some-padded_number.d.next + 1 in
    ap (λ (l : List ℕ). read l last (drop last text)) c.pair_fields.ensures
    ∙ a_pair text c.args.at _ c.in-Some.u.next (rw c.in-Some.is at c.padded_number.ensures)
    (sym c.has.ensures ∙ c.if-has.true)
    _ c.in-Some-padded_number.d.next (rw c.in-Some-padded_number.is at c.padded_number-then-has.ensures) (sym c.has-then-has.ensures ∙ c.if-has-2.true)

pub returns-else-has-2 : goal.returns-else-has-2
returns-else-has-2 c = no-close c.args.text.now c.args.at _ c.in-Some.u.next (rw c.in-Some.is at c.padded_number.ensures) (sym c.has.ensures ∙ c.if-has.true) _ c.in-Some-padded_number.d.next (rw c.in-Some-padded_number.is at c.padded_number-then-has.ensures) (sym c.has-then-has.ensures ∙ c.if-has-2.false)

pub returns-else-has : goal.returns-else-has
returns-else-has c = no-comma c.args.text.now c.args.at _ c.in-Some.u.next (rw c.in-Some.is at c.padded_number.ensures) (sym c.has.ensures ∙ c.if-has.false)

pub returns-in_default-padded_number : goal.returns-in_default-padded_number
returns-in_default-padded_number c = no-d c.args.text.now c.args.at _ c.in-Some.u.next (rw c.in-Some.is at c.padded_number.ensures) (sym c.has.ensures ∙ c.if-has.true) (rw c.in_default-padded_number.is at c.padded_number-then-has.ensures)
