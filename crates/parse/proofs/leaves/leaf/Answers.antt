-- `leaf` meets its contract: the rules that do not start with the first byte reject. Assumes nothing.
use Rattle.std.specs.Prelude.{Some, None}
use mathlib.Core.Path.{ap, ◌∙◌}
use mathlib.Core.List.{List}
use mathlib.Core.Logic.{⊎_elim, inl, inr}
use Prim.Native.Nat.{ℕ, ◌+◌}
use lib.ListN.{drop}
use Rattle.notation.specs.Grammar.{read}
use Rattle.parse.proofs.Rules.{leaf-within}
use Rattle.parse.proofs.FirstBytes.{is-pause, is-rotation, is-parenthesis, is-slash, is-other, is-end}
use Rattle.parse.proofs.leaves.leaf.Goals as goal

pub returns-then-text-at : goal.returns-then-text-at
returns-then-text-at c =
    let a = c.args in
    let e = is-end a.features a.text.now a.at c.if-text-at.true in
    record { means = e; within = leaf-within a.features a.text.now a.at None c.requires.0 e }

pub returns-in-46 : goal.returns-in-46
returns-in-46 c =
    let a = c.args in
    let last = a.at + 1 in
    let e =
    ap (λ (l : List ℕ). read l last (drop last a.text.now)) c.pause_fields.ensures
    ∙ is-pause a.features a.text.now a.at c.if-text-at.false c.in-46.is in
    record { means = e; within = leaf-within a.features a.text.now a.at (Some (record { value = c.pause_fields.result; next = last })) c.requires.0 e }

pub returns-in-64 : goal.returns-in-64
returns-in-64 c =
    let a = c.args in
    let e = is-rotation a.features a.text.now a.at c.if-text-at.false c.in-64.is c.rotation.ensures in
    record { means = e; within = leaf-within a.features a.text.now a.at c.rotation.result c.requires.0 e }

pub returns-in-40 : goal.returns-in-40
returns-in-40 c =
    let a = c.args in
    let q = c.admitted_sq1_move.ensures in
    let e =
    ⊎_elim (λ b. is-parenthesis a.features a.text.now a.at c.if-text-at.false b q)
    (λ b. is-slash a.features a.text.now a.at c.if-text-at.false b q) c.in-40.is in
    record { means = e; within = leaf-within a.features a.text.now a.at c.admitted_sq1_move.result c.requires.0 e }

pub returns-in_default : goal.returns-in_default
returns-in_default c =
    let a = c.args in
    let other = c.in_default.in_default-own.rest in
    let e = is-other a.features a.text.now a.at c.if-text-at.false other.0.0.1 other.0.1 (λ b. other.1 (inl b)) (λ b. other.1 (inr b)) c.scramble_or_move.ensures in
    record { means = e; within = leaf-within a.features a.text.now a.at c.scramble_or_move.result c.requires.0 e }
