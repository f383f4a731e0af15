-- Each arm. Assumes nothing.
use Rattle.notation.specs.Print.{put_step}
use Rattle.notation.specs.Meaning.{step_of}
use mathlib.Core.Path.{ap, ◌∙◌, sym}
use mathlib.Core.Logic.{⊎_elim, inl, inr}
use Rattle.notation.specs.Tree.{pause, slash}
use Rattle.record.proofs.Packed.{head_at-kind}
use Rattle.record.specs.Kinds.{kind_number}
use Rattle.record.specs.declared.kinds.Kind.TheVariants.{Rotation, Move, Pause, Pair, Slash}
use Rattle.record.proofs.SameKind.{one-kind}
use Rattle.display.proofs.Leaves.{leaf-put, pair_put, megaminx-put, transform-good, transform-put}
use Rattle.display.proofs.write.Printer.put_leaf.Goals as goal

pub put_transform-requires : goal.put_transform-requires
put_transform-requires c =
    transform-good c.args.text.now c.args.t.now c.kind.ensures c.requires (⊎_elim (λ e. inl (ap kind_number e)) (λ e. inr (ap kind_number e)) c.in-Rotation.is)

pub returns-in-Pause : goal.returns-in-Pause
unfolding put_step step_of
returns-in-Pause c =
    let a = c.args in
    leaf-put a.text.now a.t.now pause (head_at-kind a.t.now 8 (sym (ap kind_number c.in-Pause.is) ∙ c.kind.ensures)) c.put.ensures

pub returns-in-Pair : goal.returns-in-Pair
returns-in-Pair c =
    let a = c.args in
    pair_put a.text.now a.t.now c.kind.ensures (ap kind_number c.in-Pair.is) c.number.ensures c.other.ensures c.put_pair.ensures

pub returns-in-Slash : goal.returns-in-Slash
unfolding put_step step_of
returns-in-Slash c =
    let a = c.args in
    leaf-put a.text.now a.t.now slash (head_at-kind a.t.now 10 (sym (ap kind_number c.in-Slash.is) ∙ c.kind.ensures)) c.put-in-Slash.ensures

pub returns-in-Rotation : goal.returns-in-Rotation
returns-in-Rotation c =
    let a = c.args in
    λ x h. transform-put a.text.now a.t.now c.kind.ensures c.put_transform.ensures x h (⊎_elim (λ e. inl (ap kind_number e)) (λ e. inr (ap kind_number e)) c.in-Rotation.is)

pub returns-in_default : goal.returns-in_default
returns-in_default c =
    let a = c.args in
    megaminx-put a.text.now a.t.now c.kind.ensures c.requires
    (((tt, λ z. c.in_default.not-Pause (one-kind _ Pause z)), λ z. c.in_default.not-Pair (one-kind _ Pair z)), λ z. c.in_default.not-Slash (one-kind _ Slash z))
    (λ z. c.in_default.not-Rotation (one-kind _ Rotation z)) (λ z. c.in_default.not-Move (one-kind _ Move z)) c.put_megaminx.ensures
