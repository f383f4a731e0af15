-- By the kind: the tilde, then the layers. Assumes nothing.
use mathlib.Core.Path.{◌∙◌}
use Rattle.record.specs.declared.kinds.Kind.TheVariants.{Rotation}
use Rattle.record.proofs.SameKind.{not-kind}
use Rattle.display.proofs.Writing.{wrote_then}
use Rattle.display.proofs.Leaves.{move-before}
use Rattle.display.proofs.write.Printer.put_before_family.Goals as goal

pub put_layers-requires : goal.put_layers-requires
put_layers-requires c =
    rw c.layers.ensures (c.requires.layers (λ z. not-kind _ Rotation c.eq.ensures c.if-eq.false (c.kind.ensures ∙ z)))

pub returns : goal.returns
returns c =
    let a = c.args in
    move-before a.text.now a.t.now c.kind.ensures (not-kind _ Rotation c.eq.ensures c.if-eq.false) c.tilde.ensures c.layers.ensures
    (wrote_then c.put_if-inverted.ensures c.put_layers.ensures)
