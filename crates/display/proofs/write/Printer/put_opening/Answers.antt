-- Each arm with a sign. Assumes nothing.
use mathlib.Core.Path.{ap}
use Rattle.record.specs.Kinds.{kind_number}
use Rattle.record.specs.declared.kinds.Kind.TheVariants.{Simple, Macro, Simultaneous}
use Rattle.record.proofs.SameKind.{one-kind}
use Rattle.display.proofs.Writing.{wrote_then}
use Rattle.display.proofs.ByKind.{macro-opened, simultaneous-opened, niss-opened}
use Rattle.display.proofs.write.Printer.put_opening.Goals as goal

pub returns-in-Macro : goal.returns-in-Macro
returns-in-Macro c = macro-opened (ap kind_number c.in-Macro.is) (wrote_then c.put-in-Macro.ensures c.put-in-Macro-2.ensures)

pub returns-in-Simultaneous : goal.returns-in-Simultaneous
returns-in-Simultaneous c = simultaneous-opened (ap kind_number c.in-Simultaneous.is) (wrote_then c.put-in-Simultaneous.ensures c.put-in-Simultaneous-2.ensures)

pub returns-in_default : goal.returns-in_default
returns-in_default c =
    niss-opened
    (((tt, λ z. c.in_default.not-Simple (one-kind _ Simple z)), λ z. c.in_default.not-Macro (one-kind _ Macro z)), λ z. c.in_default.not-Simultaneous (one-kind _ Simultaneous z))
    (wrote_then c.put-in_default.ensures c.put-in_default-2.ensures)
