-- Each arm. Assumes nothing.
use mathlib.Core.Path.{ap}
use Rattle.record.specs.Kinds.{kind_number}
use Rattle.record.specs.declared.kinds.Kind.TheVariants.{Commutator}
use Rattle.record.proofs.SameKind.{one-kind}
use Rattle.display.proofs.Writing.{wrote_then}
use Rattle.display.proofs.ByKind.{commutator-separated, conjugate-separated}
use Rattle.display.proofs.write.Printer.put_separator.Goals as goal

pub returns-in-Commutator : goal.returns-in-Commutator
returns-in-Commutator c = commutator-separated (ap kind_number c.in-Commutator.is) (wrote_then c.put.ensures c.put-in-Commutator.ensures)

pub returns-in_default : goal.returns-in_default
returns-in_default c = conjugate-separated (λ z. c.in_default.not-Commutator (one-kind _ Commutator z)) (wrote_then c.put-in_default.ensures c.put-in_default-2.ensures)
