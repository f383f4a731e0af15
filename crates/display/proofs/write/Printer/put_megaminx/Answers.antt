-- A letter and a sign, twice. Assumes nothing.
use mathlib.Core.Path.{sym, ap}
use Rattle.record.specs.Kinds.{kind_number}
use Rattle.record.specs.declared.kinds.Kind.TheVariants.{RPlus, RMinus, DPlus}
use Rattle.record.proofs.SameKind.{one-kind}
use Rattle.display.proofs.Writing.{wrote_then}
use Rattle.display.proofs.ByKind.{letter, sign, scrambled, scrambled-last}
use Rattle.display.proofs.write.Printer.put_megaminx.Goals as goal

pub returns-in-RPlus : goal.returns-in-RPlus
returns-in-RPlus c = scrambled (ap letter (sym (ap kind_number c.in-RPlus.is))) (ap sign (sym (ap kind_number c.in-RPlus.is))) (wrote_then c.put.ensures (wrote_then c.put-in-RPlus.ensures c.put-in-RPlus-2.ensures))

pub returns-in-RMinus : goal.returns-in-RMinus
returns-in-RMinus c = scrambled (ap letter (sym (ap kind_number c.in-RMinus.is))) (ap sign (sym (ap kind_number c.in-RMinus.is))) (wrote_then c.put-in-RMinus.ensures (wrote_then c.put-in-RMinus-2.ensures c.put-in-RMinus-3.ensures))

pub returns-in-DPlus : goal.returns-in-DPlus
returns-in-DPlus c = scrambled (ap letter (sym (ap kind_number c.in-DPlus.is))) (ap sign (sym (ap kind_number c.in-DPlus.is))) (wrote_then c.put-in-DPlus.ensures (wrote_then c.put-in-DPlus-2.ensures c.put-in-DPlus-3.ensures))

pub returns-in_default : goal.returns-in_default
returns-in_default c =
    scrambled-last (λ z. c.in_default.not-RPlus (one-kind _ RPlus z)) (λ z. c.in_default.not-RMinus (one-kind _ RMinus z)) (λ z. c.in_default.not-DPlus (one-kind _ DPlus z))
    (wrote_then c.put-in_default.ensures (wrote_then c.put-in_default-2.ensures c.put-in_default-3.ensures))
