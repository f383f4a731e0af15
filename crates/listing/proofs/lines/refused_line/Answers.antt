-- One after the other. Assumes nothing.
use mathlib.Core.Path.{refl}
use mathlib.Core.List.{[]}
use Rattle.notation.specs.Numbers.{show}
use Rattle.display.proofs.Writing.{wrote_then}
use Rattle.listing.proofs.Fields.{wrote-to}
use Rattle.listing.proofs.lines.refused_line.Goals as goal

pub returns : goal.returns
returns c =
    let a = c.args in
    wrote_then c.put_bytes.ensures (wrote_then c.put_bytes-2.ensures (wrote_then (wrote-to (show a.number []) refl c.put_number.ensures) c.put.ensures))
