-- One after the other. Assumes nothing.
use mathlib.Core.Path.{refl}
use mathlib.Core.List.{[]}
use Rattle.notation.specs.Numbers.{show}
use Rattle.listing.proofs.Fields.{wrote-line}
use Rattle.listing.proofs.lines.number_line.Goals as goal

pub returns : goal.returns
returns c =
    let a = c.args in
    wrote-line a.label.now (show a.n []) refl c.put_bytes.ensures c.put.ensures c.put_number.ensures c.put-2.ensures
