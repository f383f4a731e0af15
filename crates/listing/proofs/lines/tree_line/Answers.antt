-- A refusal, or a tree that is printed. Assumes nothing.
use Rattle.notation.specs.Packed.{unpack}
use Rattle.notation.specs.Entries.{display}
use Rattle.notation.specs.Lister.{field}
use Rattle.listing.proofs.Fields.{wrote-line, display-given}
use Rattle.listing.proofs.lines.tree_line.Goals as goal

pub returns-in-Ok : goal.returns-in-Ok
returns-in-Ok c =
    let a = c.args in
    let accepted = c.in-Ok.ensures.found.accepted in
    wrote-line a.label.now (field (display a.text.now a.tree.now)) (display-given a.text.now a.tree.now (unpack a.tree.now) accepted.is)
    c.put_bytes.ensures c.put.ensures c.put_nodes.ensures c.put-in-Ok.ensures
