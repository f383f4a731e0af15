-- `invert::inv_node` meets its contract: the copy with its first record undone. Assumes nothing.
use Rattle.invert.proofs.Nodes.{copy-starts, copy-inverted}
use Rattle.invert.proofs.inv_node.Goals as goal

pub undo_record-requires : goal.undo_record-requires
undo_record-requires c =
    copy-starts c.requires.node.1 c.copy.ensures

pub returns : goal.returns
returns c =
    copy-inverted c.requires.node.1 c.copy.ensures
    c.undo_record.ensures
