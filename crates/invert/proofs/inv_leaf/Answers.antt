-- `invert::inv_leaf` meets its contract: as `inv_node`, of a node that is one record. Assumes nothing.
use mathlib.Core.Path.{◌∙◌}
use Rattle.notation.specs.Packed.{RECORD}
use Rattle.record.proofs.Copying.{over-all}
use Rattle.invert.proofs.Nodes.{copy-starts, copy-inverted}
use Rattle.invert.proofs.inv_leaf.Goals as goal

pub undo_record-requires : goal.undo_record-requires
undo_record-requires c =
    copy-starts c.requires.node.1 (over-all c.args.node.now c.args.out.now RECORD (c.requires.node_len.1 ∙ c.requires.node_len.0) c.copy_record.ensures)

pub returns : goal.returns
returns c =
    copy-inverted c.requires.node.1 (over-all c.args.node.now c.args.out.now RECORD (c.requires.node_len.1 ∙ c.requires.node_len.0) c.copy_record.ensures)
    c.undo_record.ensures
