-- `nodes::leaf_node` meets its contract: what `leaf` reads is a leaf, and its record is written. Assumes nothing.
use Rattle.record.specs.Meaning.{listed}
use Rattle.parse.proofs.LeafNodes.{leaf-read}
use Rattle.parse.proofs.node.leaf_node.Goals as goal

pub returns : goal.returns
returns c =
    let a = c.args in
    let ends = rw c.in-Some.is at c.leaf.ensures.within in
    rw c.put_record.ensures
    (leaf-read a.features a.text.now a.at a.slot a.tree.now a.tally (listed c.in-Some.leaf.value) c.in-Some.leaf.next (rw c.in-Some.is at c.leaf.ensures.means) ends.0 ends.1)
