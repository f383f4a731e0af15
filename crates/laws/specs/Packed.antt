-- Packed lists of nodes, as the walkers take them.
use Rattle.std.specs.Prelude.{ℕ, ◌≡◌, List}
use Rattle.notation.specs.Tree.{Leaf, Node, leaf, block, Body, group, binary_group, nil, cons, Tree}
use Rattle.notation.specs.Packed.{body_head, pack, unpack}
use Rattle.record.specs.Range.{FitsLeaf, FitsHead}

-- Trees whose numbers fit their fields.
unfoldable mutual
  pub FitsNode : Node Leaf → Type 0
  FitsNode (leaf x) = FitsLeaf x
  FitsNode (block b m) = FitsHead (body_head b m) × FitsBody b

  pub FitsBody : Body Leaf → Type 0
  FitsBody (group k a) = FitsTree a
  FitsBody (binary_group k a b) = FitsTree a × FitsTree b

  pub FitsTree : Tree → Type 0
  FitsTree nil = Unit {0}
  FitsTree (cons n l) = FitsNode n × FitsTree l

-- The bytes of a packed list of nodes.
pub record Packed (bs : List ℕ) : Type 0 where
  pub whole : pack (unpack bs) ≡ bs
  pub fits : FitsTree (unpack bs)
