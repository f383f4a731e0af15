-- What the records of a tree say, one after the other as they lie.
use Rattle.std.specs.Prelude.{List, ◌∷◌}
use Rattle.notation.specs.Tree.{Leaf, Node, leaf, block, Body, group, binary_group, nil, cons, Tree}
use Rattle.notation.specs.Packed.{Head, leaf_head, body_head}

-- The heads of a tree in reading order, a group's before those of its contents, in front of others.
unfoldable mutual
  pub node_heads : Node Leaf → List Head → List Head
  node_heads (leaf x) hs = leaf_head x ∷ hs
  node_heads (block b m) hs = body_head b m ∷ body_heads b hs

  pub body_heads : Body Leaf → List Head → List Head
  body_heads (group k a) hs = heads a hs
  body_heads (binary_group k a b) hs = heads a (heads b hs)

  pub heads : Tree → List Head → List Head
  heads nil hs = hs
  heads (cons n l) hs = node_heads n (heads l hs)
