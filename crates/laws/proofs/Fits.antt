-- What reading and unpacking give and packing needs, beside the bounds of well-formed trees: pair numbers of 32 bits, and an empty family at
-- offset 0. Assumes nothing.
use mathlib.Core.Bool.{Bool, true, ◌&&◌}
use lib.Dec.{eqb}
use Rattle.notation.specs.Basics.{pick}
use Rattle.notation.specs.Numbers.{fits_bits}
use Rattle.notation.specs.Tree.{Span, Leaf, rotation, move, pause, pair, slash, megaminx, Node, leaf, block, Body, group, binary_group, nil, cons, Tree}

abbrev pub family_fits : Span → Bool
family_fits p = pick (eqb p.size 0) (eqb p.offset 0) true

unfoldable pub leaf_fits : Leaf → Bool
leaf_fits (rotation f c m) = family_fits f
leaf_fits (move t l f c m) = true
leaf_fits pause = true
leaf_fits (pair u d) = fits_bits 32 u && fits_bits 32 d
leaf_fits slash = true
leaf_fits (megaminx k) = true

unfoldable mutual
  pub node_fits : Node Leaf → Bool
  node_fits (leaf x) = leaf_fits x
  node_fits (block b m) = body_fits b

  pub body_fits : Body Leaf → Bool
  body_fits (group k a) = tree_fits a
  body_fits (binary_group k a b) = tree_fits a && tree_fits b

  pub tree_fits : Tree → Bool
  tree_fits nil = true
  tree_fits (cons n l) = node_fits n && tree_fits l
