-- A tree has at most one record for every two bytes that it is read from and the space after it: a leaf has a byte and white space beside it, and a group two
-- brackets. Assumes nothing.
use Prim.Native.Nat.{ℕ, ◌+◌, ◌*◌, ◌≤◌}
use mathlib.Core.Path.{◌≡◌}
use mathlib.Core.Bool.{true}
use mathlib.Core.List.{List}
use native.Mathlib.Omega.{arith}
use borrow.Author.Tests.{leb-true}
use Rattle.notation.specs.Tree.{
  Leaf,
  rotation,
  move,
  pause,
  pair,
  slash,
  megaminx,
  Node,
  leaf,
  block,
  Body,
  group,
  binary_group,
  nil,
  cons,
  Tree,
}
use Rattle.notation.specs.Packed.{node_size, body_size, size}
use Rattle.notation.specs.WellFormed.{inside, layers_ok, multiplier_ok, leaf_ok, node_ok, body_ok, tree_ok}
use Rattle.laws.proofs.Bools.{and_left, and_right}
use Rattle.size_laws.proofs.Bytes.{leaf_bytes, node_bytes, body_bytes, spaced, bytes}

module _ (text : List ℕ) where
  pub some_byte : (x : Leaf) → leaf_ok text x ≡ true → 1 ≤ leaf_bytes x
  unfolding leaf_ok leaf_bytes
  some_byte (rotation f c m) h = omega arith
  some_byte (move t l f c m) h =
      let named = and_right (layers_ok text l) _ (and_left _ _ (and_left _ _ h)) in
      omega (arith, leb-true 1 f.size (and_right (inside text f) _ (and_left _ _ named)))
  some_byte pause h = omega arith
  some_byte (pair u d) h = omega arith
  some_byte slash h = omega arith
  some_byte (megaminx k) h = omega arith

  mutual
    unfolding node_size body_size size node_ok body_ok tree_ok node_bytes body_bytes spaced

    node-records : (n : Node Leaf) → node_ok text n ≡ true → 2 * node_size n ≤ 1 + node_bytes n
    node-records (leaf x) h = omega (arith, some_byte x h)
    node-records (block b m) h = omega (arith, body-records b (and_right (multiplier_ok m) _ h))

    body-records : (b : Body Leaf) → body_ok text b ≡ true → 1 + 2 * body_size b ≤ body_bytes b
    body-records (group k a) h = omega (arith, spaced-records a h)
    body-records (binary_group k a b) h =
        omega (arith, spaced-records a (and_left _ _ h), spaced-records b (and_right (tree_ok text a) _ h))

    spaced-records : (l : Tree) → tree_ok text l ≡ true → 2 * size l ≤ spaced l
    spaced-records nil h = omega arith
    spaced-records (cons n l) h = omega (arith, node-records n (and_left _ _ h), spaced-records l (and_right (node_ok text n) _ h))

  pub tree-records : (t : Tree) → tree_ok text t ≡ true → 2 * size t ≤ bytes t + 1
  tree-records t h = omega (arith, spaced-records t h)
