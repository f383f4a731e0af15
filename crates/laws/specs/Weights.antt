-- The sum of a weight over an unrolled list, by the tree and by multiplication: `weight_is` (proofs/Weights) says that it is `total` of
-- that list (specs/Basics of `notation`), for every weight that undoing keeps.
use Rattle.std.specs.Prelude.{ℕ, ◌+◌, ◌*◌}
use Rattle.notation.specs.Tree.{Node, leaf, block, Body, group, binary_group, NodeList, nil, cons}
use Rattle.notation.specs.Counts.{times, count_binary}

-- what a group holds weighs as many times as the group plays it
unfoldable mutual
  pub weight_node : {L : Type 0} → (L → ℕ) → Node L → ℕ
  weight_node w (leaf x) = w x
  weight_node w (block b m) = times b m * weight_body w b

  pub weight_body : {L : Type 0} → (L → ℕ) → Body L → ℕ
  weight_body w (group k a) = weight w a
  weight_body w (binary_group k a b) = count_binary k (weight w a) (weight w b)

  pub weight : {L : Type 0} → (L → ℕ) → NodeList L → ℕ
  weight w nil = 0
  weight w (cons n l) = weight_node w n + weight w l
