-- How many parentheses stand one inside another in a printed tree: a group's and a pair's. Inverses and other leaves keep the number.
-- Assumes nothing.
use Prim.Native.Nat.{ℕ, suc, max, ◌≤◌}
use mathlib.Core.Path.{◌≡◌, refl, ap}
use mathlib.Core.List.{List}
use native.Mathlib.Omega.{arith}
use Rattle.notation.specs.Tree.{
  LeafOf,
  rotation,
  move,
  pause,
  pair,
  slash,
  megaminx,
  Leaf,
  Node,
  leaf,
  block,
  Body,
  group,
  binary_group,
  NodeList,
  nil,
  cons,
  append,
  map_node,
  map_body,
  map_nodes,
  Tree,
}
use Rattle.notation.specs.Meaning.{step_of, unspanned}
use Rattle.notation.specs.WellFormed.{node_depth, body_depth, depth}
use Rattle.notation.specs.Invert.{undo}
use Rattle.notation.specs.declared.common.BinaryGroupKind.TheVariants.{Commutator, Conjugate}
use Rattle.laws.specs.Inverted.{inverted_node, inverted, deeply_node, deeply_body, deeply}

abbrev pub leaf_parens : {F C S : Type 0} → LeafOf F C S → ℕ
leaf_parens (rotation f c m) = 0
leaf_parens (move t l f c m) = 0
leaf_parens pause = 0
leaf_parens (pair u d) = 1
leaf_parens slash = 0
leaf_parens (megaminx k) = 0

module _ {F C S : Type 0} where
  unfoldable mutual
    pub node_parens : Node (LeafOf F C S) → ℕ
    node_parens (leaf x) = leaf_parens x
    node_parens (block b m) = suc (body_parens b)

    -- inside the parentheses of the block itself
    pub body_parens : Body (LeafOf F C S) → ℕ
    body_parens (group k a) = parens a
    body_parens (binary_group k a b) = max (parens a) (parens b)

    pub parens : NodeList (LeafOf F C S) → ℕ
    parens nil = 0
    parens (cons n l) = max (node_parens n) (parens l)

  -- No more groups than parentheses.
  mutual
    unfolding node_parens body_parens parens node_depth body_depth depth

    node_parens-depth : (n : Node (LeafOf F C S)) → node_depth n ≤ node_parens n
    node_parens-depth (leaf x) = omega arith
    node_parens-depth (block b m) = omega (arith, body_parens-depth b)

    body_parens-depth : (b : Body (LeafOf F C S)) → body_depth b ≤ body_parens b
    body_parens-depth (group k a) = parens-depth a
    body_parens-depth (binary_group k a b) = omega (arith, parens-depth a, parens-depth b)

    pub parens-depth : (t : NodeList (LeafOf F C S)) → depth t ≤ parens t
    parens-depth nil = omega arith
    parens-depth (cons n l) = omega (arith, node_parens-depth n, parens-depth l)

-- A tree and its unspanned form have the same.
step-parens : (text : List ℕ) (x : Leaf) → leaf_parens (step_of text x) ≡ leaf_parens x
unfolding step_of
step-parens text (rotation f c m) = refl
step-parens text (move t l f c m) = refl
step-parens text pause = refl
step-parens text (pair u d) = refl
step-parens text slash = refl
step-parens text (megaminx k) = refl

mutual
  unfolding node_parens body_parens parens map_node map_body map_nodes

  node_parens-unspanned : (n : Node Leaf) (text : List ℕ) → node_parens (map_node (step_of text) n) ≡ node_parens n
  node_parens-unspanned (leaf x) text = step-parens text x
  node_parens-unspanned (block b m) text = ap suc (body_parens-unspanned b text)

  body_parens-unspanned : (b : Body Leaf) (text : List ℕ) → body_parens (map_body (step_of text) b) ≡ body_parens b
  body_parens-unspanned (group k a) text = parens-unspanned a text
  body_parens-unspanned (binary_group k a b) text = omega (arith, parens-unspanned a text, parens-unspanned b text)

  pub parens-unspanned : (t : Tree) (text : List ℕ) → parens (unspanned text t) ≡ parens t
  parens-unspanned nil text = refl
  parens-unspanned (cons n l) text = omega (arith, node_parens-unspanned n text, parens-unspanned l text)

-- So have a tree and its inverses.
undo-parens : (x : Leaf) → leaf_parens (undo x) ≡ leaf_parens x
undo-parens (rotation f c m) = refl
undo-parens (move t l f c m) = refl
undo-parens pause = refl
undo-parens (pair u d) = refl
undo-parens slash = refl
undo-parens (megaminx k) = refl

append-parens : (a b : Tree) → parens (append a b) ≡ max (parens a) (parens b)
unfolding parens append
append-parens nil b = omega arith
append-parens (cons n a) b = omega (arith, append-parens a b)

last-parens : (l : Tree) (n : Node Leaf) → parens (append l (cons n nil)) ≡ max (node_parens n) (parens l)
unfolding parens
last-parens l n = omega (arith, append-parens l (cons n nil))

inverted_node-parens : (n : Node Leaf) → node_parens (inverted_node n) ≡ node_parens n
unfolding node_parens
inverted_node-parens (leaf x) = undo-parens x
inverted_node-parens (block b m) = refl

pub inverted-parens : (t : Tree) → parens (inverted t) ≡ parens t
unfolding parens inverted
inverted-parens nil = refl
inverted-parens (cons n l) = omega (arith, last-parens (inverted l) (inverted_node n), inverted_node-parens n, inverted-parens l)

mutual
  unfolding node_parens body_parens parens deeply_node deeply_body deeply

  deeply_node-parens : (n : Node Leaf) → node_parens (deeply_node n) ≡ node_parens n
  deeply_node-parens (leaf x) = undo-parens x
  deeply_node-parens (block b m) = ap suc (deeply_body-parens b)

  deeply_body-parens : (b : Body Leaf) → body_parens (deeply_body b) ≡ body_parens b
  deeply_body-parens (group k a) = deeply-parens a
  deeply_body-parens (binary_group Commutator a b) = omega arith
  deeply_body-parens (binary_group Conjugate a b) = omega (arith, deeply-parens b)

  pub deeply-parens : (t : Tree) → parens (deeply t) ≡ parens t
  deeply-parens nil = refl
  deeply-parens (cons n l) = omega (arith, last-parens (deeply l) (deeply_node n), deeply_node-parens n, deeply-parens l)
