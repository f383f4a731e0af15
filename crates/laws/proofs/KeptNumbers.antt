-- An inverse that is not refused keeps numbers that fit, whatever the tree. That it fits its records, counts and sizes included, is `inverted-fits`
-- and `deeply-fits` of KeptByInverses, of trees over a text. Assumes nothing.
use mathlib.Core.Path.{◌≡◌, refl}
use mathlib.Core.Bool.{true}
use mathlib.Core.Option.{none}
use lib.IntN.{neg_ℤ}
use Rattle.notation.specs.Tree.{Leaf, rotation, move, pause, pair, slash, megaminx, Node, leaf, block, Body, group, binary_group, nil, cons, append, Tree}
use Rattle.notation.specs.Invert.{undo}
use Rattle.notation.specs.declared.common.BinaryGroupKind.TheVariants.{Commutator, Conjugate}
use Rattle.laws.proofs.Bools.{and_left, and_right, and_both}
use Rattle.laws.specs.Inverted.{inverted, inv_refusal, deeply_node, deeply_body, deeply, deep_refusal_node, deep_refusal_body, deep_refusal}
use Rattle.laws.proofs.Reached.{negatable, first-left, first-right, unrefused}
use Rattle.laws.proofs.Fits.{leaf_fits, node_fits, body_fits, tree_fits}
use Rattle.laws.proofs.KeptByInverses.{pair_fits, unrefused-group}

pub undo-fits : (x : Leaf) → negatable x ≡ true → leaf_fits x ≡ true → leaf_fits (undo x) ≡ true
unfolding leaf_fits
undo-fits (rotation f c m) n h = h
undo-fits (move t l f c m) n h = refl
undo-fits pause n h = refl
undo-fits (pair u d) n h = pair_fits u d n h
undo-fits slash n h = refl
undo-fits (megaminx k) n h = refl

pub fits-append : (a b : Tree) → tree_fits a ≡ true → tree_fits b ≡ true → tree_fits (append a b) ≡ true
unfolding append tree_fits
fits-append nil b p q = q
fits-append (cons n a) b p q = and_both (node_fits n) _ (and_left _ _ p) (fits-append a b (and_right (node_fits n) _ p) q)

pub inverted-fits : (t : Tree) → inv_refusal t ≡ none → tree_fits t ≡ true → tree_fits (inverted t) ≡ true
unfolding inverted inv_refusal tree_fits node_fits
inverted-fits nil r h = refl
inverted-fits (cons (leaf x) l) r h =
    fits-append (inverted l) (cons (leaf (undo x)) nil) (inverted-fits l (first-left _ _ r) (and_right (leaf_fits x) _ h))
    (and_both (leaf_fits (undo x)) true (undo-fits x (unrefused x (first-right (inv_refusal l) _ r)) (and_left _ _ h)) refl)
inverted-fits (cons (block b m) l) r h =
    fits-append (inverted l) (cons (block b (neg_ℤ m)) nil) (inverted-fits l (first-left _ _ r) (and_right (body_fits b) _ h))
    (and_both (body_fits b) true (and_left _ _ h) refl)

mutual
  unfolding deeply_node deeply_body deeply deep_refusal_node deep_refusal_body deep_refusal node_fits body_fits tree_fits

  deeply_node-fits : (n : Node Leaf) → deep_refusal_node n ≡ none → node_fits n ≡ true → node_fits (deeply_node n) ≡ true
  deeply_node-fits (leaf x) r h = undo-fits x (unrefused x r) h
  deeply_node-fits (block b m) r h = deeply_body-fits b r h

  deeply_body-fits : (b : Body Leaf) → deep_refusal_body b ≡ none → body_fits b ≡ true → body_fits (deeply_body b) ≡ true
  deeply_body-fits (group k a) r h = deeply-fits a (unrefused-group k (deep_refusal a) r) h
  deeply_body-fits (binary_group Commutator a b) r h = and_both (tree_fits b) _ (and_right (tree_fits a) _ h) (and_left _ _ h)
  deeply_body-fits (binary_group Conjugate a b) r h = and_both (tree_fits a) _ (and_left _ _ h) (deeply-fits b r (and_right (tree_fits a) _ h))

  pub deeply-fits : (t : Tree) → deep_refusal t ≡ none → tree_fits t ≡ true → tree_fits (deeply t) ≡ true
  deeply-fits nil r h = refl
  deeply-fits (cons n l) r h =
      fits-append (deeply l) (cons (deeply_node n) nil) (deeply-fits l (first-left _ _ r) (and_right (node_fits n) _ h))
      (and_both (node_fits (deeply_node n)) true (deeply_node-fits n (first-right (deep_refusal l) _ r) (and_left _ _ h)) refl)
