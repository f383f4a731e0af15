-- What an inverse that is not refused keeps of a tree: records that fit, the setting's range, steps that can be undone, and, of the deep one, that it
-- is not refused. Assumes nothing.
use Prim.Native.Nat.{ℕ, zero, suc, ◌<◌}
use mathlib.Core.Path.{◌≡◌, refl, sym, ap, ◌∙◌}
use mathlib.Core.Bool.{Bool, true, false, not, ◌&&◌, ◌||◌}
use mathlib.Core.List.{List}
use mathlib.Core.Option.{Option, none}
use native.Mathlib.Omega.{arith}
use borrow.Author.Tests.{ltb-true, ne_eqb}
use lib.IntN.{ℤ, pos, negsuc, neg_ℤ, nat_abs}
use Rattle.notation.specs.Numbers.{fits_bits}
use Rattle.notation.specs.Tree.{
  Leaf,
  Step,
  rotation,
  move,
  pause,
  pair,
  slash,
  megaminx,
  Node,
  leaf,
  block,
  Body,
  group,
  binary_group,
  nil,
  cons,
  append,
  Tree,
  map_node,
  map_body,
  map_nodes,
}
use Rattle.notation.specs.Meaning.{step_of, unspanned}
use Rattle.notation.specs.Packed.{body_head}
use Rattle.notation.specs.WellFormed.{multiplier_ok, leaf_ok, node_ok, body_ok, tree_ok}
use Rattle.notation.specs.Invert.{undo, is_min, overflows}
use Rattle.notation.specs.Unroll.{is_niss}
use Rattle.notation.specs.declared.features.Features.{Features}
use Rattle.notation.specs.declared.common.GroupKind.{GroupKind}
use Rattle.notation.specs.declared.common.GroupKind.TheVariants.{Simple, Macro, Simultaneous, Niss}
use Rattle.notation.specs.declared.common.BinaryGroupKind.TheVariants.{Commutator, Conjugate}
use Rattle.numbers.proofs.TwosComplement.{nat_abs-neg}
use Rattle.record.specs.Range.{FitsLeaf, FitsHead}
use Rattle.laws.proofs.Bools.{and_left, and_right, and_both, or-false, not-true, no-some}
use Rattle.laws.specs.Inverted.{
  inverted_node,
  inverted,
  leaf_refusal,
  inv_refusal_node,
  inv_refusal,
  deeply_node,
  deeply_body,
  deeply,
  niss_first,
  deep_refusal_node,
  deep_refusal_body,
  deep_refusal,
}
use Rattle.laws.specs.Packed.{FitsNode, FitsBody, FitsTree}
use Rattle.laws.proofs.Inverses.{niss-deeply}
use Rattle.laws.proofs.Reached.{
  negatable,
  all_if_reached,
  clean_node,
  clean_body,
  clean_nodes,
  clean,
  first-left,
  first-right,
  first-both,
  unrefused,
}
use Rattle.laws.proofs.InRange.{step_in_range, node_in_range, body_in_range, in_range}
use Rattle.laws.proofs.Packing.{append-fits}
use Rattle.laws.proofs.WellFormedInverses.{multiplier-neg, negated_fits, not-min-ok, undone-fits, deeply-size}
use Rattle.laws.proofs.Fits.{leaf_fits, node_fits, body_fits, tree_fits}

-- Undoing and meaning.
pub step-undo : (text : List ℕ) (x : Leaf) → undo (step_of text x) ≡ step_of text (undo x)
unfolding step_of
step-undo text (rotation f c m) = refl
step-undo text (move t l f c m) = refl
step-undo text pause = refl
step-undo text (pair u d) = refl
step-undo text slash = refl
step-undo text (megaminx k) = refl

pub step-negatable : (text : List ℕ) (x : Leaf) → negatable (step_of text x) ≡ negatable x
unfolding step_of
step-negatable text (rotation f c m) = refl
step-negatable text (move t l f c m) = refl
step-negatable text pause = refl
step-negatable text (pair u d) = refl
step-negatable text slash = refl
step-negatable text (megaminx k) = refl

-- Numbers of 32 bits negated: all but −2147483648 stay in 32 bits, and none becomes it.
pub neg-fits : (u : ℤ) → is_min u ≡ false → fits_bits 32 u ≡ true → fits_bits 32 (neg_ℤ u) ≡ true
neg-fits u h f = negated_fits u (not-min-ok u h f)

neg-not-min : (u : ℤ) → fits_bits 32 u ≡ true → is_min (neg_ℤ u) ≡ false
neg-not-min (pos zero) f = refl
neg-not-min (pos (suc n)) f =
    let e : suc n < 2147483648 = ltb-true (suc n) 2147483648 f in
    ne_eqb n 2147483647 (λ h. omega arith)
neg-not-min (negsuc n) f = refl

pub pair_fits : (u d : ℤ) → not (is_min u || is_min d) ≡ true → (fits_bits 32 u && fits_bits 32 d) ≡ true →
    (fits_bits 32 (neg_ℤ u) && fits_bits 32 (neg_ℤ d)) ≡ true
pair_fits u d n h =
    let e = or-false (is_min u) (is_min d) (not-true (is_min u || is_min d) n) in
    and_both (fits_bits 32 (neg_ℤ u)) _ (neg-fits u e.0 (and_left _ _ h)) (neg-fits d e.1 (and_right (fits_bits 32 u) _ h))

-- Records: what no inverse refuses still fits its fields. Made trees may be larger than any that is read, so this goes field by field and asks
-- for no size.
leaf-records : (text : List ℕ) (x : Leaf) → leaf_ok text x ≡ true → leaf_refusal x ≡ none → FitsLeaf x → FitsLeaf (undo x)
leaf-records text x h r f = undone-fits text x h (not-true (overflows x) (unrefused x r)) f

last_fits : (l : Tree) (n : Node Leaf) → FitsTree l → FitsNode n → FitsTree (append l (cons n nil))
unfolding FitsTree
last_fits l n f g = append-fits l (cons n nil) f (g, tt)

-- a head with its multiplier negated
negated-head : (b : Body Leaf) (m : ℤ) → multiplier_ok m ≡ true → FitsHead (body_head b m) → FitsHead (body_head b (neg_ℤ m))
negated-head (group k a) m h f = (f.0, negated_fits m h, omega arith)
negated-head (binary_group k a b) m h f = (f.0, f.1, negated_fits m h, omega arith)

node-records : (text : List ℕ) (n : Node Leaf) → node_ok text n ≡ true → inv_refusal_node n ≡ none → FitsNode n → FitsNode (inverted_node n)
unfolding FitsNode node_ok
node-records text (leaf x) h r f = leaf-records text x h r f
node-records text (block b m) h r f = (negated-head b m (and_left _ _ h) f.0, f.1)

pub inverted-fits : (text : List ℕ) (t : Tree) → tree_ok text t ≡ true → inv_refusal t ≡ none → FitsTree t → FitsTree (inverted t)
unfolding inverted inv_refusal FitsTree tree_ok
inverted-fits text nil h r f = tt
inverted-fits text (cons n l) h r f =
    last_fits (inverted l) (inverted_node n) (inverted-fits text l (and_right (node_ok text n) _ h) (first-left _ _ r) f.1)
    (node-records text n (and_left _ _ h) (first-right (inv_refusal l) _ r) f.0)

-- a group whose contents are inverted has no refusal in them
pub unrefused-group : (k : GroupKind) (q : Option ℕ) → niss_first k q ≡ none → q ≡ none
unrefused-group Niss q r = no-some r
unrefused-group Simple q r = r
unrefused-group Macro q r = r
unrefused-group Simultaneous q r = r

-- the head of a group inverted deep: its lists are as large, or change places
deep-head : (b : Body Leaf) (m : ℤ) → FitsHead (body_head b m) → FitsHead (body_head (deeply_body b) m)
unfolding deeply_body
deep-head (group k a) m f = (omega (arith, deeply-size a, f.0), f.1, omega arith)
deep-head (binary_group Commutator a b) m f = (f.1, f.0, f.2, omega arith)
deep-head (binary_group Conjugate a b) m f = (f.0, omega (arith, deeply-size b, f.1), f.2, omega arith)

mutual
  unfolding deeply_node deeply_body deeply deep_refusal_node deep_refusal_body deep_refusal node_ok body_ok tree_ok FitsNode FitsBody FitsTree

  deeply_node-fits : (n : Node Leaf) (text : List ℕ) → node_ok text n ≡ true → deep_refusal_node n ≡ none → FitsNode n → FitsNode (deeply_node n)
  deeply_node-fits (leaf x) text h r f = leaf-records text x h r f
  deeply_node-fits (block b m) text h r f = (deep-head b m f.0, deeply_body-fits b text (and_right (multiplier_ok m) _ h) r f.1)

  deeply_body-fits : (b : Body Leaf) (text : List ℕ) → body_ok text b ≡ true → deep_refusal_body b ≡ none → FitsBody b → FitsBody (deeply_body b)
  deeply_body-fits (group k a) text h r f = deeply-fits a text h (unrefused-group k (deep_refusal a) r) f
  deeply_body-fits (binary_group Commutator a b) text h r f = (f.1, f.0)
  deeply_body-fits (binary_group Conjugate a b) text h r f = (f.0, deeply-fits b text (and_right (tree_ok text a) _ h) r f.1)

  pub deeply-fits : (t : Tree) (text : List ℕ) → tree_ok text t ≡ true → deep_refusal t ≡ none → FitsTree t → FitsTree (deeply t)
  deeply-fits nil text h r f = tt
  deeply-fits (cons n l) text h r f =
      last_fits (deeply l) (deeply_node n) (deeply-fits l text (and_right (node_ok text n) _ h) (first-left _ _ r) f.1)
      (deeply_node-fits n text (and_left _ _ h) (first-right (deep_refusal l) _ r) f.0)

-- The setting's range, which is one of unspanned trees.
pub undo-in-range : (f : Features) (x : Step) → negatable x ≡ true → step_in_range f x ≡ true → step_in_range f (undo x) ≡ true
unfolding step_in_range
undo-in-range f (rotation a c m) n h = rw (multiplier-neg m) h
undo-in-range f (move t l a c m) n h = rw (multiplier-neg m) h
undo-in-range f pause n h = refl
undo-in-range f (pair u d) n h = and_both f.sq1 _ (and_left _ _ h) (pair_fits u d n (and_right f.sq1 _ h))
undo-in-range f slash n h = h
undo-in-range f (megaminx k) n h = h

-- a leaf of a tree over a text
pub undone-in-range : (f : Features) (text : List ℕ) (x : Leaf) → negatable x ≡ true → step_in_range f (step_of text x) ≡ true →
    step_in_range f (step_of text (undo x)) ≡ true
undone-in-range f text x n h = ap (step_in_range f) (sym (step-undo text x)) ∙ undo-in-range f (step_of text x) (step-negatable text x ∙ n) h

pub range-append : (f : Features) (text : List ℕ) (a b : Tree) → in_range f (unspanned text a) ≡ true → in_range f (unspanned text b) ≡ true →
    in_range f (unspanned text (append a b)) ≡ true
unfolding append in_range map_nodes
range-append f text nil b p q = q
range-append f text (cons n a) b p q =
    and_both (node_in_range f (map_node (step_of text) n)) _ (and_left _ _ p)
    (range-append f text a b (and_right (node_in_range f (map_node (step_of text) n)) _ p) q)

pub inverted-in-range : (f : Features) (text : List ℕ) (t : Tree) → inv_refusal t ≡ none → in_range f (unspanned text t) ≡ true →
    in_range f (unspanned text (inverted t)) ≡ true
unfolding inverted inv_refusal in_range node_in_range map_nodes map_node
inverted-in-range f text nil r h = refl
inverted-in-range f text (cons (leaf x) l) r h =
    range-append f text (inverted l) (cons (leaf (undo x)) nil)
    (inverted-in-range f text l (first-left _ _ r) (and_right (step_in_range f (step_of text x)) _ h))
    (and_both (step_in_range f (step_of text (undo x))) true
    (undone-in-range f text x (unrefused x (first-right (inv_refusal l) _ r)) (and_left _ _ h)) refl)
inverted-in-range f text (cons (block b m) l) r h =
    range-append f text (inverted l) (cons (block b (neg_ℤ m)) nil)
    (inverted-in-range f text l (first-left _ _ r) (and_right (node_in_range f (map_node (step_of text) (block b m))) _ h))
    (and_both (node_in_range f (map_node (step_of text) (block b (neg_ℤ m)))) true (rw (multiplier-neg m) (and_left _ _ h)) refl)

mutual
  unfolding deeply_node deeply_body deeply deep_refusal_node deep_refusal_body deep_refusal node_in_range body_in_range in_range map_node map_body map_nodes

  deeply_node-in-range : (n : Node Leaf) (f : Features) (text : List ℕ) → deep_refusal_node n ≡ none →
      node_in_range f (map_node (step_of text) n) ≡ true → node_in_range f (map_node (step_of text) (deeply_node n)) ≡ true
  deeply_node-in-range (leaf x) f text r h = undone-in-range f text x (unrefused x r) h
  deeply_node-in-range (block b m) f text r h =
      and_both (multiplier_ok m) _ (and_left _ _ h) (deeply_body-in-range b f text r (and_right (multiplier_ok m) _ h))

  deeply_body-in-range : (b : Body Leaf) (f : Features) (text : List ℕ) → deep_refusal_body b ≡ none →
      body_in_range f (map_body (step_of text) b) ≡ true → body_in_range f (map_body (step_of text) (deeply_body b)) ≡ true
  deeply_body-in-range (group k a) f text r h = deeply-in-range a f text (unrefused-group k (deep_refusal a) r) h
  deeply_body-in-range (binary_group Commutator a b) f text r h =
      and_both (in_range f (unspanned text b)) _ (and_right (in_range f (unspanned text a)) _ h) (and_left _ _ h)
  deeply_body-in-range (binary_group Conjugate a b) f text r h =
      and_both (in_range f (unspanned text a)) _ (and_left _ _ h) (deeply-in-range b f text r (and_right (in_range f (unspanned text a)) _ h))

  pub deeply-in-range : (t : Tree) (f : Features) (text : List ℕ) → deep_refusal t ≡ none → in_range f (unspanned text t) ≡ true →
      in_range f (unspanned text (deeply t)) ≡ true
  deeply-in-range nil f text r h = refl
  deeply-in-range (cons n l) f text r h =
      range-append f text (deeply l) (cons (deeply_node n) nil)
      (deeply-in-range l f text (first-left _ _ r) (and_right (node_in_range f (map_node (step_of text) n)) _ h))
      (and_both (node_in_range f (map_node (step_of text) (deeply_node n))) true
      (deeply_node-in-range n f text (first-right (deep_refusal l) _ r) (and_left _ _ h)) refl)

-- Steps that can be undone: of numbers that fit, none becomes −2147483648.
pub undo-negatable : (x : Leaf) → leaf_fits x ≡ true → negatable (undo x) ≡ true
unfolding leaf_fits
undo-negatable (rotation f c m) h = refl
undo-negatable (move t l f c m) h = refl
undo-negatable pause h = refl
undo-negatable (pair u d) h = rw (neg-not-min u (and_left _ _ h), neg-not-min d (and_right (fits_bits 32 u) _ h))
undo-negatable slash h = refl
undo-negatable (megaminx k) h = refl

pub clean-append : (a b : Tree) → clean a ≡ true → clean b ≡ true → clean (append a b) ≡ true
unfolding append clean_nodes
clean-append nil b p q = q
clean-append (cons n a) b p q =
    and_both (clean_node negatable n) _ (and_left _ _ p) (clean-append a b (and_right (clean_node negatable n) _ p) q)

pub inverted-clean : (t : Tree) → clean t ≡ true → tree_fits t ≡ true → clean (inverted t) ≡ true
unfolding inverted clean_nodes clean_node tree_fits node_fits
inverted-clean nil c h = refl
inverted-clean (cons (leaf x) l) c h =
    clean-append (inverted l) (cons (leaf (undo x)) nil) (inverted-clean l (and_right (negatable x) _ c) (and_right (leaf_fits x) _ h))
    (and_both (negatable (undo x)) true (undo-negatable x (and_left _ _ h)) refl)
inverted-clean (cons (block b m) l) c h =
    clean-append (inverted l) (cons (block b (neg_ℤ m)) nil)
    (inverted-clean l (and_right (clean_node negatable (block b m)) _ c) (and_right (body_fits b) _ h))
    (and_both (clean_node negatable (block b (neg_ℤ m))) true (rw (nat_abs-neg m) (and_left _ _ c)) refl)

-- what is reached, if anything, keeps to the second test where it keeps to the first
reached-implies : (n : ℕ) (b c : Bool) → (b ≡ true → c ≡ true) → all_if_reached n b ≡ true → all_if_reached n c ≡ true
reached-implies zero b c i h = refl
reached-implies (suc n) b c i h = i h

mutual
  unfolding deeply_node deeply_body deeply clean_node clean_body clean_nodes node_fits body_fits tree_fits

  deeply_node-clean : (n : Node Leaf) → clean_node negatable n ≡ true → node_fits n ≡ true → clean_node negatable (deeply_node n) ≡ true
  deeply_node-clean (leaf x) c h = undo-negatable x h
  deeply_node-clean (block b m) c h =
      and_both (not (is_niss (deeply_body b))) _ (ap not (niss-deeply b) ∙ and_left _ _ c)
      (reached-implies (nat_abs m) (clean_body negatable b) (clean_body negatable (deeply_body b)) (λ d. deeply_body-clean b d h) (and_right (not (is_niss b)) _ c))

  deeply_body-clean : (b : Body Leaf) → clean_body negatable b ≡ true → body_fits b ≡ true → clean_body negatable (deeply_body b) ≡ true
  deeply_body-clean (group k a) c h = deeply-clean a c h
  deeply_body-clean (binary_group Commutator a b) c h = and_both (clean b) _ (and_right (clean a) _ c) (and_left _ _ c)
  deeply_body-clean (binary_group Conjugate a b) c h =
      and_both (clean a) _ (and_left _ _ c) (deeply-clean b (and_right (clean a) _ c) (and_right (tree_fits a) _ h))

  pub deeply-clean : (t : Tree) → clean t ≡ true → tree_fits t ≡ true → clean (deeply t) ≡ true
  deeply-clean nil c h = refl
  deeply-clean (cons n l) c h =
      clean-append (deeply l) (cons (deeply_node n) nil) (deeply-clean l (and_right (clean_node negatable n) _ c) (and_right (node_fits n) _ h))
      (and_both (clean_node negatable (deeply_node n)) true (deeply_node-clean n (and_left _ _ c) (and_left _ _ h)) refl)

-- What the deep inverse did not refuse it does not refuse again: an undone number is never −2147483648, and what is not entered once is not
-- entered again.
leaf-unrefused : (x : Leaf) → negatable x ≡ true → leaf_refusal x ≡ none
leaf-unrefused x n = rw (not-true (overflows x) n)

unrefused-append : (a b : Tree) → deep_refusal a ≡ none → deep_refusal b ≡ none → deep_refusal (append a b) ≡ none
unfolding append deep_refusal
unrefused-append nil b p q = q
unrefused-append (cons n a) b p q =
    first-both (deep_refusal (append a b)) _ (unrefused-append a b (first-left _ _ p) q) (first-right (deep_refusal a) _ p)

group-unrefused : (k : GroupKind) (q q' : Option ℕ) → (q ≡ none → q' ≡ none) → niss_first k q ≡ none → niss_first k q' ≡ none
group-unrefused Niss q q' i r = no-some r
group-unrefused Simple q q' i r = i r
group-unrefused Macro q q' i r = i r
group-unrefused Simultaneous q q' i r = i r

mutual
  unfolding deeply_node deeply_body deeply deep_refusal_node deep_refusal_body deep_refusal node_fits body_fits tree_fits

  deeply_node-unrefused : (n : Node Leaf) → deep_refusal_node n ≡ none → node_fits n ≡ true → deep_refusal_node (deeply_node n) ≡ none
  deeply_node-unrefused (leaf x) r h = leaf-unrefused (undo x) (undo-negatable x h)
  deeply_node-unrefused (block b m) r h = deeply_body-unrefused b r h

  deeply_body-unrefused : (b : Body Leaf) → deep_refusal_body b ≡ none → body_fits b ≡ true → deep_refusal_body (deeply_body b) ≡ none
  deeply_body-unrefused (group k a) r h = group-unrefused k (deep_refusal a) (deep_refusal (deeply a)) (λ q. deeply-unrefused a q h) r
  deeply_body-unrefused (binary_group Commutator a b) r h = refl
  deeply_body-unrefused (binary_group Conjugate a b) r h = deeply-unrefused b r (and_right (tree_fits a) _ h)

  pub deeply-unrefused : (t : Tree) → deep_refusal t ≡ none → tree_fits t ≡ true → deep_refusal (deeply t) ≡ none
  deeply-unrefused nil r h = refl
  deeply-unrefused (cons n l) r h =
      unrefused-append (deeply l) (cons (deeply_node n) nil) (deeply-unrefused l (first-left _ _ r) (and_right (node_fits n) _ h))
      (deeply_node-unrefused n (first-right (deep_refusal l) _ r) (and_left _ _ h))
