-- Every step that a well-formed tree unrolls to, where it is not refused, is a well-formed record by itself and prints as its step. Assumes nothing.
use Prim.Native.Nat.{ℕ, zero, suc, ◌<◌}
use mathlib.Core.Path.{◌≡◌, refl, sym, ap, ◌∙◌, subst}
use mathlib.Core.Bool.{Bool, true, false}
use mathlib.Core.List.{List, append-nil}
use mathlib.Core.Option.{Option, none, some}
use lib.IntN.{nat_abs}
use lib.ListN.{length, get_elem?}
use Rattle.notation.specs.Basics.{pick}
use Rattle.notation.specs.Refusals.{NISS, OVERFLOW}
use Rattle.notation.specs.Tree.{Leaf, Node, leaf, block, Body, group, binary_group, nil, cons, Tree, map_node, map_nodes}
use Rattle.notation.specs.Packed.{leaf_record, pack_node, pack, unpack}
use Rattle.notation.specs.Meaning.{step_of, unspanned}
use Rattle.notation.specs.WellFormed.{multiplier_ok, leaf_ok, node_ok, body_ok, tree_ok}
use Rattle.notation.specs.Invert.{undo, overflows}
use Rattle.notation.specs.Unroll.{copies, turned, is_niss}
use Rattle.notation.specs.Print.{put_step, put_node, put_nodes, put_others}
use Rattle.notation.specs.declared.common.BinaryGroupKind.{BinaryGroupKind}
use Rattle.notation.specs.declared.common.BinaryGroupKind.TheVariants.{Commutator, Conjugate}
use Rattle.record.specs.Range.{FitsLeaf}
use Rattle.laws.proofs.Bools.{and_left, and_right, and_both, no-some}
use Rattle.laws.proofs.ListEntries.{get-within}
use Rattle.laws.specs.All.{All, empty, one}
use Rattle.laws.proofs.All.{all_append, all-copies, all-at}
use Rattle.laws.specs.Packed.{FitsNode, FitsBody, FitsTree, Packed}
use Rattle.laws.proofs.Packing.{unpack-pack}
use Rattle.laws.proofs.Walking.{packed}
use Rattle.laws.proofs.WellFormedInverses.{undo-ok, undone-fits}
use Rattle.laws.specs.Unrolled.{if_reached, first_in_order, in_order, flat_binary, refusal_binary, flat_node, flat_body, flat, refusal_node, refusal_body, first_refusal}
use Rattle.laws.proofs.Reached.{first-left, first-right}

-- a step that is well formed over a text and fits its record
pub record Good (text : List ℕ) (x : Leaf) : Type 0 where
  pub ok : leaf_ok text x ≡ true
  pub fits : FitsLeaf x

-- What holds throughout the lists of a tree that is not refused holds throughout what they unroll to together.
module _ {L : Type 0} {P : L → Type 0} where
  all-reached : (n : ℕ) (q : Option ℕ) {l : List L} → if_reached n q ≡ none → (q ≡ none → All P l) → All P (copies n l)
  unfolding copies
  all-reached zero q r h = empty
  all-reached (suc n) q r h = all-copies (suc n) (h r)

  -- of a group that is not refused, `niss` being whether it is a NISS group
  all-played : (niss : Bool) (n : ℕ) (q : Option ℕ) {l : List L} → pick niss (some NISS) (if_reached n q) ≡ none → (q ≡ none → All P l) → All P (copies (pick niss 0 n) l)
  all-played true n q r h = no-some r
  all-played false n q r h = all-reached n q r h

  all-order : (d : Bool) (r q : Option ℕ) {a b : List L} → first_in_order d r q ≡ none → (r ≡ none → All P a) → (q ≡ none → All P b) → All P (in_order d a b)
  all-order false r q e f g = all_append (f (first-left r q e)) (g (first-right r q e))
  all-order true r q e f g = all_append (g (first-left q r e)) (f (first-right q r e))

  all-commutator : (r q : Bool → Option ℕ) (a b : Bool → List L) → refusal_binary Commutator false r q ≡ none →
      ((e : Bool) → r e ≡ none → All P (a e)) → ((e : Bool) → q e ≡ none → All P (b e)) → All P (flat_binary Commutator false a b)
  all-commutator r q a b e f g =
      let e₁ = first-right (r false) _ e in
      let e₂ = first-right (q false) _ e₁ in
      all_append (f false (first-left (r false) _ e)) (all_append (g false (first-left (q false) _ e₁))
      (all_append (f true (first-left (r true) _ e₂)) (g true (first-right (r true) _ e₂))))

  all-binary : (k : BinaryGroupKind) (d : Bool) (r q : Bool → Option ℕ) (a b : Bool → List L) → refusal_binary k d r q ≡ none →
      ((e : Bool) → r e ≡ none → All P (a e)) → ((e : Bool) → q e ≡ none → All P (b e)) → All P (flat_binary k d a b)
  all-binary Commutator false r q a b e f g = all-commutator r q a b e f g
  all-binary Commutator true r q a b e f g = all-commutator q r b a e g f
  all-binary Conjugate d r q a b e f g =
      let e₁ = first-right (r false) _ e in
      all_append (f false (first-left (r false) _ e)) (all_append (g d (first-left (q d) _ e₁)) (f true (first-right (q d) _ e₁)))

-- A step as it is played, and every step of a tree that is not refused.
module _ (text : List ℕ) where
  pub undone-good : (x : Leaf) → overflows x ≡ false → Good text x → Good text (undo x)
  undone-good x o g = record { ok = undo-ok text x ∙ g.ok; fits = undone-fits text x g.ok o g.fits }

  leaf-good : (x : Leaf) (d : Bool) → Good text x → refusal_node d (leaf x) ≡ none → Good text (pick d (undo x) x)
  unfolding refusal_node
  leaf-good x false g r = g
  leaf-good x true g r = undone-good x (go (overflows x) r) g
    where
      go : (b : Bool) → pick b (some OVERFLOW) none ≡ none → b ≡ false
      go true h = no-some h
      go false h = refl

  mutual
    unfolding flat_node flat_body flat refusal_node refusal_body first_refusal node_ok body_ok tree_ok FitsNode FitsBody FitsTree

    pub node-good : (n : Node Leaf) (d : Bool) → node_ok text n ≡ true → FitsNode n → refusal_node d n ≡ none → All (Good text) (flat_node undo d n)
    node-good (leaf x) d h f r = one (leaf-good x d (record { ok = h; fits = f }) r) empty
    node-good (block b m) d h f r =
        all-played (is_niss b) (nat_abs m) (refusal_body (turned m d) b) r
        (λ q. body-good b (turned m d) (and_right (multiplier_ok m) _ h) f.1 q)

    pub body-good : (b : Body Leaf) (d : Bool) → body_ok text b ≡ true → FitsBody b → refusal_body d b ≡ none → All (Good text) (flat_body undo d b)
    body-good (group k a) d h f r = tree-good a d h f r
    body-good (binary_group k a b) d h f r =
        all-binary k d (λ e. first_refusal e a) (λ e. first_refusal e b) (λ e. flat undo e a) (λ e. flat undo e b) r
        (λ e q. tree-good a e (and_left _ _ h) f.0 q) (λ e q. tree-good b e (and_right (tree_ok text a) _ h) f.1 q)

    pub tree-good : (t : Tree) (d : Bool) → tree_ok text t ≡ true → FitsTree t → first_refusal d t ≡ none → All (Good text) (flat undo d t)
    tree-good nil d h f r = empty
    tree-good (cons n l) d h f r =
        all-order d (refusal_node d n) (first_refusal d l) r
        (λ q. node-good n d (and_left _ _ h) f.0 q) (λ q. tree-good l d (and_right (node_ok text n) _ h) f.1 q)

-- The step at a place.
pub record There (text : List ℕ) (l : List Leaf) (k : ℕ) : Type 0 where
  pub step : Leaf
  pub is : get_elem? l k ≡ some step
  pub good : Good text step

pub at_place : {text : List ℕ} {l : List Leaf} (k : ℕ) → All (Good text) l → k < length l → There text l k
at_place {text} {l} k p h = let g = get-within l k h in record { step = g.0; is = g.1; good = all-at k p g.1 }

-- Its record as a tree of one leaf.
pub record Shown (text : List ℕ) (x : Leaf) (bs : List ℕ) : Type 0 where
  pub packed_step : Packed bs
  pub ok : tree_ok text (unpack bs) ≡ true
  pub prints : (rest : List ℕ) → put_nodes (unspanned text (unpack bs)) rest ≡ put_step (step_of text x) rest

pub alone : (x : Leaf) → pack (cons (leaf x) nil) ≡ leaf_record x
unfolding pack pack_node
alone x = append-nil (leaf_record x)

pub shown : (text : List ℕ) (x : Leaf) → Good text x → Shown text x (leaf_record x)
unfolding FitsTree FitsNode tree_ok node_ok put_node put_nodes put_others map_node map_nodes
shown text x g =
    let unpacks : unpack (leaf_record x) ≡ cons (leaf x) nil = ap unpack (sym (alone x)) ∙ unpack-pack (cons (leaf x) nil) (g.fits, tt) in
    record {
      packed_step = subst Packed (alone x) (packed (cons (leaf x) nil) (g.fits, tt));
      ok = ap (tree_ok text) unpacks ∙ and_both (leaf_ok text x) true g.ok refl;
      prints = λ rest. ap (λ (t : Tree). put_nodes (unspanned text t) rest) unpacks;
    }
