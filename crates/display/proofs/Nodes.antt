-- What a node and a list of nodes print, by their bytes. Assumes nothing.
use Prim.Native.Nat.{ℕ, ◌/◌, ◌≤◌, ◌<◌}
use mathlib.Core.Path.{◌≡◌, sym, ap, ◌∙◌, subst}
use mathlib.Core.Bool.{true, ◌&&◌}
use mathlib.Core.List.{List, ◌∷◌}
use native.Mathlib.Omega.{arith}
use lib.Dec.{lit≤}
use lib.IntN.{ℤ}
use lib.ListN.{length}
use Rattle.notation.specs.Numbers.{from_bits}
use Rattle.notation.specs.Tree.{Leaf, Step as LeafStep, Node, leaf, block, group, binary_group, NodeList, Tree, map_node, map_body, map_nodes}
use Rattle.notation.specs.Packed.{RECORD, leaf_head, group_number, binary_number, unpack}
use Rattle.notation.specs.Meaning.{step_of, unspanned}
use Rattle.notation.specs.WellFormed.{multiplier_ok, node_ok, body_ok, tree_ok}
use Rattle.notation.specs.Print.{put_multiplier, put_step, put_prefix, put_separator, put_node, put_body, put_nodes, put_others}
use Rattle.notation.specs.declared.common.GroupKind.{GroupKind}
use Rattle.notation.specs.declared.common.BinaryGroupKind.{BinaryGroupKind}
use Rattle.record.specs.Meaning.{field, kind_at, NUMBER}
use Rattle.laws.proofs.Bools.{and_left, and_right}
use Rattle.laws.specs.Packed.{Packed}
use Rattle.laws.proofs.Walking.{no_node, one_list}
use Rattle.nodes.specs.Nodes.{IsNode, part, FirstNode, Lists}
use Rattle.record.proofs.Numbered.{kind_of}
use Rattle.nodes.proofs.Nodes.{
  part-rest,
  part_length,
  rest-less,
  first_of,
  alone,
  kind-of,
  leaf-kind,
  group-kind,
  binary-kind,
  multiplier-of,
  front-field,
  FirstLeaf,
  leaf-node,
  leaf-head,
}
use Rattle.display.specs.Written.{Wrote}
use Rattle.display.specs.declared.write.Printer.{Printer}
use Rattle.display.specs.Nodes.{GoodNode, GoodLeaf}
use Rattle.display.proofs.Writing.{wrote_none, wrote_as, wrote_then}

-- A group prints its list inside.
pub record OneInside (text bs : List ℕ) (k : GroupKind) (m : ℤ) : Type 0 where
  pub packed_list : Packed (part RECORD (length bs) bs)
  pub ok : tree_ok text (unpack (part RECORD (length bs) bs)) ≡ true
  pub prints : (rest : List ℕ) →
      put_prefix k (40 ∷ put_nodes (unspanned text (unpack (part RECORD (length bs) bs))) (41 ∷ put_multiplier m rest))
      ≡ put_nodes (unspanned text (unpack bs)) rest

one_inside : {text bs : List ℕ} (k : GroupKind) (a : Tree) (m : ℤ) → IsNode bs (block (group k a) m) → node_ok text (block (group k a) m) ≡ true → OneInside text bs k m
unfolding node_ok body_ok put_node put_body put_nodes put_others map_node map_body map_nodes
one_inside {text} {bs} k a m s good =
    let o = one_list bs k a m s.fits s.bytes in
    let list : unpack (part RECORD (length bs) bs) ≡ a = ap unpack (part-rest RECORD bs) ∙ o.unpacks_list in
    record {
      packed_list = subst Packed (sym (part-rest RECORD bs)) o.packed_list;
      ok = rw list (and_right (multiplier_ok m) (tree_ok text a) good);
      prints = λ rest. rw (list, alone s);
    }

pub record TwoInside (text bs : List ℕ) (k : BinaryGroupKind) (middle : ℕ) (m : ℤ) : Type 0 where
  pub ok_first : tree_ok text (unpack (part RECORD middle bs)) ≡ true
  pub ok_second : tree_ok text (unpack (part middle (length bs) bs)) ≡ true
  pub prints : (rest : List ℕ) →
      91 ∷ put_nodes (unspanned text (unpack (part RECORD middle bs)))
      (put_separator k (put_nodes (unspanned text (unpack (part middle (length bs) bs))) (93 ∷ put_multiplier m rest)))
      ≡ put_nodes (unspanned text (unpack bs)) rest

two-inside : {text bs : List ℕ} {middle : ℕ} (k : BinaryGroupKind) (a b : Tree) (m : ℤ) → Lists bs middle → IsNode bs (block (binary_group k a b) m) →
    node_ok text (block (binary_group k a b) m) ≡ true → TwoInside text bs k middle m
unfolding node_ok body_ok put_node put_body put_nodes put_others map_node map_body map_nodes
two-inside {text} k a b m l s good =
    let first = l.unpacks_first (block (binary_group k a b) m) s in
    let second = l.unpacks_second (block (binary_group k a b) m) s in
    let both : (tree_ok text a && tree_ok text b) ≡ true = and_right (multiplier_ok m) (tree_ok text a && tree_ok text b) good in
    record {
      ok_first = rw first (and_left (tree_ok text a) (tree_ok text b) both);
      ok_second = rw second (and_right (tree_ok text a) (tree_ok text b) both);
      prints = λ rest. rw (first, second, alone s);
    }

-- A group by the kind and the multiplier's bits in its record.
pub record OneGroup (text bs : List ℕ) (kind m : ℕ) : Type 0 where
  pub group : GroupKind
  pub number : kind ≡ group_number group
  pub inside : OneInside text bs group (from_bits 32 m)

pub record TwoGroup (text bs : List ℕ) (kind m middle : ℕ) : Type 0 where
  pub group : BinaryGroupKind
  pub number : kind ≡ binary_number group
  pub inside : TwoInside text bs group middle (from_bits 32 m)

module _ {text bs : List ℕ} (g : GoodNode text bs) {kind m : ℕ} (e : kind ≡ kind_at bs) (i : m ≡ field NUMBER bs) where
  pub one-group : kind < 4 → OneGroup text bs kind m
  one-group h = go g.node g.is_node g.ok
    where
      go : (n : Node Leaf) → IsNode bs n → node_ok text n ≡ true → OneGroup text bs kind m
      go (leaf x) s ok = absurd (omega (arith, kind-of s, (leaf-kind x).0))
      go (block (group k a) z) s ok =
          record { group = k; number = e ∙ kind-of s; inside = rw i (subst (OneInside text bs k) (multiplier-of (group k a) s) (one_inside k a z s ok)) }
      go (block (binary_group k a b) z) s ok = absurd (omega (arith, kind-of s, (binary-kind k).0))

  pub two-group : {middle : ℕ} → Lists bs middle → 4 ≤ kind → kind_at bs ≤ 5 → TwoGroup text bs kind m middle
  two-group {middle} l h h' = go g.node g.is_node g.ok
    where
      go : (n : Node Leaf) → IsNode bs n → node_ok text n ≡ true → TwoGroup text bs kind m middle
      go (leaf x) s ok = absurd (omega (arith, kind-of s, (leaf-kind x).0))
      go (block (group k a) z) s ok = absurd (omega (arith, kind-of s, group-kind k))
      go (block (binary_group k a b) z) s ok =
          record { group = k; number = e ∙ kind-of s; inside = rw i (subst (TwoInside text bs k middle) (multiplier-of (binary_group k a b) s) (two-inside k a b z l s ok)) }

-- A list: its first node and those after it.
module _ (text : List ℕ) {bs : List ℕ} {e : ℕ} (f : FirstNode bs e) (h : tree_ok text (unpack bs) ≡ true) where
  first-and-rest-ok : (node_ok text f.node && tree_ok text (unpack (part e (length bs) bs))) ≡ true
  unfolding tree_ok
  first-and-rest-ok = rw f.unpacks at h

  first-ok : node_ok text f.node ≡ true
  first-ok = and_left (node_ok text f.node) (tree_ok text (unpack (part e (length bs) bs))) first-and-rest-ok

  pub first_good : GoodNode text (part 0 e bs)
  first_good = record { node = f.node; is_node = f.is_node; ok = first-ok }

  pub rest_ok : tree_ok text (unpack (part e (length bs) bs)) ≡ true
  rest_ok = and_right (node_ok text f.node) (tree_ok text (unpack (part e (length bs) bs))) first-and-rest-ok

-- a leaf in front
pub leaf-good : (text : List ℕ) {bs : List ℕ} (l : FirstLeaf bs) → tree_ok text (unpack bs) ≡ true → GoodLeaf text bs
unfolding node_ok
leaf-good text {bs} l ok =
    let k : kind_at bs ≡ kind_of (leaf_head l.step) = ap (λ (b : ℕ). b / 16) (sym (front-field bs RECORD (lit≤ tt) 0)) ∙ kind-of (leaf-node l) in
    record {
      leaf = l.step;
      room = l.first.most;
      head = leaf-head l;
      low = omega (arith, (leaf-kind l.step).0);
      high = omega (arith, (leaf-kind l.step).1);
      ok = subst (λ (n : Node Leaf). node_ok text n ≡ true) l.is_step (first-ok text l.first ok);
    }

-- What is printed of a list: its first node, and the others.
first-prints : (text : List ℕ) {bs : List ℕ} {e : ℕ} (f : FirstNode bs e) (rest : List ℕ) →
    put_node (map_node (step_of text) f.node) (put_others (unspanned text (unpack (part e (length bs) bs))) rest) ≡ put_nodes (unspanned text (unpack bs)) rest
unfolding put_nodes map_nodes
first-prints text f rest = rw f.unpacks

leaf-prints : (text : List ℕ) {bs : List ℕ} (l : FirstLeaf bs) (rest : List ℕ) → put_step (step_of text l.step) rest ≡ put_node (map_node (step_of text) l.first.node) rest
unfolding put_node map_node
leaf-prints text l rest = rw l.is_step

node-prints : (text : List ℕ) {bs : List ℕ} {n : Node Leaf} → IsNode bs n →
    (rest : List ℕ) → put_nodes (unspanned text (unpack bs)) rest ≡ put_node (map_node (step_of text) n) rest
unfolding put_nodes put_others map_nodes
node-prints text s rest = rw (alone s)

others-print : (text bs : List ℕ) → Packed bs → 0 < length bs → (rest : List ℕ) →
    32 ∷ put_nodes (unspanned text (unpack bs)) rest ≡ put_others (unspanned text (unpack bs)) rest
unfolding put_nodes put_others map_nodes
others-print text bs p h rest = rw (first_of bs p h).unpacks

none-print : (text bs : List ℕ) → Packed bs → length bs ≡ 0 → (rest : List ℕ) → rest ≡ put_nodes (unspanned text (unpack bs)) rest
unfolding put_nodes map_nodes
none-print text bs p h rest = rw (no_node bs p h)

no-others-print : (text bs : List ℕ) → Packed bs → length bs ≡ 0 → (rest : List ℕ) →
    put_nodes (unspanned text (unpack bs)) rest ≡ put_others (unspanned text (unpack bs)) rest
unfolding put_nodes put_others map_nodes
no-others-print text bs p h rest = rw (no_node bs p h)

-- The loop over a list: what is left of it, and what printing that completes. It is left as a list at the head of a turn, and as the
-- others of a list after a node.
pub record Listing (printer : NodeList LeafStep → List ℕ → List ℕ) (text tree t : List ℕ) (old mid : Printer) : Type 0 where
  pub packed_left : Packed t
  pub ok : tree_ok text (unpack t) ≡ true
  pub shorter : length t ≤ length tree
  pub onward : (new : Printer) → Wrote mid new (printer (unspanned text (unpack t))) → Wrote old new (put_nodes (unspanned text (unpack tree)))

module _ {text tree t : List ℕ} {old mid : Printer} (w : Listing put_nodes text tree t old mid) where
  node-listed : {mid' : Printer} {e : ℕ} (f : FirstNode t e) → Wrote mid mid' (put_node (map_node (step_of text) f.node)) →
      Listing put_others text tree (part e (length t) t) old mid' × (length (part e (length t) t) < length t)
  node-listed {e = e} f v = (
    record {
      packed_left = f.packed_rest;
      ok = rest_ok text f w.ok;
      shorter = omega (arith, part_length e (length t) t, w.shorter);
      onward = λ new u. w.onward new (wrote_as (put_nodes (unspanned text (unpack t))) (first-prints text f) (wrote_then v u));
    },
    rest-less t e f.least f.most,
  )

  pub leaf-listed : {mid' : Printer} (l : FirstLeaf t) → Wrote mid mid' (put_step (step_of text l.step)) →
      Listing put_others text tree (part RECORD (length t) t) old mid' × (length (part RECORD (length t) t) < length t)
  leaf-listed l v = node-listed l.first (wrote_as (put_node (map_node (step_of text) l.first.node)) (leaf-prints text l) v)

  pub group-listed : {mid' : Printer} {e : ℕ} → FirstNode t e → Wrote mid mid' (put_nodes (unspanned text (unpack (part 0 e t)))) →
      Listing put_others text tree (part e (length t) t) old mid' × (length (part e (length t) t) < length t)
  group-listed f v = node-listed f (wrote_as (put_node (map_node (step_of text) f.node)) (node-prints text f.is_node) v)

  pub listing-all : length t ≡ 0 → Wrote old mid (put_nodes (unspanned text (unpack tree)))
  listing-all h =
      w.onward mid (wrote_as (put_nodes (unspanned text (unpack t))) (none-print text t w.packed_left h) (wrote_none mid))

-- a space before the others, if there are any
module _ {text tree t : List ℕ} {old mid : Printer} (w : Listing put_others text tree t old mid) where
  pub listing-spaced : {mid' : Printer} → 0 < length t → Wrote mid mid' (λ rest. 32 ∷ rest) → Listing put_nodes text tree t old mid'
  listing-spaced h s =
      record {
        packed_left = w.packed_left;
        ok = w.ok;
        shorter = w.shorter;
        onward = λ new u. w.onward new (wrote_as (put_others (unspanned text (unpack t))) (others-print text t w.packed_left h) (wrote_then s u));
      }

  pub listing-ended : length t ≡ 0 → Listing put_nodes text tree t old mid
  listing-ended h =
      record {
        packed_left = w.packed_left;
        ok = w.ok;
        shorter = w.shorter;
        onward = λ new u. w.onward new (wrote_as (put_others (unspanned text (unpack t))) (no-others-print text t w.packed_left h) u);
      }
