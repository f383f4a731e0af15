-- Parting a packed list: two lists that joined are the whole lie one behind the other, and the loop that passes nodes up to the middle ends at the
-- place nearest to it. Assumes nothing.
use Prim.Native.Nat.{ℕ, ◌+◌, ◌-◌, ◌≤◌, ◌<◌}
use mathlib.Core.Path.{◌≡◌, refl, sym, ap, ap₂, ◌∙◌, subst}
use mathlib.Core.Logic.{◌⊎◌, inl, inr, ⊎_elim}
use mathlib.Core.List.{List, [], ◌++◌}
use native.Mathlib.Nat.{le_refl, le_trans}
use native.Mathlib.Omega.{arith}
use lib.ListN.{length, take, drop, length-append}
use lib.Seq.{take_at, drop_at}
use Rattle.notation.specs.Tree.{Leaf, Node, nil, cons, append, Tree}
use Rattle.notation.specs.Packed.{pack_node, pack, unpack}
use Rattle.laws.specs.Packed.{FitsTree, Packed}
use Rattle.laws.proofs.Packing.{unpack-pack, pack-append}
use Rattle.laws.proofs.Walking.{packed}
use Rattle.laws.proofs.Inverses.{append-assoc-nodes}
use Rattle.nodes.specs.Nodes.{IsNode, part, FirstNode}
use Rattle.nodes.specs.Parted.{distance, Parted, Middle}
use Rattle.nodes.proofs.Nodes.{part-rest, part-front, length_part}

fits-parts : (a b : Tree) → FitsTree (append a b) → FitsTree a × FitsTree b
unfolding append FitsTree
fits-parts nil b f = (tt, f)
fits-parts (cons n a) b f = let g = fits-parts a b f.1 in ((f.0, g.0), g.1)

-- two ways to part a list, one of them before the node n: the other is no later, or behind that node
no-later : (a b c l : Tree) (n : Node Leaf) → append a b ≡ append c (cons n l) →
    (length (pack a) ≤ length (pack c)) ⊎ (length (pack c) + length (pack_node n) ≤ length (pack a))
unfolding append pack
no-later nil b c l n e = inl (omega arith)
no-later (cons m a) b nil l n e =
    let q : m ≡ n = cc in
    inr (omega (arith, ap (λ (k : Node Leaf). length (pack_node k)) q, length-append (pack_node m) (pack a)))
no-later (cons m a) b (cons k c) l n e =
    let q : m ≡ k = cc in
    let e' : append a b ≡ append c (cons n l) = cc in
    let same = ap (λ (k : Node Leaf). length (pack_node k)) q in
    ⊎_elim
    (λ h. inl (omega (arith, same, length-append (pack_node m) (pack a), length-append (pack_node k) (pack c))))
    (λ h. inr (omega (arith, same, length-append (pack_node m) (pack a), length-append (pack_node k) (pack c))))
    (no-later a b c l n e')

-- the end of a node with no more before it than behind it is as near as its start; and of one with more before it no end is nearer
nearer : (at e n : ℕ) → at + (at + e) ≤ n → distance (at + e) n ≤ distance at n
nearer at e n h = omega arith

farther : (at e n x : ℕ) → n < at + (at + e) → at + e ≤ x → distance at n ≤ distance x n
farther at e n x h k = omega arith

module _ {list : List ℕ} (p : Packed list) where
  -- a list that two others joined are
  module _ (a b : Tree) (e : unpack list ≡ append a b) where
    joined : list ≡ pack a ++ pack b
    joined = sym p.whole ∙ ap pack e ∙ pack-append a b

    both-fit : FitsTree a × FitsTree b
    both-fit = fits-parts a b (subst FitsTree e p.fits)

    joined-long : length (pack a) + length (pack b) ≡ length list
    joined-long = sym (ap length joined ∙ length-append (pack a) (pack b))

    module _ {r : ℕ} (size : length (pack a) ≡ r) where
      front-is : part 0 r list ≡ pack a
      front-is = part-front r list ∙ ap (take r) joined ∙ take_at (pack a) (pack b) r size

      back_is : part r (length list) list ≡ pack b
      back_is = part-rest r list ∙ ap (drop r) joined ∙ drop_at (pack a) (pack b) r size

      parted-at : 0 < r → r < length list → ((c d : Tree) → unpack list ≡ append c d → distance r (length list) ≤ distance (length (pack c)) (length list)) → Parted list r
      parted-at some below nearest =
          record {
            some = some;
            below = below;
            packed_first = subst Packed (sym front-is) (packed a both-fit.0);
            packed_second = subst Packed (sym back_is) (packed b both-fit.1);
            unpacks = e ∙ sym (ap₂ append (ap unpack front-is ∙ unpack-pack a both-fit.0) (ap unpack back_is ∙ unpack-pack b both-fit.1));
            nearest = nearest;
          }

-- The loop: what is passed, followed by what is left, is the whole, and no place that is passed is nearer the middle.
pub record Parting (list t : List ℕ) (at : ℕ) : Type 0 where
  pub packed_rest : Packed t
  pub front : Tree
  pub unpacks : unpack list ≡ append front (unpack t)
  pub size : length (pack front) ≡ at
  pub nearest : (a b : Tree) → unpack list ≡ append a b → length (pack a) ≤ at → distance at (length list) ≤ distance (length (pack a)) (length list)
  pub single : length t ≤ 0 → 0 < length list → (n : Node Leaf) × IsNode list n

pub parting-starts : (list : List ℕ) → Packed list → Parting list list 0
unfolding append pack
parting-starts list p =
    record { packed_rest = p; front = nil; unpacks = refl; size = refl; nearest = λ a b e h. omega arith; single = λ h k. absurd (omega arith) }

module _ {list t : List ℕ} {at : ℕ} (p : Packed list) (w : Parting list t at) where
  pub parting-long : at + length t ≡ length list
  parting-long = omega (arith, w.size, ap length w.packed_rest.whole, joined-long p w.front (unpack t) w.unpacks)

  -- nothing is left
  pub parting-ends : length t ≤ 0 → Middle list at
  parting-ends h = record { most = omega (arith, parting-long); parted = λ k. absurd (omega (arith, parting-long)); single = λ k. w.single h }

  module _ {e : ℕ} (f : FirstNode t e) where
    node-long : length (pack_node f.node) ≡ e
    node-long = ap length f.is_node.bytes ∙ length_part 0 e t f.most ∙ omega arith

    either_side : (a b : Tree) → unpack list ≡ append a b → (length (pack a) ≤ at) ⊎ (at + e ≤ length (pack a))
    either_side a b q =
        ⊎_elim
        (λ h. inl (omega (arith, w.size)))
        (λ h. inr (omega (arith, w.size, node-long)))
        (no-later a b w.front (unpack (part e (length t) t)) f.node (sym q ∙ w.unpacks ∙ ap (append w.front) f.unpacks))

    -- a node with nothing before it and nothing behind it
    alone-is : at ≡ 0 → e ≡ length t → part 0 e t ≡ list
    alone-is z h =
        ap (λ (k : ℕ). part 0 k t) h ∙ part-rest 0 t ∙ sym (back_is p w.front (unpack t) w.unpacks w.size ∙ w.packed_rest.whole)
        ∙ ap (λ (k : ℕ). part k (length list) list) z ∙ part-rest 0 list

    -- a node is passed
    pub parting-goes-on : at ≤ length t - e → Parting list (part e (length t) t) (at + e)
    unfolding append pack
    parting-goes-on h =
        record {
          packed_rest = f.packed_rest;
          front = append w.front (cons f.node nil);
          unpacks = w.unpacks ∙ ap (append w.front) f.unpacks ∙ sym (append-assoc-nodes w.front (cons f.node nil) (unpack (part e (length t) t)));
          size = ap length (pack-append w.front (cons f.node nil)) ∙ length-append (pack w.front) (pack_node f.node ++ [])
              ∙ omega (arith, w.size, node-long, length-append (pack_node f.node) []);
          nearest = λ a b q k.
              ⊎_elim
              (λ l. le_trans (nearer at e (length list) (omega (arith, parting-long, f.most))) (w.nearest a b q l))
              (λ l. let same : length (pack a) ≡ at + e = omega arith in subst (λ (x : ℕ). distance (at + e) (length list) ≤ distance x (length list)) (sym same) (le_refl _))
              (either_side a b q);
          single = λ l k. (f.node, subst (λ (bs : List ℕ). IsNode bs f.node) (alone-is (omega (arith, length_part e (length t) t (omega arith))) (omega (arith, length_part e (length t) t (omega arith), f.most))) f.is_node);
        }

    -- a node is not passed
    pub parting-stops : length t - e < at → Middle list at
    parting-stops h =
        record {
          most = omega (arith, parting-long);
          parted = λ k.
              parted-at p w.front (unpack t) w.unpacks w.size (omega arith) k
              (λ a b q. ⊎_elim (λ l. w.nearest a b q l) (λ l. farther at e (length list) (length (pack a)) (omega (arith, parting-long, f.most)) l) (either_side a b q));
          single = λ k l. absurd (omega (arith, parting-long, f.least, f.most));
        }
