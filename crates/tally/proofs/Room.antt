-- No record of a tree that is nested 64 deep at most has a tally outside. Assumes nothing.
use Prim.Native.Nat.{ℕ, zero, suc, ◌+◌, ◌*◌, ◌<◌}
use mathlib.Core.Path.{◌≡◌}
use mathlib.Core.List.{List, [], ◌∷◌, ◌++◌}
use native.Mathlib.Omega.{arith}
use native.Mathlib.Nat.{zero-add, suc-add}
use lib.IntN.{ℤ}
use lib.ListN.{length, take, drop, length-drop}
use lib.Seq.{take_all, take-append-le, drop-append-le, drop-drop}
use Rattle.notation.specs.Tree.{Leaf, Node, leaf, block, Body, group, binary_group, nil, cons, Tree}
use Rattle.notation.specs.Packed.{RECORD, leaf_head, body_head, node_size, body_size, size}
use Rattle.notation.specs.WellFormed.{node_depth, body_depth, depth}
use Rattle.laws.specs.Packed.{FitsNode, FitsBody, FitsTree}
use Rattle.nodes.proofs.Nodes.{leaf-kind}
use Rattle.tally.specs.Tallies.{TALLIES, tally_record, tally_node, tally_body, tally_list, Open}
use Rattle.tally.proofs.Sizes.{length-tally_record, length-tally_node, length-tally_list}
use Rattle.tally.proofs.Records.{tally-is, kind-is}

abbrev pub AllOpen : ℕ → List ℕ → Type 0
AllOpen zero bs = Unit {0}
AllOpen (suc k) bs = Open (take RECORD bs) × AllOpen k (drop RECORD bs)

all_append : (j k : ℕ) (xs ys : List ℕ) → length xs ≡ RECORD * j → AllOpen j xs → AllOpen k ys → AllOpen (j + k) (xs ++ ys)
all_append zero k [] ys e a b = rw (zero-add k) b
all_append zero k (x ∷ xs) ys e a b = absurd (omega arith)
all_append (suc j) k xs ys e a b =
    rw (suc-add j k, take-append-le RECORD xs ys (omega arith), drop-append-le RECORD xs ys (omega arith))
    (a.0, all_append j k (drop RECORD xs) ys (omega (arith, length-drop RECORD xs)) a.1 b)

-- the record in front of k others, with i before it
pub open_at : (i k : ℕ) (bs : List ℕ) → AllOpen (i + suc k) bs → Open (take RECORD (drop (RECORD * i) bs))
open_at zero k bs a = (rw (zero-add (suc k)) at a).0
open_at (suc i) k bs a =
    let more : RECORD * suc i ≡ RECORD + RECORD * i = omega arith in
    rw (more, ← drop-drop) (open_at i k (drop RECORD bs) (rw (suc-add i (suc k)) at a).1)

module _ (h : ℕ) where
  leaf-open : (x : Leaf) → FitsNode (leaf x) → h < TALLIES → Open (tally_record h (leaf_head x))
  unfolding FitsNode
  leaf-open x f l =
      record {
        long = omega (arith, length-tally_record h (leaf_head x));
        list = omega (arith, tally-is h (leaf_head x) (omega arith) f);
        lists = λ k. absurd (omega (arith, kind-is h (leaf_head x) (omega arith) f, (leaf-kind x).0));
      }

  block-open : (b : Body Leaf) (m : ℤ) → FitsNode (block b m) → h + 2 < TALLIES → Open (tally_record h (body_head b m))
  unfolding FitsNode
  block-open b m f l =
      record {
        long = omega (arith, length-tally_record h (body_head b m));
        list = omega (arith, tally-is h (body_head b m) (omega arith) f.0);
        lists = λ k. omega (arith, tally-is h (body_head b m) (omega arith) f.0);
      }

alone : (r : List ℕ) → length r ≡ RECORD → Open r → AllOpen 1 r
alone r e o = (rw (take_all RECORD r (omega arith)) o, tt)

mutual
  unfolding node_size body_size size tally_node tally_body tally_list FitsNode FitsBody FitsTree node_depth body_depth depth

  pub list_open : (t : Tree) (h : ℕ) → FitsTree t → h + 2 * depth t < TALLIES → AllOpen (size t) (tally_list h t)
  list_open nil h f d = tt
  list_open (cons n l) h f d =
      all_append (node_size n) (size l) (tally_node h n) (tally_list h l) (length-tally_node h n) (node-open n h f.0 (omega arith)) (list_open l h f.1 (omega arith))

  node-open : (n : Node Leaf) (h : ℕ) → FitsNode n → h + 2 * node_depth n < TALLIES → AllOpen (node_size n) (tally_node h n)
  node-open (leaf x) h f d = alone (tally_record h (leaf_head x)) (length-tally_record h (leaf_head x)) (leaf-open h x f (omega arith))
  node-open (block b m) h f d =
      let r = tally_record h (body_head b m) in
      all_append 1 (body_size b) r (tally_body h b) (length-tally_record h (body_head b m)) (alone r (length-tally_record h (body_head b m)) (block-open h b m f (omega arith)))
      (body_open b h f.1 (omega arith))

  body_open : (b : Body Leaf) (h : ℕ) → FitsBody b → h + 2 * suc (body_depth b) < TALLIES → AllOpen (body_size b) (tally_body h b)
  body_open (group k a) h f d = list_open a (h + 2) f (omega arith)
  body_open (binary_group k a b) h f d =
      all_append (size a) (size b) (tally_list (h + 2) a) (tally_list (h + 1) b) (length-tally_list (h + 2) a) (list_open a (h + 2) f.0 (omega arith)) (list_open b (h + 1) f.1 (omega arith))
