-- What is read without a list is a leaf, of which the record says all. Assumes nothing.
use Prim.Native.Nat.{ℕ, ◌+◌, ◌*◌, ◌%◌, ◌<◌, ◌≤◌}
use mathlib.Core.Path.{◌≡◌, refl}
use mathlib.Core.Bool.{Bool, true, false}
use mathlib.Core.List.{List}
use native.Mathlib.Omega.{arith}
use lib.IntN.{ℤ}
use lib.ListN.{length, drop, set}
use Rattle.record.specs.Meaning.{COUNT}
use Rattle.notation.specs.Tree.{Leaf, Node, leaf, block}
use Rattle.notation.specs.Packed.{RECORD, widths, lay_out, leaf_fields, node_size}
use Rattle.notation.specs.Grammar.{Reading, rejected, read, Reader, done, fail, and_then, or_else, when, multiplier, just, constraints, tilde, family, layer_prefix_contents, rotation_node, move_node, group_kind, group_node, binary_group_node, megaminx_scramble_move, sq1_move, node, node_by}
use Rattle.notation.specs.declared.features.Features.{Features}
use Rattle.tally.specs.Tallies.{tally_node}
use Rattle.parse.specs.Meaning.{node_fields}
use Rattle.parse.specs.Nodes.{put, NodeRead}
use Rattle.parse.proofs.Buffers.{put-wrote}

abbrev IsLeaf : Node Leaf → Type 0
IsLeaf (leaf x) = Unit {0}
IsLeaf (block b m) = ⊥

-- whatever is read has the property
data Each {A : Type 0} (P : A → Type 0) : Reading A → Type 0 where
  none : Each P rejected
  one : {a : A} {at : ℕ} {s : List ℕ} → P a → Each P (read a at s)

module _ {A : Type 0} (P : A → Type 0) where
  each_or : (r : Reading A) (q : Reader A) (at : ℕ) (s : List ℕ) → Each P r → Each P (q at s) → Each P (or_else r q at s)
  each_or rejected q at s h k = k
  each_or (read a at' s') q at s h k = h

  each-when : (b : Bool) (p : Reader A) (at : ℕ) (s : List ℕ) → Each P (p at s) → Each P (when b p at s)
  each-when true p at s h = h
  each-when false p at s h = none

  each-then : {B : Type 0} (r : Reading B) (f : B → Reader A) → ((b : B) (at : ℕ) (s : List ℕ) → Each P (f b at s)) → Each P (and_then r f)
  each-then rejected f h = none
  each-then (read b at s) f h = h b at s

  each_after : {B : Type 0} (Q : B → Type 0) (r : Reading B) (f : B → Reader A) → Each Q r → ((b : B) → Q b → (at : ℕ) (s : List ℕ) → Each P (f b at s)) → Each P (and_then r f)
  each_after Q rejected f none h = none
  each_after Q (read b at s) f (one q) h = h b q at s

abbrev Leaves : (ℤ → Node Leaf) → Type 0
Leaves g = (m : ℤ) → IsLeaf (g m)

module _ (f : Features) (at : ℕ) (s : List ℕ) where
  rotation-leaf : Each Leaves (rotation_node f at s)
  unfolding rotation_node
  rotation-leaf = each-when Leaves f.generalized_rotations _ at s
      (each-then Leaves (just "@" at s) _ (λ _ at s. each-then Leaves (family 0 at s) _ (λ a at s. each-then Leaves (constraints f at s) _ (λ c at s. one (λ m. tt)))))

  move-leaf : Each Leaves (move_node f at s)
  unfolding move_node
  move-leaf =
      each-then Leaves (tilde f at s) _ (λ t at s. each-then Leaves (layer_prefix_contents f at s) _
      (λ l at s. each-then Leaves (family 1 at s) _ (λ a at s. each-then Leaves (constraints f at s) _ (λ c at s. one (λ m. tt)))))

  group-leaf : Each Leaves (group_node fail at s)
  unfolding group_node
  group-leaf = each-then Leaves (group_kind at s) _ (λ k at s. each-then Leaves (just "(" at s) _ (λ _ at s. none))

  binary-leaf : Each Leaves (binary_group_node fail at s)
  unfolding binary_group_node
  binary-leaf = each-then Leaves (just "[" at s) _ (λ _ at s. none)

  node-leaf : Each IsLeaf (node f fail at s)
  unfolding node_by
  node-leaf =
      each_or IsLeaf _ _ at s (each-then IsLeaf (just "." at s) _ (λ _ at s. one tt))
      (each_or IsLeaf _ _ at s (each-when IsLeaf f.megaminx _ at s (each-then IsLeaf (megaminx_scramble_move at s) _ (λ k at s. one tt)))
      (each_or IsLeaf _ _ at s
      (each_after IsLeaf Leaves _ _
      (each_or Leaves (rotation_node f at s) _ at s rotation-leaf
      (each_or Leaves (group_node fail at s) _ at s group-leaf (each_or Leaves (binary_group_node fail at s) (move_node f) at s binary-leaf move-leaf)))
      (λ g h at s. each-then IsLeaf (multiplier f at s) _ (λ m at s. one (h m))))
      (each-when IsLeaf f.sq1 _ at s (each-then IsLeaf (sq1_move at s) _ (λ x at s. one tt)))))

-- a record that was read is a leaf's
leaf-of : (r : Reading (Node Leaf)) (fs : List ℕ) (next : ℕ) (t : List ℕ) → Each IsLeaf r → read fs next t ≡ and_then r (λ n. done (node_fields n)) →
    (x : Leaf) × (r ≡ read (leaf x) next t) × (leaf_fields x ≡ fs)
leaf-of rejected fs next t l e = let z : ◌≡◌ {A = ℕ} 0 1 = cc in absurd (omega arith)
leaf-of (read (leaf x) a u) fs next t l e = (x, cc, cc)
leaf-of (read (block b m) a u) fs next t (one l) e = absurd l

-- What `leaf_node` returns.
module _ (f : Features) (text : List ℕ) (at slot : ℕ) (old : List ℕ) where
  pub leaf-read : (tally : ℕ) (fs : List ℕ) (next : ℕ) → read fs next (drop next text) ≡ and_then (node f fail at (drop at text)) (λ n. done (node_fields n)) →
      at < next → next ≤ length text →
      NodeRead (λ _. node f fail) text at slot tally old (put (RECORD * slot) (lay_out widths (set fs COUNT (tally % 256))) old) next (slot + 1)
  unfolding node_size tally_node
  leaf-read tally fs next e l i = go (leaf-of (node f fail at (drop at text)) fs next (drop next text) (node-leaf f at (drop at text)) e) where
    go : (x : Leaf) × (node f fail at (drop at text) ≡ read (leaf x) next (drop next text)) × (leaf_fields x ≡ fs) →
        NodeRead (λ _. node f fail) text at slot tally old (put (RECORD * slot) (lay_out widths (set fs COUNT (tally % 256))) old) next (slot + 1)
    go (x, r, is) =
        record {
          node = leaf x;
          reads = λ k _. r;
          slots = refl;
          advances = omega arith;
          inside = i;
          wrote = rw is (put-wrote (RECORD * slot) (lay_out widths (set fs COUNT (tally % 256))) old);
        }
