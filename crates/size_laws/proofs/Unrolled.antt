-- No step of an unrolled list takes more bytes than its tree. Assumes nothing.
use Prim.Native.Nat.{ℕ, ◌≤◌}
use mathlib.Core.Bool.{Bool, true, false}
use mathlib.Core.List.{List}
use native.Mathlib.Omega.{arith}
use Rattle.notation.specs.Basics.{pick}
use Rattle.notation.specs.Tree.{Leaf, Node, leaf, block, Body, group, binary_group, nil, cons, Tree}
use Rattle.notation.specs.Invert.{undo}
use Rattle.notation.specs.Unroll.{turned}
use Rattle.notation.specs.Counts.{times}
use Rattle.notation.specs.declared.common.BinaryGroupKind.{BinaryGroupKind}
use Rattle.notation.specs.declared.common.BinaryGroupKind.TheVariants.{Commutator, Conjugate}
use Rattle.laws.specs.All.{All, empty, one}
use Rattle.laws.proofs.All.{all_append, all-copies}
use Rattle.laws.specs.Unrolled.{in_order, flat_binary, flat_node, flat_body, flat}
use Rattle.size_laws.proofs.Bytes.{leaf_bytes, node_bytes, body_bytes, spaced, bytes, undo-bytes}

-- every step takes at most n bytes
abbrev pub Within : ℕ → List Leaf → Type 0
Within n = All (λ x. leaf_bytes x ≤ n)

module _ {n : ℕ} where
  within-order : (d : Bool) {a b : List Leaf} → Within n a → Within n b → Within n (in_order d a b)
  within-order false p q = all_append p q
  within-order true p q = all_append q p

  within-binary : (k : BinaryGroupKind) (d : Bool) {a b : Bool → List Leaf} → ((e : Bool) → Within n (a e)) → ((e : Bool) → Within n (b e)) →
      Within n (flat_binary k d a b)
  within-binary Commutator false p q = all_append (p false) (all_append (q false) (all_append (p true) (q true)))
  within-binary Commutator true p q = all_append (q false) (all_append (p false) (all_append (q true) (p true)))
  within-binary Conjugate d p q = all_append (p false) (all_append (q d) (p true))

  leaf-within : (x : Leaf) (d : Bool) → leaf_bytes x ≤ n → leaf_bytes (pick d (undo x) x) ≤ n
  leaf-within x true h = omega (arith, undo-bytes x)
  leaf-within x false h = h

  mutual
    unfolding flat_node flat_body flat node_bytes body_bytes spaced

    node-within : (x : Node Leaf) (d : Bool) → node_bytes x ≤ n → Within n (flat_node undo d x)
    node-within (leaf x) d h = one (leaf-within x d h) empty
    node-within (block b m) d h = all-copies (times b m) (body-within b (turned m d) (omega arith))

    body-within : (b : Body Leaf) (d : Bool) → body_bytes b ≤ n → Within n (flat_body undo d b)
    body-within (group k a) d h = unrolled-within a d (omega arith)
    body-within (binary_group k a b) d h = within-binary k d (λ e. unrolled-within a e (omega arith)) (λ e. unrolled-within b e (omega arith))

    pub unrolled-within : (t : Tree) (d : Bool) → bytes t ≤ n → Within n (flat undo d t)
    unrolled-within nil d h = empty
    unrolled-within (cons x l) d h = within-order d (node-within x d (omega arith)) (unrolled-within l d (omega arith))
