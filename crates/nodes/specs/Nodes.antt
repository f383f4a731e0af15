-- A node's bytes, and a packed list taken apart at the end of its first node.
use Rattle.std.specs.Prelude.{ℕ, ◌-◌, ◌≤◌, ◌≡◌, List, length, take, drop}
use Rattle.notation.specs.Tree.{Leaf, Node, leaf, block, group, binary_group, nil, cons, Tree}
use Rattle.notation.specs.Packed.{RECORD, pack_node, unpack}
use Rattle.laws.specs.Packed.{FitsNode}
use Rattle.laws.specs.Packed.{Packed}

pub record IsNode (bs : List ℕ) (n : Node Leaf) : Type 0 where
  pub bytes : pack_node n ≡ bs
  pub fits : FitsNode n

-- what the slices &t[0..e] and &t[e..] are
abbrev pub part : ℕ → ℕ → List ℕ → List ℕ
part a e bs = take (e - a) (drop a bs)

pub record FirstNode (bs : List ℕ) (e : ℕ) : Type 0 where
  pub node : Node Leaf
  pub least : RECORD ≤ e
  pub most : e ≤ length bs
  pub is_node : IsNode (part 0 e bs) node
  pub packed_rest : Packed (part e (length bs) bs)
  pub unpacks : unpack bs ≡ cons node (unpack (part e (length bs) bs))

-- the lists of a node; a leaf has none and a plain group one
abbrev pub first_list : Node Leaf → Tree
first_list (leaf x) = nil
first_list (block (group k a) m) = a
first_list (block (binary_group k a b) m) = a

abbrev pub second_list : Node Leaf → Tree
second_list (leaf x) = nil
second_list (block (group k a) m) = nil
second_list (block (binary_group k a b) m) = b

-- where they lie in the node's bytes, the first before m and the second from m on
pub record Lists (bs : List ℕ) (m : ℕ) : Type 0 where
  pub least : RECORD ≤ m
  pub most : m ≤ length bs
  pub packed_first : Packed (part RECORD m bs)
  pub packed_second : Packed (part m (length bs) bs)
  pub unpacks_first : (n : Node Leaf) → IsNode bs n → unpack (part RECORD m bs) ≡ first_list n
  pub unpacks_second : (n : Node Leaf) → IsNode bs n → unpack (part m (length bs) bs) ≡ second_list n
