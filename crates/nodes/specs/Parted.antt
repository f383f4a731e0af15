-- A packed list parted in two between its nodes, near its middle.
use Rattle.std.specs.Prelude.{ℕ, ◌+◌, ◌-◌, ◌*◌, ◌≤◌, ◌<◌, ◌≡◌, List, length}
use Rattle.notation.specs.Tree.{Leaf, Node, append, Tree}
use Rattle.notation.specs.Packed.{pack, unpack}
use Rattle.laws.specs.Packed.{Packed}
use Rattle.nodes.specs.Nodes.{IsNode, part}

-- how far a place in n bytes is from their middle, doubled: |2·at − n|
abbrev pub distance : ℕ → ℕ → ℕ
distance at n = (2 * at - n) + (n - 2 * at)

-- The list parted at r: two packed lists, neither empty, and no other way to part the list has its place nearer the middle.
pub record Parted (list : List ℕ) (r : ℕ) : Type 0 where
  pub some : 0 < r
  pub below : r < length list
  pub packed_first : Packed (part 0 r list)
  pub packed_second : Packed (part r (length list) list)
  pub unpacks : unpack list ≡ append (unpack (part 0 r list)) (unpack (part r (length list) list))
  pub nearest : (a b : Tree) → unpack list ≡ append a b → distance r (length list) ≤ distance (length (pack a)) (length list)

-- What `middle` answers: where the list is parted, or its end, where it is one node or empty.
pub record Middle (list : List ℕ) (r : ℕ) : Type 0 where
  pub most : r ≤ length list
  pub parted : r < length list → Parted list r
  pub single : length list ≤ r → 0 < length list → (n : Node Leaf) × IsNode list n
