-- Document 02, request 2: the step count in a record is how many steps its node unrolls into, capped.
-- The theorem is `stores-length` in crates/laws/proofs/Stored.antt.
use Rattle.std.specs.Prelude.{◌≡◌, Bool, List, ◌++◌, length}
use Rattle.notation.specs.Basics.{Bytes}
use Rattle.notation.specs.Refusals.{result}
use Rattle.notation.specs.Tree.{Leaf, Node}
use Rattle.notation.specs.Counts.{cap}
use Rattle.notation.specs.Invert.{undone}
use Rattle.notation.specs.Unroll.{flatten_node}
use Rattle.notation.specs.Packed.{head_fields, head_record, node_head, pack_node}
use Rattle.notation.specs.Clauses.{count}

pub record StoresLength : Type 0 where
  -- packing a node writes its record first
  pub written : (n : Node Leaf) → (rest : Bytes) × (pack_node n ≡ head_record (node_head n) ++ rest)
  -- a node that unrolls into the list l, in either direction, has the capped length of l as the count of its record
  pub counts : (n : Node Leaf) (inverted : Bool) (l : List Leaf) → flatten_node undone inverted n ≡ result l →
      count (head_fields (node_head n)) ≡ cap (length l)
