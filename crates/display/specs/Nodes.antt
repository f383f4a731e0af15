-- Nodes and leaves that are well formed in their text, and what a leaf's record prints by its fields.
use Rattle.std.specs.Prelude.{ℕ, ◌≤◌, ◌<◌, ◌≡◌, true, List, ◌∷◌, ◌++◌, eqb, length}
use Rattle.notation.specs.Basics.{pick}
use Rattle.notation.specs.Numbers.{from_bits}
use Rattle.notation.specs.Tree.{Leaf, Node, part_of}
use Rattle.notation.specs.Packed.{RECORD, family_at, leaf_head, head_at}
use Rattle.notation.specs.WellFormed.{inside, constraints_ok, layers_ok, leaf_ok, node_ok}
use Rattle.notation.specs.Meaning.{constraint_meaning, layer_meaning}
use Rattle.notation.specs.Print.{put_tilde, put_layers, put_constraints, put_multiplier}
use Rattle.record.specs.Meaning.{field, layers_at, constraints_at, kind_at, tilde_at, NUMBER, FAMILY, FAMILY-SIZE}
use Rattle.nodes.specs.Nodes.{IsNode}

-- a node that is well formed in its text
pub record GoodNode (text bs : List ℕ) : Type 0 where
  pub node : Node Leaf
  pub is_node : IsNode bs node
  pub ok : node_ok text node ≡ true

-- a leaf that the first record says, well formed in its text
pub record GoodLeaf (text bs : List ℕ) : Type 0 where
  pub leaf : Leaf
  pub room : RECORD ≤ length bs
  pub head : head_at bs ≡ leaf_head leaf
  pub low : 5 < kind_at bs
  pub high : kind_at bs < 15
  pub ok : leaf_ok text leaf ≡ true

-- a rotation or a move in the first record, by the fields of the record
pub record GoodTransform (text bs : List ℕ) : Type 0 where
  pub room : RECORD ≤ length bs
  pub layers : (kind_at bs ≡ 6 → ⊥) → layers_ok text (layers_at bs) ≡ true
  pub family : inside text (family_at (field FAMILY bs) (field FAMILY-SIZE bs)) ≡ true
  pub constraints : constraints_ok text (constraints_at bs) ≡ true

-- `@`, or the tilde and the layers
abbrev pub put_before : List ℕ → List ℕ → List ℕ → List ℕ
put_before text bs rest =
    pick (eqb (kind_at bs) 6) (64 ∷ rest) (put_tilde (tilde_at bs) (put_layers (layer_meaning text (layers_at bs)) rest))

abbrev pub put_transform : List ℕ → List ℕ → List ℕ → List ℕ
put_transform text bs rest =
    put_before text bs
    (part_of text (family_at (field FAMILY bs) (field FAMILY-SIZE bs))
    ++ put_constraints (constraint_meaning text (constraints_at bs)) (put_multiplier (from_bits 32 (field NUMBER bs)) rest))
