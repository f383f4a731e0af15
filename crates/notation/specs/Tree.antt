-- The tree of a text: nodes over leaves. A spanned leaf names parts of the text by offset and size, as a packed record does
-- (spanned.rs); an unspanned one, a step, holds what those parts mean, so that steps of two texts can be compared (unspanned.rs).
use Rattle.std.specs.Prelude.{ℕ, Bool, List, ℤ, take, drop}
use Rattle.std.proofs.Math.Option.{Option}
use Rattle.notation.specs.Layers.{LayerSetElement}
use Rattle.notation.specs.declared.common.GroupKind.{GroupKind}
use Rattle.notation.specs.declared.common.BinaryGroupKind.{BinaryGroupKind}
use Rattle.notation.specs.declared.common.MegaminxScrambleMove.{MegaminxScrambleMove}

-- a part of the text
pub record Span : Type 0 where
  pub offset : ℕ
  pub size : ℕ

abbrev pub span : ℕ → ℕ → Span
span offset size = record { offset = offset; size = size }

abbrev pub part_of : List ℕ → Span → List ℕ
part_of text p = take p.size (drop p.offset text)

-- one element of a constraint part; families are their bytes
pub data Constraint : Type 0 where
  from_to : List ℕ → List ℕ → Constraint
  swap : List ℕ → List ℕ → Constraint
  fix : List ℕ → Constraint

-- `Option<LayerPrefixContents>`, with S for a layer set
pub data Layers (S : Type 0) : Type 0 where
  no_layers : Layers S
  single_layer : ℕ → Layers S
  layer_range : ℕ → ℕ → Layers S
  layer_set : S → Layers S

-- a node that is no group, with F for a family, C for constraints and S for a layer set; the last number is the multiplier
pub data LeafOf (F C S : Type 0) : Type 0 where
  rotation : F → Option C → ℤ → LeafOf F C S
  move : Bool → Layers S → F → Option C → ℤ → LeafOf F C S
  pause : LeafOf F C S
  pair : ℤ → ℤ → LeafOf F C S
  slash : LeafOf F C S
  megaminx : MegaminxScrambleMove → LeafOf F C S

abbrev pub Leaf : Type 0
Leaf = LeafOf Span Span Span

abbrev pub Step : Type 0
Step = LeafOf (List ℕ) (List Constraint) (List LayerSetElement)

-- nodes over leaves of any type; a block is a group with its multiplier
mutual
  pub data Node (L : Type 0) : Type 0 where
    leaf : L → Node L
    block : Body L → ℤ → Node L

  pub data Body (L : Type 0) : Type 0 where
    group : GroupKind → NodeList L → Body L
    binary_group : BinaryGroupKind → NodeList L → NodeList L → Body L

  pub data NodeList (L : Type 0) : Type 0 where
    nil : NodeList L
    cons : Node L → NodeList L → NodeList L

abbrev pub Tree : Type 0
Tree = NodeList Leaf

-- the nodes of one list, then those of another
unfoldable pub append : {L : Type 0} → NodeList L → NodeList L → NodeList L
append nil b = b
append (cons n a) b = cons n (append a b)

unfoldable mutual
  -- the same nodes over other leaves
  pub map_node : {L M : Type 0} → (L → M) → Node L → Node M
  map_node f (leaf x) = leaf (f x)
  map_node f (block b m) = block (map_body f b) m

  pub map_body : {L M : Type 0} → (L → M) → Body L → Body M
  map_body f (group k a) = group k (map_nodes f a)
  map_body f (binary_group k a b) = binary_group k (map_nodes f a) (map_nodes f b)

  pub map_nodes : {L M : Type 0} → (L → M) → NodeList L → NodeList M
  map_nodes f nil = nil
  map_nodes f (cons n l) = cons (map_node f n) (map_nodes f l)
