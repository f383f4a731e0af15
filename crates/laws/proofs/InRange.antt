-- The range of a setting's reading: the steps and trees that some text is read to. `reading-in-range` and `reads-back` show that this
-- is exactly so. Assumes nothing.
use Prim.Native.Nat.{ℕ}
use mathlib.Core.Bool.{Bool, true, not, ◌&&◌, ◌||◌}
use mathlib.Core.List.{List}
use mathlib.Core.Option.{Option, none, some}
use lib.Dec.{leb, ltb, eqb}
use lib.IntN.{ℤ, nat_abs}
use lib.ListN.{length}
use Rattle.notation.specs.Basics.{between, every}
use Rattle.notation.specs.Numbers.{fits_bits}
use Rattle.notation.specs.Chars.{is_family_char}
use Rattle.notation.specs.Utf8.{run}
use Rattle.notation.specs.Layers.{LayerSetElement, single, range, MAX-LAYER}
use Rattle.notation.specs.Tree.{
  Constraint,
  from_to,
  swap,
  fix,
  Layers,
  no_layers,
  single_layer,
  layer_range,
  layer_set,
  Step,
  rotation,
  move,
  pause,
  pair,
  slash,
  megaminx,
  Node,
  leaf,
  block,
  Body,
  group,
  binary_group,
  NodeList,
  nil,
  cons,
}
use Rattle.notation.specs.WellFormed.{multiplier_ok}
use Rattle.notation.specs.declared.features.Features.{Features}

-- family characters alone, and at least one of them where `some`
abbrev pub family_in_range : List ℕ → Bool
family_in_range f = eqb (run is_family_char f) (length f)

abbrev pub name_in_range : List ℕ → Bool
name_in_range f = ltb 0 (length f) && family_in_range f

abbrev pub constraint_in_range : Constraint → Bool
constraint_in_range (from_to a b) = name_in_range a && name_in_range b
constraint_in_range (swap a b) = name_in_range a && name_in_range b
constraint_in_range (fix a) = name_in_range a

abbrev pub constraints_in_range : Features → Option (List Constraint) → Bool
constraints_in_range f none = true
constraints_in_range f (some l) = f.transform_constraints && every constraint_in_range l

abbrev pub signed_in_range : ℤ → Bool
signed_in_range i = between 1 MAX-LAYER (nat_abs i)

abbrev pub element_in_range : LayerSetElement → Bool
element_in_range (single i) = signed_in_range i
element_in_range (range i j) = signed_in_range i && signed_in_range j

abbrev pub layers_in_range : Features → Layers (List LayerSetElement) → Bool
layers_in_range f no_layers = true
layers_in_range f (single_layer i) = between 1 MAX-LAYER i
layers_in_range f (layer_range i j) = leb 1 i && (leb i j && leb j MAX-LAYER)
layers_in_range f (layer_set l) = f.layers.layer_sets && every element_in_range l

unfoldable pub step_in_range : Features → Step → Bool
step_in_range f (rotation a c m) = f.generalized_rotations && (family_in_range a && (constraints_in_range f c && multiplier_ok m))
step_in_range f (move t l a c m) =
    (not t || f.layers.inverted_layers) && (layers_in_range f l && (name_in_range a && (constraints_in_range f c && multiplier_ok m)))
step_in_range f pause = true
step_in_range f (pair u d) = f.sq1 && (fits_bits 32 u && fits_bits 32 d)
step_in_range f slash = f.sq1
step_in_range f (megaminx k) = f.megaminx

unfoldable mutual
  pub node_in_range : Features → Node Step → Bool
  node_in_range f (leaf x) = step_in_range f x
  node_in_range f (block b m) = multiplier_ok m && body_in_range f b

  pub body_in_range : Features → Body Step → Bool
  body_in_range f (group k a) = in_range f a
  body_in_range f (binary_group k a b) = in_range f a && in_range f b

  pub in_range : Features → NodeList Step → Bool
  in_range f nil = true
  in_range f (cons n l) = node_in_range f n && in_range f l
