-- What the crate's types mean in the rules, and a field of a record: one of `cut widths`.
use Rattle.std.specs.Prelude as core
use Rattle.std.specs.Prelude.{ℕ, ◌+◌, ◌/◌, ◌%◌, Bool, ◌&&◌, eqb, get_or, take}
use mathlib.Core.List.{List, [], ◌∷◌, ◌++◌, foldr}
use Rattle.std.proofs.Math.Option.{Option, none, some}
use Rattle.std.proofs.lemmas.List.Edits.{sets}
use Rattle.notation.specs.Basics.{pick}
use Rattle.notation.specs.Numbers.{big_endian, from_bits}
use Rattle.notation.specs.Tree as tree
use Rattle.notation.specs.Tree.{
  Layers,
  no_layers,
  single_layer,
  layer_range,
  layer_set,
  Leaf,
  rotation,
  move,
}
use Rattle.notation.specs.Packed.{widths, cut, RECORD, family_at, Head, leaf_head, group_head, binary_head}
use Rattle.record.specs.declared.spanned.Span.{Span}
use Rattle.record.specs.declared.spanned.LayerPrefixContents.{LayerPrefixContents}
use Rattle.record.specs.declared.spanned.LayerPrefixContents.TheVariants as prefix
use Rattle.record.specs.declared.spanned.Rotation.{Rotation}
use Rattle.record.specs.declared.spanned.Move.{Move}
use Rattle.notation.specs.declared.common.GroupKind.{GroupKind}
use Rattle.notation.specs.declared.common.BinaryGroupKind.{BinaryGroupKind}
use Rattle.record.specs.declared.encode.Fields.{Fields}

abbrev pub span : Span → tree.Span
span p = tree.span p.offset p.size

abbrev pub span_option : core.Option Span → Option tree.Span
span_option (core.Some p) = some (span p)
span_option core.None = none

abbrev pub layers : LayerPrefixContents → Layers tree.Span
layers prefix.None = no_layers
layers (prefix.Single i) = single_layer i
layers (prefix.Range i j) = layer_range i j
layers (prefix.Set p) = layer_set (span p)

abbrev pub rotation_leaf : Rotation → Leaf
rotation_leaf x = rotation (span x.family) (span_option x.constraints) (from_bits 32 x.multiplier)

abbrev pub move_leaf : Move → Leaf
move_leaf x = move x.inverted (layers x.layers) (span x.family) (span_option x.constraints) (from_bits 32 x.multiplier)

-- The fields of a record by name: their numbers in `widths`. A part of the text has two, its offset and its size.
abbrev pub SMALL : ℕ
SMALL = 0

abbrev pub FIRST : ℕ
FIRST = 1

abbrev pub SECOND : ℕ
SECOND = 2

abbrev pub NUMBER : ℕ
NUMBER = 3

abbrev pub OTHER : ℕ
OTHER = 4

abbrev pub FAMILY : ℕ
FAMILY = 5

abbrev pub FAMILY-SIZE : ℕ
FAMILY-SIZE = 6

abbrev pub CONSTRAINTS : ℕ
CONSTRAINTS = 7

abbrev pub LAYER-SET : ℕ
LAYER-SET = 9

abbrev pub COUNT : ℕ
COUNT = 11

-- field i of the first record, and the part of the text that fields i and i + 1 name
abbrev pub field : ℕ → List ℕ → ℕ
field i bs = get_or (cut widths (take RECORD bs)) i 0

abbrev pub span_at : ℕ → List ℕ → tree.Span
span_at i bs = tree.span (field i bs) (field (i + 1) bs)

-- what its first byte holds: the kind, whether it has a tilde, the form of its layers, and whether it has constraints
abbrev pub kind_at : List ℕ → ℕ
kind_at bs = field SMALL bs / 16

abbrev pub tilde_at : List ℕ → Bool
tilde_at bs = eqb (field SMALL bs / 8 % 2) 1

abbrev pub form_at : List ℕ → ℕ
form_at bs = field SMALL bs / 2 % 4

abbrev pub present_at : List ℕ → Bool
present_at bs = eqb (field SMALL bs % 2) 1

-- whether fields i and i + 1 are 0
abbrev pub both_zero : ℕ → List ℕ → Bool
both_zero i bs = eqb (field i bs) 0 && eqb (field (i + 1) bs) 0

-- the size of fields of these widths, and where field i of them starts: after those before it
abbrev pub total : List ℕ → ℕ
total ws = foldr (λ a b. a + b) 0 ws

abbrev pub start : List ℕ → ℕ → ℕ
start ws i = total (take i ws)

-- the first record with field i set to n; with the sizes of both lists; with the part of the text that fields i and i + 1 name
abbrev pub with_field : ℕ → ℕ → List ℕ → List ℕ
with_field i n bs = sets bs (start widths i) (big_endian (get_or widths i 0) n)

abbrev pub with_lists : ℕ → ℕ → List ℕ → List ℕ
with_lists first second bs = with_field SECOND second (with_field FIRST first bs)

abbrev pub with_span : ℕ → Span → List ℕ → List ℕ
with_span i p bs = with_field (i + 1) p.size (with_field i p.offset bs)

-- the width of an offset or a size in the text
abbrev pub place_width : ℕ
place_width = get_or widths FAMILY 0

-- what the record says if it is of this kind, in the words of `head_of`
abbrev pub group_at : GroupKind → List ℕ → Head
group_at k bs = group_head k (field FIRST bs) (from_bits 32 (field NUMBER bs)) (field COUNT bs)

abbrev pub binary_at : BinaryGroupKind → List ℕ → Head
binary_at k bs = binary_head k (field FIRST bs) (field SECOND bs) (from_bits 32 (field NUMBER bs)) (field COUNT bs)

abbrev pub constraints_at : List ℕ → Option tree.Span
constraints_at bs = pick (present_at bs) (some (span_at CONSTRAINTS bs)) none

abbrev pub layers_at : List ℕ → Layers tree.Span
layers_at bs =
    let low = field OTHER bs / 65536 in
    let high = field OTHER bs % 65536 in
    get_or (no_layers ∷ single_layer low ∷ layer_range low high ∷ layer_set (span_at LAYER-SET bs) ∷ []) (form_at bs) no_layers

abbrev pub rotation_at : List ℕ → Head
rotation_at bs = leaf_head (rotation (family_at (field FAMILY bs) (field FAMILY-SIZE bs)) (constraints_at bs) (from_bits 32 (field NUMBER bs)))

abbrev pub move_at : List ℕ → Head
move_at bs =
    leaf_head
    (move (tilde_at bs) (layers_at bs) (family_at (field FAMILY bs) (field FAMILY-SIZE bs)) (constraints_at bs) (from_bits 32 (field NUMBER bs)))

-- the fields of a record in order; those before the step count
abbrev pub uncounted : Fields → List ℕ
uncounted f =
    f.small ∷ f.first ∷ f.second ∷ f.number ∷ f.other
    ∷ f.family.offset ∷ f.family.size ∷ f.constraints.offset ∷ f.constraints.size
    ∷ f.layer_set.offset ∷ f.layer_set.size ∷ []

abbrev pub listed : Fields → List ℕ
listed f = uncounted f ++ (f.count ∷ [])
