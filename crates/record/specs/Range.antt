-- The heads that a record can hold: each number fits its field, and an empty family stands at offset 0.
use Rattle.std.specs.Prelude.{ℕ, ◌^◌, ◌<◌, ◌≡◌, true, ℤ, get_or}
use Rattle.std.proofs.Math.Option.{Option, none, some}
use Rattle.notation.specs.Numbers.{fits_bits}
use Rattle.notation.specs.Tree.{
  Span,
  Layers,
  no_layers,
  single_layer,
  layer_range,
  layer_set,
  Leaf,
  rotation,
  move,
  pause,
  pair,
  slash,
  megaminx,
}
use Rattle.notation.specs.Packed.{widths, Head, leaf_head, group_head, binary_head}
use Rattle.record.specs.Meaning.{FIRST, SECOND, FAMILY, FAMILY-SIZE, COUNT}

-- a number that field i has room for
abbrev pub FitsField : ℕ → ℕ → Type 0
FitsField i n = n < 256 ^ get_or widths i 0

pub record FitsSpan (p : Span) : Type 0 where
  pub offset : FitsField FAMILY p.offset
  pub size : FitsField FAMILY-SIZE p.size

pub record FitsFamily (p : Span) : Type 0 where
  pub span : FitsSpan p
  pub empty : p.size ≡ 0 → p.offset ≡ 0

abbrev pub FitsConstraints : Option Span → Type 0
FitsConstraints none = Unit {0}
FitsConstraints (some p) = FitsSpan p

abbrev pub FitsLayers : Layers Span → Type 0
FitsLayers no_layers = Unit {0}
FitsLayers (single_layer i) = i < 65536
FitsLayers (layer_range i j) = (i < 65536) × (j < 65536)
FitsLayers (layer_set p) = FitsSpan p

-- a signed number of 32 bits
abbrev pub FitsNumber : ℤ → Type 0
FitsNumber z = fits_bits 32 z ≡ true

abbrev pub FitsLeaf : Leaf → Type 0
FitsLeaf (rotation f c m) = FitsFamily f × FitsConstraints c × FitsNumber m
FitsLeaf (move t l f c m) = FitsLayers l × FitsFamily f × FitsConstraints c × FitsNumber m
FitsLeaf pause = Unit {0}
FitsLeaf (pair u d) = FitsNumber u × FitsNumber d
FitsLeaf slash = Unit {0}
FitsLeaf (megaminx k) = Unit {0}

abbrev pub FitsHead : Head → Type 0
FitsHead (leaf_head x) = FitsLeaf x
FitsHead (group_head k n m c) = FitsField FIRST n × FitsNumber m × FitsField COUNT c
FitsHead (binary_head k n n' m c) = FitsField FIRST n × FitsField SECOND n' × FitsNumber m × FitsField COUNT c
