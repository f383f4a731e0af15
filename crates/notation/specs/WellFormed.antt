-- Well-formed trees, as proofs work with them: by what packing writes. specs/Clauses says the same clause by clause, as document 01 does.
use Rattle.std.specs.Prelude.{ℕ, suc, ◌+◌, max, Bool, true, false, ◌&&◌, List, leb, ltb, eqb, ℤ, nat_abs, length}
use Rattle.std.proofs.Math.Option.{Option, none, some}
use Rattle.notation.specs.Basics.{between, same_list}
use Rattle.notation.specs.Chars.{is_family_char}
use Rattle.notation.specs.Utf8.{run}
use Rattle.notation.specs.Layers.{MAX-LAYER}
use Rattle.notation.specs.Tree.{
  Span,
  part_of,
  Layers,
  no_layers,
  single_layer,
  layer_range,
  layer_set,
  Leaf,
  rotation,
  move,
  pause,
  pair,
  slash,
  megaminx,
  Node,
  leaf,
  block,
  Body,
  group,
  binary_group,
  NodeList,
  nil,
  cons,
  Tree,
}
use Rattle.notation.specs.Packed.{pack, unpack}
use Rattle.notation.specs.Meaning.{constraints_in, layer_set_in}

abbrev pub MAX-NESTING : ℕ
MAX-NESTING = 64

abbrev pub is_some : {A : Type 0} → Option A → Bool
is_some none = false
is_some (some a) = true

abbrev pub inside : List ℕ → Span → Bool
inside text p = leb (p.offset + p.size) (length text)

-- at least so many bytes, all of them family characters
abbrev pub family_ok : List ℕ → ℕ → Span → Bool
family_ok text at_least p = inside text p && leb at_least p.size && eqb (run is_family_char (part_of text p)) p.size

abbrev pub constraints_ok : List ℕ → Option Span → Bool
constraints_ok text none = true
constraints_ok text (some p) = inside text p && is_some (constraints_in (part_of text p))

abbrev pub layers_ok : List ℕ → Layers Span → Bool
layers_ok text no_layers = true
layers_ok text (single_layer i) = between 1 MAX-LAYER i
layers_ok text (layer_range i j) = leb 1 i && leb i j && leb j MAX-LAYER
layers_ok text (layer_set p) = inside text p && is_some (layer_set_in (part_of text p))

-- other than −2147483648
abbrev pub multiplier_ok : ℤ → Bool
multiplier_ok m = ltb (nat_abs m) 2147483648

unfoldable pub leaf_ok : List ℕ → Leaf → Bool
leaf_ok text (rotation f c m) = family_ok text 0 f && constraints_ok text c && multiplier_ok m
leaf_ok text (move t l f c m) = layers_ok text l && family_ok text 1 f && constraints_ok text c && multiplier_ok m
leaf_ok text pause = true
leaf_ok text (pair u d) = true
leaf_ok text slash = true
leaf_ok text (megaminx k) = true

unfoldable mutual
  pub node_ok : List ℕ → Node Leaf → Bool
  node_ok text (leaf x) = leaf_ok text x
  node_ok text (block b m) = multiplier_ok m && body_ok text b

  pub body_ok : List ℕ → Body Leaf → Bool
  body_ok text (group k a) = tree_ok text a
  body_ok text (binary_group k a b) = tree_ok text a && tree_ok text b

  pub tree_ok : List ℕ → Tree → Bool
  tree_ok text nil = true
  tree_ok text (cons n l) = node_ok text n && tree_ok text l

unfoldable mutual
  -- how many groups stand one inside another
  pub node_depth : {L : Type 0} → Node L → ℕ
  node_depth (leaf x) = 0
  node_depth (block b m) = suc (body_depth b)

  pub body_depth : {L : Type 0} → Body L → ℕ
  body_depth (group k a) = depth a
  body_depth (binary_group k a b) = max (depth a) (depth b)

  pub depth : {L : Type 0} → NodeList L → ℕ
  depth nil = 0
  depth (cons n l) = max (node_depth n) (depth l)

-- A length that is a multiple of 38, kinds 0 to 14, unused fields 0, right step counts and lists that end inside the list that holds them:
-- these are the runs of bytes that packing writes, so that unpacking and packing give them back.
unfoldable pub well_formed : List ℕ → List ℕ → Bool
well_formed text tree =
    let t = unpack tree in
    same_list (pack t) tree && tree_ok text t && leb (depth t) MAX-NESTING
