-- The packed record: a tree is a run of 38-byte records in reading order, a group before its contents.
use Rattle.std.specs.Prelude.{ℕ, zero, suc, ◌+◌, ◌*◌, ◌/◌, ◌%◌, Bool, true, false, List, [], ◌∷◌, ◌++◌, eqb, ℤ, length, get_or, take, drop}
use Rattle.std.proofs.Math.Option.{Option, none, some}
use Rattle.notation.specs.Basics.{pick}
use Rattle.notation.specs.Numbers.{big_endian, from_big_endian, to_bits, from_bits}
use Rattle.notation.specs.Tree.{
  Span,
  span,
  Layers,
  no_layers,
  single_layer,
  layer_range,
  layer_set,
  Leaf,
  rotation,
  move,
  pause,
  pair,
  slash,
  megaminx,
  Node,
  leaf,
  block,
  Body,
  group,
  binary_group,
  nil,
  cons,
  Tree,
}
use Rattle.notation.specs.Counts.{stored}
use Rattle.notation.specs.declared.common.GroupKind.{GroupKind}
use Rattle.notation.specs.declared.common.GroupKind.TheVariants.{Simple, Macro, Simultaneous, Niss}
use Rattle.notation.specs.declared.common.BinaryGroupKind.{BinaryGroupKind}
use Rattle.notation.specs.declared.common.BinaryGroupKind.TheVariants.{Commutator, Conjugate}
use Rattle.notation.specs.declared.common.MegaminxScrambleMove.{MegaminxScrambleMove}
use Rattle.notation.specs.declared.common.MegaminxScrambleMove.TheVariants.{Rpp, Rmm, Dpp, Dmm}

-- The layout: the width of each field in bytes. The first byte holds kind (4 bits), tilde, layer form (2) and constraints present.
abbrev pub widths : List ℕ
widths =
    1  -- kind, tilde, layer form, constraints present
    ∷ 3  -- records in the first list, nested ones included
    ∷ 3  -- in the second list
    ∷ 4  -- multiplier, or u of a pair
    ∷ 4  -- d of a pair, or low and high layer
    ∷ 3 ∷ 3  -- family: offset and length in the text
    ∷ 3 ∷ 3  -- constraints with braces
    ∷ 3 ∷ 3  -- layer set with braces
    ∷ 5  -- step count
    ∷ []

abbrev pub RECORD : ℕ
RECORD = 38

-- the fields one after the other
unfoldable pub lay_out : List ℕ → List ℕ → List ℕ
lay_out [] fs = []
lay_out (w ∷ ws) [] = []
lay_out (w ∷ ws) (f ∷ fs) = big_endian w f ++ lay_out ws fs

unfoldable pub cut : List ℕ → List ℕ → List ℕ
cut [] bs = []
cut (w ∷ ws) bs = from_big_endian (take w bs) ∷ cut ws (drop w bs)

-- What one record says: a leaf, or a group with the number of records in each list, its multiplier and its step count.
pub data Head : Type 0 where
  leaf_head : Leaf → Head
  group_head : GroupKind → ℕ → ℤ → ℕ → Head
  binary_head : BinaryGroupKind → ℕ → ℕ → ℤ → ℕ → Head

abbrev pub group_number : GroupKind → ℕ
group_number Simple = 0
group_number Macro = 1
group_number Simultaneous = 2
group_number Niss = 3

abbrev pub binary_number : BinaryGroupKind → ℕ
binary_number Commutator = 4
binary_number Conjugate = 5

abbrev pub megaminx_number : MegaminxScrambleMove → ℕ
megaminx_number Rpp = 11
megaminx_number Rmm = 12
megaminx_number Dpp = 13
megaminx_number Dmm = 14

-- Writing: the fields of a record in order. Unused ones are 0, and a leaf's step count is 1.
abbrev pub in_order : (kind tilde form present first second number other : ℕ) (family constraints set : Span) (count : ℕ) → List ℕ
in_order kind tilde form present first second number other family constraints set count =
    (kind * 16 + tilde * 8 + form * 2 + present) ∷ first ∷ second ∷ number ∷ other
    ∷ family.offset ∷ family.size ∷ constraints.offset ∷ constraints.size ∷ set.offset ∷ set.size ∷ count ∷ []

abbrev pub nowhere : Span
nowhere = span 0 0

abbrev pub bit : Bool → ℕ
bit true = 1
bit false = 0

abbrev pub present : Option Span → ℕ
present none = 0
present (some p) = 1

abbrev pub or_nowhere : Option Span → Span
or_nowhere none = nowhere
or_nowhere (some p) = p

abbrev pub layer_form : Layers Span → ℕ
layer_form no_layers = 0
layer_form (single_layer i) = 1
layer_form (layer_range i j) = 2
layer_form (layer_set p) = 3

abbrev pub low_and_high : Layers Span → ℕ
low_and_high no_layers = 0
low_and_high (single_layer i) = i * 65536 + i
low_and_high (layer_range i j) = i * 65536 + j
low_and_high (layer_set p) = 0

abbrev pub set_part : Layers Span → Span
set_part no_layers = nowhere
set_part (single_layer i) = nowhere
set_part (layer_range i j) = nowhere
set_part (layer_set p) = p

abbrev pub leaf_fields : Leaf → List ℕ
leaf_fields (rotation f c m) = in_order 6 0 0 (present c) 0 0 (to_bits 32 m) 0 f (or_nowhere c) nowhere 1
leaf_fields (move t l f c m) = in_order 7 (bit t) (layer_form l) (present c) 0 0 (to_bits 32 m) (low_and_high l) f (or_nowhere c) (set_part l) 1
leaf_fields pause = in_order 8 0 0 0 0 0 0 0 nowhere nowhere nowhere 1
leaf_fields (pair u d) = in_order 9 0 0 0 0 0 (to_bits 32 u) (to_bits 32 d) nowhere nowhere nowhere 1
leaf_fields slash = in_order 10 0 0 0 0 0 0 0 nowhere nowhere nowhere 1
leaf_fields (megaminx k) = in_order (megaminx_number k) 0 0 0 0 0 0 0 nowhere nowhere nowhere 1

abbrev pub head_fields : Head → List ℕ
head_fields (leaf_head x) = leaf_fields x
head_fields (group_head k n m c) = in_order (group_number k) 0 0 0 n 0 (to_bits 32 m) 0 nowhere nowhere nowhere c
head_fields (binary_head k n n' m c) = in_order (binary_number k) 0 0 0 n n' (to_bits 32 m) 0 nowhere nowhere nowhere c

unfoldable pub head_record : Head → List ℕ
head_record h = lay_out widths (head_fields h)

abbrev pub leaf_record : Leaf → List ℕ
leaf_record x = head_record (leaf_head x)

unfoldable mutual
  -- how many records a node takes, nested ones included
  pub node_size : Node Leaf → ℕ
  node_size (leaf x) = 1
  node_size (block b m) = 1 + body_size b

  pub body_size : Body Leaf → ℕ
  body_size (group k a) = size a
  body_size (binary_group k a b) = size a + size b

  pub size : Tree → ℕ
  size nil = 0
  size (cons n l) = node_size n + size l

abbrev pub body_head : Body Leaf → ℤ → Head
body_head (group k a) m = group_head k (size a) m (stored (block (group k a) m))
body_head (binary_group k a b) m = binary_head k (size a) (size b) m (stored (block (binary_group k a b) m))

-- the record of a node
abbrev pub node_head : Node Leaf → Head
node_head (leaf x) = leaf_head x
node_head (block b m) = body_head b m

unfoldable mutual
  pub pack_node : Node Leaf → List ℕ
  pack_node (leaf x) = leaf_record x
  pack_node (block b m) = head_record (body_head b m) ++ pack_body b

  pub pack_body : Body Leaf → List ℕ
  pack_body (group k a) = pack a
  pack_body (binary_group k a b) = pack a ++ pack b

  pub pack : Tree → List ℕ
  pack nil = []
  pack (cons n l) = pack_node n ++ pack l

-- Reading a record back. A field that the kind does not use is not looked at, and kind 15 is taken for a pause.
abbrev pub family_at : ℕ → ℕ → Span
family_at offset size = pick (eqb size 0) nowhere (span offset size)

unfoldable pub head_of : List ℕ → Head
head_of fields =
    let small = get_or fields 0 0 in
    let n = get_or fields 1 0 in
    let n' = get_or fields 2 0 in
    let m = from_bits 32 (get_or fields 3 0) in
    let other = get_or fields 4 0 in
    let family = family_at (get_or fields 5 0) (get_or fields 6 0) in
    let constraints = pick (eqb (small % 2) 1) (some (span (get_or fields 7 0) (get_or fields 8 0))) none in
    let low = other / 65536 in
    let high = other % 65536 in
    let set = span (get_or fields 9 0) (get_or fields 10 0) in
    let c = get_or fields 11 0 in
    let layers = get_or (no_layers ∷ single_layer low ∷ layer_range low high ∷ layer_set set ∷ []) (small / 2 % 4) no_layers in
    get_or
    (group_head Simple n m c  -- 0
    ∷ group_head Macro n m c  -- 1
    ∷ group_head Simultaneous n m c  -- 2
    ∷ group_head Niss n m c  -- 3
    ∷ binary_head Commutator n n' m c  -- 4
    ∷ binary_head Conjugate n n' m c  -- 5
    ∷ leaf_head (rotation family constraints m)  -- 6
    ∷ leaf_head (move (eqb (small / 8 % 2) 1) layers family constraints m)  -- 7
    ∷ leaf_head pause  -- 8
    ∷ leaf_head (pair m (from_bits 32 other))  -- 9
    ∷ leaf_head slash  -- 10
    ∷ leaf_head (megaminx Rpp)  -- 11
    ∷ leaf_head (megaminx Rmm)  -- 12
    ∷ leaf_head (megaminx Dpp)  -- 13
    ∷ leaf_head (megaminx Dmm)  -- 14
    ∷ [])
    (small / 16)
    (leaf_head pause)

abbrev pub head_at : List ℕ → Head
head_at bs = head_of (cut widths (take RECORD bs))

-- Reading a tree back; k is at least the number of records. Step counts are not looked at: packing writes them anew.
abbrev pub open_head : Head → (ℕ → Tree) → (ℕ → ℕ → Tree) → (ℕ → Tree) → Tree
open_head (leaf_head x) first second rest = cons (leaf x) (rest 0)
open_head (group_head g n m c) first second rest = cons (block (group g (first n)) m) (rest n)
open_head (binary_head g n n' m c) first second rest = cons (block (binary_group g (first n) (second n n')) m) (rest (n + n'))

unfoldable pub unpack_from : ℕ → List ℕ → Tree
unpack_from zero bs = nil
unpack_from (suc k) [] = nil
unpack_from (suc k) (b ∷ bs) =
    open_head (head_at (b ∷ bs))
    (λ n. unpack_from k (take (RECORD * n) (drop RECORD (b ∷ bs))))
    (λ n n'. unpack_from k (take (RECORD * n') (drop (RECORD + RECORD * n) (b ∷ bs))))
    (λ n. unpack_from k (drop (RECORD + RECORD * n) (b ∷ bs)))

abbrev pub unpack : List ℕ → Tree
unpack bs = unpack_from (length bs) bs
