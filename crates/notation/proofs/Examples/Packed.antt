-- Packing and unpacking, on single records and a small tree.
use Prim.Native.Nat.{◌+◌}
use mathlib.Core.Path.{◌≡◌, refl}
use mathlib.Core.Bool.{true, false}
use mathlib.Core.List.{[], ◌∷◌, foldr}
use mathlib.Core.Option.{none, some}
use lib.IntN.{pos, negsuc}
use lib.ListN.{length}
use Rattle.notation.specs.Numbers.{positional, digits}
use Rattle.notation.specs.Tree.{Tree, span, leaf, block, group, binary_group, nil, cons, move, pause, pair, slash, layer_set, layer_range}
use Rattle.notation.specs.Counts.{count_node, count_body, count}
use Rattle.notation.specs.Packed.{widths, RECORD, binary_head, head_record, leaf_record, pack, pack_node, pack_body, size, node_size, body_size, unpack, unpack_from, head_of, lay_out, cut}
use Rattle.notation.specs.declared.common.GroupKind.TheVariants.{Niss}
use Rattle.notation.specs.declared.common.BinaryGroupKind.TheVariants.{Commutator}

-- the widths add up to the size of a record
size-of-a-record : foldr (λ a b. a + b) 0 widths ≡ RECORD
size-of-a-record = refl

-- `~{1}R{}2'` at the start of a text
a_move : leaf_record (move true (layer_set (span 1 3)) (span 4 1) (some (span 5 2)) (negsuc 1))
    ≡ 0x7f ∷ 0 ∷ 0 ∷ 0 ∷ 0 ∷ 0 ∷ 0 ∷ 0xff ∷ 0xff ∷ 0xff ∷ 0xfe ∷ 0 ∷ 0 ∷ 0 ∷ 0
    ∷ 0 ∷ 0 ∷ 4 ∷ 0 ∷ 0 ∷ 1 ∷ 0 ∷ 0 ∷ 5 ∷ 0 ∷ 0 ∷ 2 ∷ 0 ∷ 0 ∷ 1 ∷ 0 ∷ 0 ∷ 3 ∷ 0 ∷ 0 ∷ 0 ∷ 0 ∷ 1 ∷ []
unfolding head_record lay_out digits
a_move = refl

-- the same in a long text: offsets and lengths of 24 bits; layers, which stay at 16
a-move-far-on : (leaf_record (move true (layer_set (span 0xfffffa 3)) (span 0xfffffd 1) (some (span 0x10203 0x40506)) (negsuc 1))
    ≡ 0x7f ∷ 0 ∷ 0 ∷ 0 ∷ 0 ∷ 0 ∷ 0 ∷ 0xff ∷ 0xff ∷ 0xff ∷ 0xfe ∷ 0 ∷ 0 ∷ 0 ∷ 0
    ∷ 0xff ∷ 0xff ∷ 0xfd ∷ 0 ∷ 0 ∷ 1 ∷ 1 ∷ 2 ∷ 3 ∷ 4 ∷ 5 ∷ 6 ∷ 0xff ∷ 0xff ∷ 0xfa ∷ 0 ∷ 0 ∷ 3 ∷ 0 ∷ 0 ∷ 0 ∷ 0 ∷ 1 ∷ [])
    × (leaf_record (move false (layer_range 2 300) (span 0x10000 0xffffff) none (pos 1))
    ≡ 0x74 ∷ 0 ∷ 0 ∷ 0 ∷ 0 ∷ 0 ∷ 0 ∷ 0 ∷ 0 ∷ 0 ∷ 1 ∷ 0 ∷ 2 ∷ 1 ∷ 44
    ∷ 1 ∷ 0 ∷ 0 ∷ 0xff ∷ 0xff ∷ 0xff ∷ 0 ∷ 0 ∷ 0 ∷ 0 ∷ 0 ∷ 0 ∷ 0 ∷ 0 ∷ 0 ∷ 0 ∷ 0 ∷ 0 ∷ 0 ∷ 0 ∷ 0 ∷ 0 ∷ 1 ∷ [])
unfolding head_record lay_out digits
a-move-far-on = (refl, refl)

-- a commutator of long lists: counts of 24 bits
long-lists : head_record (binary_head Commutator 0x10203 0xffffff (pos 1) 0x100000000)
    ≡ 0x40 ∷ 1 ∷ 2 ∷ 3 ∷ 0xff ∷ 0xff ∷ 0xff ∷ 0 ∷ 0 ∷ 0 ∷ 1 ∷ 0 ∷ 0 ∷ 0 ∷ 0
    ∷ 0 ∷ 0 ∷ 0 ∷ 0 ∷ 0 ∷ 0 ∷ 0 ∷ 0 ∷ 0 ∷ 0 ∷ 0 ∷ 0 ∷ 0 ∷ 0 ∷ 0 ∷ 0 ∷ 0 ∷ 0 ∷ 1 ∷ 0 ∷ 0 ∷ 0 ∷ 0 ∷ []
unfolding head_record lay_out digits
long-lists = refl

tree : Tree
tree =
    cons (leaf pause)
    (cons (block (binary_group Commutator (cons (leaf slash) (cons (block (group Niss nil) (pos 0)) nil)) (cons (leaf (pair (negsuc 0) (negsuc 2147483647))) nil)) (negsuc 0))
    (cons (leaf (move true (layer_range 2 300) (span 0 3) none (pos 1))) nil))

there_and_back : unpack (pack tree) ≡ tree
unfolding tree pack pack_node pack_body size node_size body_size count_node count_body count head_record lay_out digits unpack_from head_of cut positional
there_and_back = refl

records : length (pack tree) ≡ 228
unfolding tree pack pack_node pack_body size node_size body_size count_node count_body count head_record lay_out digits
records = refl
