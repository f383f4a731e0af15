-- Well-formed lists inside a tree: as `well_formed`, with the nesting that is left.
use Rattle.std.specs.Prelude.{ℕ, ◌+◌, ◌-◌, ◌*◌, Bool, true, ◌&&◌, List, leb, ltb, eqb, take, drop}
use Rattle.std.proofs.Math.Option.{Option, none, some}
use Rattle.notation.specs.Basics.{pick, same_list}
use Rattle.notation.specs.Tree.{Leaf, Node, leaf, block, group, binary_group, Tree}
use Rattle.notation.specs.Counts.{cap, count, stored}
use Rattle.notation.specs.Packed.{RECORD, head_record, pack, head_at, unpack, Head, leaf_head, group_head, binary_head}
use Rattle.notation.specs.WellFormed.{tree_ok, depth, leaf_ok, multiplier_ok, well_formed}

unfoldable pub formed : List ℕ → ℕ → List ℕ → Bool
formed text d bs =
    let t = unpack bs in
    same_list (pack t) bs && tree_ok text t && leb (depth t) d

-- how many steps it has, capped, if it is well formed; and a whole tree
abbrev pub formed_count : List ℕ → ℕ → List ℕ → Option ℕ
formed_count text d bs = pick (formed text d bs) (some (cap (count (unpack bs)))) none

abbrev pub well_formed_steps : List ℕ → List ℕ → Option ℕ
well_formed_steps text tree = pick (well_formed text tree) (some (cap (count (unpack tree)))) none

-- what is asked of a head beside its lists: a group is a level of nesting
abbrev pub head_ok : List ℕ → ℕ → Head → Bool
head_ok text d (leaf_head x) = leaf_ok text x
head_ok text d (group_head g n m c) = ltb 0 d && multiplier_ok m
head_ok text d (binary_head g n n' m c) = ltb 0 d && multiplier_ok m

-- The records in a head's two lists, and in both.
abbrev pub first : Head → ℕ
first (leaf_head x) = 0
first (group_head g n m c) = n
first (binary_head g n n' m c) = n

abbrev pub second : Head → ℕ
second (leaf_head x) = 0
second (group_head g n m c) = 0
second (binary_head g n n' m c) = n'

abbrev pub both : Head → ℕ
both (leaf_head x) = 0
both (group_head g n m c) = n
both (binary_head g n n' m c) = n + n'

-- The bytes of the two lists, and those after the node.
abbrev pub first_bytes : Head → List ℕ → List ℕ
first_bytes h bs = take (RECORD * first h) (drop RECORD bs)

abbrev pub second_bytes : Head → List ℕ → List ℕ
second_bytes h bs = take (RECORD * second h) (drop (RECORD + RECORD * first h) bs)

abbrev pub rest_bytes : Head → List ℕ → List ℕ
rest_bytes h bs = drop (RECORD + RECORD * both h) bs

-- the node of a head with these lists, and the first node of a run of bytes
abbrev pub node_of : Head → Tree → Tree → Node Leaf
node_of (leaf_head x) a b = leaf x
node_of (group_head g n m c) a b = block (group g a) m
node_of (binary_head g n n' m c) a b = block (binary_group g a b) m

abbrev pub first_node : List ℕ → Node Leaf
first_node bs = let h = head_at bs in node_of h (unpack (first_bytes h bs)) (unpack (second_bytes h bs))

-- whether a head stores the step count that its lists a and b come to
abbrev pub count_ok : Head → Tree → Tree → Bool
count_ok (leaf_head x) a b = true
count_ok (group_head g n m c) a b = eqb c (stored (block (group g a) m))
count_ok (binary_head g n n' m c) a b = eqb c (stored (block (binary_group g a b) m))

-- Whether the first record is what packing writes, and its node with its lists is in bounds.
abbrev pub first_ok : List ℕ → ℕ → List ℕ → Bool
first_ok text d bs =
    let h = head_at bs in
    same_list (head_record h) (take RECORD bs)
    && (head_ok text d h
    && (formed text (d - 1) (first_bytes h bs)
    && (formed text (d - 1) (second_bytes h bs)
    && count_ok h (unpack (first_bytes h bs)) (unpack (second_bytes h bs)))))

-- how many steps the first node has, capped, if it is in bounds
abbrev pub first_count : List ℕ → ℕ → List ℕ → Option ℕ
first_count text d bs = pick (first_ok text d bs) (some (stored (first_node bs))) none
