-- Well-formed trees clause by clause, in document 01's words and order, over the fields of the records as they stand.
-- `well_formed` (specs/WellFormed) says the same by what packing writes, which is what proofs work with:
-- crates/clause_laws/proofs/Same.antt, `same`, shows that both are equal, whatever the text and the tree.
use Rattle.std.specs.Prelude.{ℕ, zero, suc, ◌+◌, ◌*◌, ◌/◌, ◌%◌, max, Bool, true, not, ◌&&◌, ◌||◌, List, [], ◌∷◌, leb, ltb, eqb, nat_abs, length, get_or, take, drop}
use Rattle.notation.specs.Basics.{pick, between, every}
use Rattle.notation.specs.Chars.{is_family_char}
use Rattle.notation.specs.Utf8.{run}
use Rattle.notation.specs.Layers.{MAX-LAYER}
use Rattle.notation.specs.Tree.{Span, span, part_of}
use Rattle.notation.specs.Packed.{widths, RECORD, cut}
use Rattle.notation.specs.Numbers.{from_bits, MIN-BITS}
use Rattle.notation.specs.Counts.{cap}
use Rattle.notation.specs.Meaning.{constraints_in, layer_set_in}
use Rattle.notation.specs.WellFormed.{MAX-NESTING, is_some, inside}

-- the fields of a record, in the order of `widths`, and those of each of the first k records
abbrev pub Fields : Type 0
Fields = List ℕ

unfoldable pub fields_of : ℕ → List ℕ → List Fields
fields_of zero bs = []
fields_of (suc k) bs = cut widths (take RECORD bs) ∷ fields_of k (drop RECORD bs)

-- The fields by name; the first byte holds four of them.
abbrev pub kind : Fields → ℕ
kind r = get_or r 0 0 / 16

abbrev pub tilde : Fields → ℕ
tilde r = get_or r 0 0 / 8 % 2

abbrev pub form : Fields → ℕ
form r = get_or r 0 0 / 2 % 4

abbrev pub present : Fields → ℕ
present r = get_or r 0 0 % 2

abbrev pub first : Fields → ℕ
first r = get_or r 1 0

abbrev pub second : Fields → ℕ
second r = get_or r 2 0

abbrev pub number : Fields → ℕ
number r = get_or r 3 0

abbrev pub other : Fields → ℕ
other r = get_or r 4 0

abbrev pub low : Fields → ℕ
low r = other r / 65536

abbrev pub high : Fields → ℕ
high r = other r % 65536

abbrev pub family : Fields → Span
family r = span (get_or r 5 0) (get_or r 6 0)

abbrev pub constraints : Fields → Span
constraints r = span (get_or r 7 0) (get_or r 8 0)

abbrev pub set : Fields → Span
set r = span (get_or r 9 0) (get_or r 10 0)

abbrev pub count : Fields → ℕ
count r = get_or r 11 0

-- Which fields a record uses.
abbrev pub is_group : Fields → Bool
is_group r = leb (kind r) 5

abbrev pub is_binary : Fields → Bool
is_binary r = between 4 5 (kind r)

abbrev pub is_rotation : Fields → Bool
is_rotation r = eqb (kind r) 6

abbrev pub is_move : Fields → Bool
is_move r = eqb (kind r) 7

abbrev pub is_pair : Fields → Bool
is_pair r = eqb (kind r) 9

-- groups, rotations and moves
abbrev pub has_multiplier : Fields → Bool
has_multiplier r = leb (kind r) 7

abbrev pub has_family : Fields → Bool
has_family r = is_rotation r || is_move r

abbrev pub has_constraints : Fields → Bool
has_constraints r = eqb (present r) 1

abbrev pub is_single : Fields → Bool
is_single r = eqb (form r) 1

-- a single layer or a range
abbrev pub has_layers : Fields → Bool
has_layers r = between 1 2 (form r)

abbrev pub has_set : Fields → Bool
has_set r = eqb (form r) 3

-- kinds 0 to 14
abbrev pub kind_ok : Fields → Bool
kind_ok r = leb (kind r) 14

-- unused fields 0, and so is an empty family's offset
abbrev pub zero_unless : Bool → ℕ → Bool
zero_unless used n = used || eqb n 0

abbrev pub nowhere_unless : Bool → Span → Bool
nowhere_unless used p = zero_unless used p.offset && zero_unless used p.size

abbrev pub unused_ok : Fields → Bool
unused_ok r =
    zero_unless (is_move r) (tilde r)
    && zero_unless (is_move r) (form r)
    && zero_unless (has_family r) (present r)
    && zero_unless (is_group r) (first r)
    && zero_unless (is_binary r) (second r)
    && zero_unless (has_multiplier r || is_pair r) (number r)
    && zero_unless (is_pair r || has_layers r) (other r)
    && nowhere_unless (has_family r) (family r)
    && zero_unless (not (eqb (family r).size 0)) (family r).offset
    && nowhere_unless (has_constraints r) (constraints r)
    && nowhere_unless (has_set r) (set r)

-- parts inside the text
abbrev pub parts_inside : List ℕ → Fields → Bool
parts_inside text r = inside text (family r) && inside text (constraints r) && inside text (set r)

-- each group's lists ending inside the list that holds it; k is at least the number of records
unfoldable pub lists_end : ℕ → List Fields → Bool
lists_end zero rs = true
lists_end (suc k) [] = true
lists_end (suc k) (r ∷ rs) =
    leb (first r + second r) (length rs)
    && lists_end k (take (first r) rs)  -- the first list
    && lists_end k (take (second r) (drop (first r) rs))  -- the second
    && lists_end k (drop (first r + second r) rs)  -- what follows

-- how many groups (kinds 0 to 5) stand one inside another; k as above
unfoldable pub groups_deep : ℕ → List Fields → ℕ
groups_deep zero rs = 0
groups_deep (suc k) [] = 0
groups_deep (suc k) (r ∷ rs) =
    max
    (pick (is_group r) 1 0 + max (groups_deep k (take (first r) rs)) (groups_deep k (take (second r) (drop (first r) rs))))
    (groups_deep k (drop (first r + second r) rs))

-- single and range layers from 1 to 32,767 with low not above high (equal in a single)
abbrev pub layers_in_range : Fields → Bool
layers_in_range r =
    not (has_layers r)
    || leb 1 (low r) && leb (low r) (high r) && leb (high r) MAX-LAYER && (not (is_single r) || eqb (low r) (high r))

-- multipliers other than −2147483648
abbrev pub multiplier_in_range : Fields → Bool
multiplier_in_range r = not (has_multiplier r && eqb (number r) MIN-BITS)

-- families of family characters (empty only in a rotation)
abbrev pub family_reads : List ℕ → Fields → Bool
family_reads text r =
    eqb (run is_family_char (part_of text (family r))) (family r).size && (not (is_move r) || leb 1 (family r).size)

-- layer and constraint parts that the grammar reads under all features
abbrev pub parts_read : List ℕ → Fields → Bool
parts_read text r =
    (not (has_set r) || is_some (layer_set_in (part_of text (set r))))
    && (not (has_constraints r) || is_some (constraints_in (part_of text (constraints r))))

-- Document 02, request 2: each record has its own step count, a group's repeats included, and one above 4,294,967,295 is 4,294,967,296.
-- How many times a group plays its contents, and a NISS group never
abbrev pub repeats : Fields → ℕ
repeats r = pick (eqb (kind r) 3) 0 (nat_abs (from_bits 32 (number r)))

-- once: A B A' B' of a commutator, A B A' of a conjugate, else the one list
abbrev pub contents : Fields → (a b : ℕ) → ℕ
contents r a b = pick (eqb (kind r) 4) (2 * (a + b)) (pick (eqb (kind r) 5) (2 * a + b) a)

-- a record whose lists have a and b steps; a leaf is one
abbrev pub steps_of : Fields → (a b : ℕ) → ℕ
steps_of r a b = pick (is_group r) (repeats r * contents r a b) 1

-- the steps of a list; k as above
unfoldable pub steps_in : ℕ → List Fields → ℕ
steps_in zero rs = 0
steps_in (suc k) [] = 0
steps_in (suc k) (r ∷ rs) =
    steps_of r (steps_in k (take (first r) rs)) (steps_in k (take (second r) (drop (first r) rs)))
    + steps_in k (drop (first r + second r) rs)

unfoldable pub counts_ok : ℕ → List Fields → Bool
counts_ok zero rs = true
counts_ok (suc k) [] = true
counts_ok (suc k) (r ∷ rs) =
    eqb (count r) (cap (steps_of r (steps_in k (take (first r) rs)) (steps_in k (take (second r) (drop (first r) rs)))))
    && counts_ok k (take (first r) rs)
    && counts_ok k (take (second r) (drop (first r) rs))
    && counts_ok k (drop (first r + second r) rs)

-- "A well-formed tree has ..": whether each clause holds
unfoldable pub clause_by_clause : List ℕ → List ℕ → List Bool
clause_by_clause text tree =
    let rs = fields_of (length tree / RECORD) tree in
    every (λ b. ltb b 256) tree  -- it is a run of bytes
    ∷ eqb (length tree % RECORD) 0  -- a length that is a multiple of 38
    ∷ every kind_ok rs
    ∷ every unused_ok rs
    ∷ every (parts_inside text) rs
    ∷ lists_end (length rs) rs
    ∷ leb (groups_deep (length rs) rs) MAX-NESTING  -- at most 64 groups one inside another
    ∷ every layers_in_range rs
    ∷ every multiplier_in_range rs
    ∷ every (family_reads text) rs
    ∷ every (parts_read text) rs
    ∷ counts_ok (length rs) rs
    ∷ []

-- .. and that all do
abbrev pub clauses : List ℕ → List ℕ → Bool
clauses text tree = every (λ holds. holds) (clause_by_clause text tree)
