-- Refusal 6: for each clause of "a well-formed tree" a tree that breaks it, next to one that keeps it, by both definitions; then trees of which one clause alone is false.
use Prim.Native.Nat.{ℕ}
use mathlib.Core.Path.{◌≡◌, refl}
use mathlib.Core.Bool.{Bool, true, false}
use mathlib.Core.List.{List, [], ◌∷◌, ◌++◌, map}
use mathlib.Core.Option.{none, some}
use lib.IntN.{pos, negsuc}
use lib.ListN.{take, set, replicate}
use Rattle.notation.specs.Tree.{span, Leaf, Tree, block, group, nil, cons, rotation, move, pause, pair, no_layers, single_layer, layer_range, layer_set}
use Rattle.notation.specs.Packed.{head_record, leaf_head, group_head, binary_head, pack}
use Rattle.notation.specs.WellFormed.{well_formed}
use Rattle.notation.specs.Clauses.{clause_by_clause, clauses}
use Rattle.notation.specs.declared.common.GroupKind.TheVariants.{Simple, Niss}
use Rattle.notation.specs.declared.common.BinaryGroupKind.TheVariants.{Commutator}
use Rattle.notation.proofs.Opened.{opened}
use Rattle.notation.proofs.Examples.Text.{bytes}

-- a text with each kind of part: the set at 1, the family at 4, constraints at 5, a Greek letter of two bytes at 12
text : List ℕ
text = bytes "~{1}R{A}2 0-β"

-- what the two definitions say, and what they both say
abbrev Verdicts : Type 0
Verdicts = Bool × Bool

ok : List ℕ → Verdicts
ok tree = (well_formed text tree, clauses text tree)

abbrev good : Verdicts
good = (true, true)

abbrev bad : Verdicts
bad = (false, false)

one : Leaf → Verdicts
one x = ok (head_record (leaf_head x))

-- length, kind, unused fields, a leaf's count, which is 1
shape : (map ok ([] ∷ head_record (leaf_head pause) ∷ take 37 (head_record (leaf_head pause)) ∷ take 30 (head_record (leaf_head pause)) ∷ (0 ∷ []) ∷ []) ≡ good ∷ good ∷ bad ∷ bad ∷ bad ∷ [])
    × (map (λ b. ok (set (head_record (leaf_head pause)) 0 b)) (0x80 ∷ 0xa0 ∷ 0xe0 ∷ 0xf0 ∷ 0x88 ∷ 0x82 ∷ 0x81 ∷ []) ≡ good ∷ good ∷ good ∷ bad ∷ bad ∷ bad ∷ bad ∷ [])
    × (map (λ i. ok (set (head_record (leaf_head pause)) i 1)) (1 ∷ 3 ∷ 4 ∷ 6 ∷ 7 ∷ 10 ∷ 11 ∷ 14 ∷ 15 ∷ 17 ∷ 18 ∷ 20 ∷ 21 ∷ 26 ∷ 27 ∷ 32 ∷ 33 ∷ 36 ∷ []) ≡ replicate 18 bad)
    × (map (λ b. ok (set (head_record (leaf_head pause)) 37 b)) (0 ∷ 1 ∷ 2 ∷ []) ≡ bad ∷ good ∷ bad ∷ [])
unfolding opened bytes text ok
shape = (refl, refl, refl, refl)

-- lists end inside the list that holds them
abbrev opening : (first second steps : ℕ) → List ℕ
opening n m c = head_record (binary_head Commutator n m (pos 1) c)

abbrev stop : List ℕ
stop = head_record (leaf_head pause)

lists : map ok
    ((opening 0 0 0) ∷ (opening 1 1 4 ++ stop ++ stop) ∷ (opening 1 1 2 ++ stop) ∷ (opening 2 0 4 ++ opening 1 0 2 ++ stop) ∷ (opening 1 1 2 ++ opening 1 0 0 ++ stop) ∷ (head_record (group_head Simple 2 (pos 1) 1) ++ stop) ∷ [])
    ≡ good ∷ good ∷ bad ∷ good ∷ bad ∷ bad ∷ []
unfolding opened bytes text ok
lists = refl

-- families: inside the text, of family characters, not empty in a move, whole characters, an empty one at offset 0
families : (map (λ p. one (move false no_layers p none (pos 1))) (span 4 1 ∷ span 4 0 ∷ span 0 1 ∷ span 4 2 ∷ span 12 2 ∷ span 12 1 ∷ span 11 1 ∷ span 13 1 ∷ span 65540 1 ∷ span 16777215 1 ∷ []) ≡ good ∷ bad ∷ bad ∷ bad ∷ good ∷ bad ∷ bad ∷ bad ∷ bad ∷ bad ∷ [])
    × (map (λ p. one (rotation p none (pos 1))) (span 0 0 ∷ span 1 0 ∷ span 6 1 ∷ []) ≡ good ∷ bad ∷ good ∷ [])
unfolding opened bytes text ok one
families = (refl, refl)

-- layers, layer and constraint parts, multipliers
parts : (map (λ l. one (move true l (span 4 1) none (pos 1))) (single_layer 1 ∷ single_layer 0 ∷ single_layer 32768 ∷ layer_range 1 32767 ∷ layer_range 2 2 ∷ layer_range 3 2 ∷ layer_range 0 2 ∷ layer_set (span 1 3) ∷ layer_set (span 5 3) ∷ layer_set (span 1 2) ∷ []) ≡ good ∷ bad ∷ bad ∷ good ∷ good ∷ bad ∷ bad ∷ good ∷ bad ∷ bad ∷ [])
    × (map (λ p. one (move false no_layers (span 4 1) (some p) (pos 1))) (span 5 3 ∷ span 1 3 ∷ span 5 4 ∷ span 5 65539 ∷ span 65541 3 ∷ []) ≡ good ∷ bad ∷ bad ∷ bad ∷ bad ∷ [])
    × (map (λ m. one (rotation (span 0 0) none m)) (negsuc 2147483646 ∷ negsuc 2147483647 ∷ []) ≡ good ∷ bad ∷ [])
    × (map (λ m. ok (head_record (group_head Simple 0 m 0))) (negsuc 2147483646 ∷ negsuc 2147483647 ∷ []) ≡ good ∷ bad ∷ [])
    × (one (pair (negsuc 2147483647) (negsuc 2147483647)) ≡ good)
unfolding opened bytes text ok one
parts = (refl, refl, refl, refl, refl)

-- 64 groups one inside another, and 65
nest : ℕ → Tree
nest ℕ.zero = nil
nest (ℕ.suc n) = cons (block (group Simple (nest n)) (pos 1)) nil

nesting : map (λ n. ok (pack (nest n))) (64 ∷ 65 ∷ []) ≡ good ∷ bad ∷ []
unfolding opened bytes text ok nest
nesting = refl

-- Trees of which one clause alone is false, each with the clause's place in `clause_by_clause`. The set stands at 0, the family at 3, constraints at 4.
short : List ℕ
short = bytes "{1}R{A}"

abbrev turn : Leaf
turn = move false no_layers (span 3 1) none (pos 1)

abbrev layered : ℕ → ℕ → List ℕ
layered low high = head_record (leaf_head (move false (layer_range low high) (span 3 1) none (pos 1)))

abbrev simple : (records times steps : ℕ) → List ℕ
simple n m c = head_record (group_head Simple n (pos m) c)

abbrev niss : (records steps : ℕ) → List ℕ
niss n c = head_record (group_head Niss n (pos 1) c)

alone : List (ℕ × List ℕ)
alone =
    (0, set (head_record (leaf_head (pair (pos 0) (pos 0)))) 10 256)  -- no byte
    ∷ (1, take 1 stop)  -- one byte
    ∷ (2, set stop 0 0xf0)  -- kind 15
    ∷ (3, set stop 0 0x88)  -- a pause with a tilde
    ∷ (3, set stop 3 1 ++ stop)  -- a pause with a list
    ∷ (3, set (head_record (group_head Simple 0 (pos 1) 0)) 6 1 ++ stop)  -- a simple group with a second list
    ∷ (3, set stop 10 1)  -- a pause with a multiplier
    ∷ (3, set (head_record (leaf_head turn)) 14 1)  -- a layer where the form says none
    ∷ (3, set (head_record (leaf_head (rotation (span 0 0) none (pos 1)))) 17 3)  -- an empty family not at 0
    ∷ (3, set (head_record (leaf_head turn)) 23 4)  -- constraints that are not present
    ∷ (3, set (head_record (leaf_head turn)) 32 1)  -- a set where the form says none
    ∷ (4, head_record (leaf_head (move false no_layers (span 3 1) (some (span 4 4)) (pos 1))))  -- constraints past the end, good up to there
    ∷ (5, opening 1 1 2 ++ stop)  -- a second list past the end
    ∷ (5, opening 1 1 2 ++ opening 1 0 0 ++ stop)  -- a group's list past the end of the first list
    ∷ (6, pack (nest 65))
    ∷ (7, layered 0 2)
    ∷ (7, layered 3 2)
    ∷ (7, layered 1 32768)
    ∷ (7, set (layered 1 2) 0 0x72)  -- a single layer, 1 and 2
    ∷ (8, head_record (leaf_head (rotation (span 0 0) none (negsuc 2147483647))))
    ∷ (8, head_record (group_head Simple 0 (negsuc 2147483647) 0))
    ∷ (9, head_record (leaf_head (move false no_layers (span 0 1) none (pos 1))))  -- no family character
    ∷ (9, head_record (leaf_head (move false no_layers (span 0 0) none (pos 1))))  -- a move without a family
    ∷ (10, head_record (leaf_head (move false (layer_set (span 4 3)) (span 3 1) none (pos 1))))  -- constraints for a layer set
    ∷ (10, head_record (leaf_head (move false no_layers (span 3 1) (some (span 0 3)) (pos 1))))  -- a layer set for constraints
    ∷ (11, set stop 37 2)  -- a leaf that counts 2
    ∷ (11, simple 1 3 2 ++ stop)  -- three times one step
    ∷ (11, simple 1 0 1 ++ stop)  -- multiplier 0
    ∷ (11, niss 1 1 ++ stop)  -- a NISS group counts 0
    ∷ (11, niss 2 0 ++ simple 1 1 0 ++ stop)  -- what is inside it has its own count
    ∷ (11, simple 2 0 0 ++ simple 1 2 1 ++ stop)  -- so has what is repeated 0 times
    ∷ (11, simple 2 1 2 ++ simple 1 2 1 ++ stop)  -- an inner group alone
    ∷ (11, opening 1 0 1 ++ stop)  -- A A'
    ∷ (11, simple 2 3 4294967297 ++ simple 1 2147483647 2147483647 ++ stop)  -- held
    ∷ []

one-false : map (λ c. clause_by_clause short c.1) alone ≡ map (λ c. set (replicate 12 true) c.0 false) alone
unfolding opened bytes short nest alone
one-false = refl
