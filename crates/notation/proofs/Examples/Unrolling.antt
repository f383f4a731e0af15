-- Unrolled lists, and the refusals that unrolling meets.
use Prim.Native.Nat.{ℕ}
use mathlib.Core.Path.{◌≡◌, refl}
use mathlib.Core.List.{[], ◌∷◌, ◌++◌, map, append-nil}
use mathlib.Core.Bool.{Bool, false}
use mathlib.Core.Option.{none}
use native.Mathlib.Omega.{arith}
use lib.IntN.{ℤ, pos, negsuc}
use Rattle.notation.specs.Features.{MAXIMAL}
use Rattle.notation.specs.Refusals.{refusal, result}
use Rattle.notation.specs.Tree.{Leaf, move, pair, no_layers, span, Node, leaf, block, group, binary_group, nil, cons, Tree}
use Rattle.notation.specs.Unroll.{copies}
use Rattle.notation.specs.Reached.{Reached, here, later, inside, in_first, in_conjugate}
use Rattle.notation.specs.Entries.{tree_in}
use Rattle.notation.specs.Marked.{ascii, listed, as_listed, step_count}
use Rattle.notation.specs.declared.common.GroupKind.TheVariants.{Simple, Niss}
use Rattle.notation.specs.declared.common.BinaryGroupKind.TheVariants.{Conjugate}
use Rattle.notation.proofs.Opened.{opened}
use Rattle.notation.proofs.Marked.{counted, length-copies}

-- a group of multiplier 0 is never entered, a NISS group that is reached is refused even at 0
reached : map step_count ("^(R)0" ∷ "(^(R))0" ∷ "[^():]0" ∷ "((-2147483648,0))'" ∷ "[(-2147483648,0): ^(R)]" ∷ "[^(R): (-2147483648,0)]'" ∷ "(-2147483648,0)" ∷ "((-2147483648,0))0'" ∷ [])
    ≡ refusal 7 ∷ result 0 ∷ result 0 ∷ refusal 8 ∷ refusal 7 ∷ refusal 7 ∷ result 1 ∷ result 0 ∷ []
unfolding opened copies
reached = refl

-- The same by the definition of reached. In `(^(R))0` the outer group is reached, and nothing inside it.
abbrev turn : ℕ → Node Leaf
turn at = leaf (move false no_layers (span at 1) none (pos 1))

abbrev niss_in : ℤ → ℕ → Node Leaf
niss_in m at = block (group Niss (cons (turn at) nil)) m

abbrev outer : Node Leaf
outer = block (group Simple (cons (niss_in (pos 1) 3) nil)) (pos 0)

not_entered : tree_in MAXIMAL (ascii "(^(R))0") ≡ result (cons outer nil)
unfolding opened
not_entered = refl

only_outer : {e : Bool} {x : Node Leaf} → Reached false (cons outer nil) e x → x ≡ outer
only_outer here = refl
only_outer (inside nonzero enters r) = absurd (nonzero refl)
only_outer {e = e} (later r) = elim r [ ]

-- in `^(R)0` the NISS group is reached
niss_at_zero : (tree_in MAXIMAL (ascii "^(R)0") ≡ result (cons (niss_in (pos 0) 2) nil))
    × Reached false (cons (niss_in (pos 0) 2) nil) false (niss_in (pos 0) 2)
unfolding opened
niss_at_zero = (refl, here)

-- in `[(-2147483648,0): R]` the pair is reached in both directions, R only forward
abbrev least : Node Leaf
least = leaf (pair (negsuc 2147483647) (pos 0))

abbrev conjugated : Tree
conjugated = cons (block (binary_group Conjugate (cons least nil) (cons (turn 18) nil)) (pos 1)) nil

both_ways : (tree_in MAXIMAL (ascii "[(-2147483648,0): R]") ≡ result conjugated) × ((e : Bool) → Reached false conjugated e least)
unfolding opened
both_ways = (refl, λ e. inside (λ (z : pos 1 ≡ pos 0). let w : ◌≡◌ {A = ℕ} 1 0 = cc in omega arith) in_first here)

one_way : {e : Bool} → Reached false conjugated e (turn 18) → e ≡ false
one_way (inside nonzero in_first (later r)) = elim r [ ]
one_way (inside nonzero in_conjugate here) = refl
one_way {e = e} (later r) = elim r [ ]
one_way {e = e} (inside nonzero in_conjugate (later r)) = elim r [ ]

-- a leaf is one step, multiplier 0 included; a pause and a slash stay as they are, `++` and `--` are exchanged
leaves : listed "(R0 . / (3,-3) R++ D-- @U2')'" ≡ as_listed ("@U2" ∷ "D++" ∷ "R--" ∷ "(-3, 3)" ∷ "/" ∷ "." ∷ "R0" ∷ [])
unfolding opened copies
leaves = refl

-- signs multiply through the depth of nesting
signs : listed "((R U)' ((F)2')')2" ≡ as_listed ("U'" ∷ "R'" ∷ "F" ∷ "F" ∷ "U'" ∷ "R'" ∷ "F" ∷ "F" ∷ [])
unfolding opened copies
signs = refl

-- a commutator in a commutator, inverted; a conjugate whose first list is a group, inverted
nested : (listed "[[R, U], F]'" ≡ as_listed ("F" ∷ "R" ∷ "U" ∷ "R'" ∷ "U'" ∷ "F'" ∷ "U" ∷ "R" ∷ "U'" ∷ "R'" ∷ []))
    × (listed "[(R U)': [F: D]2]'" ≡ as_listed ("U'" ∷ "R'" ∷ "F" ∷ "D'" ∷ "F'" ∷ "F" ∷ "D'" ∷ "F'" ∷ "R" ∷ "U" ∷ []))
unfolding opened copies
nested = (refl, refl)

-- one more step than can be counted
too_many : step_count "((R)65536)65536" ≡ refusal 9
unfolding opened
too_many =
    counted (copies 65536 (copies 65536 (move false no_layers (span 2 1) none (pos 1) ∷ []) ++ []) ++ []) 4294967296
    (simp (append-nil, length-copies))
