-- Layer ranges: each kind of prefix, ends out of range, negatives allowed and not, sorting and joining; and the layers that a tilde lights.
use Prim.Native.Nat.{ℕ}
use Prim.Native.String.{String}
use mathlib.Core.Path.{◌≡◌, refl}
use mathlib.Core.Bool.{Bool, true, false}
use mathlib.Core.List.{List, [], ◌∷◌, map}
use Rattle.notation.specs.Features.{MAXIMAL}
use Rattle.notation.specs.Layers.{Range}
use Rattle.notation.specs.Refusals.{Outcome, refusal, result, ◌>>=◌}
use Rattle.notation.specs.Entries.{reading, layer_ranges}
use Rattle.notation.specs.Marked.{ascii, from}
use Rattle.notation.proofs.Opened.{opened}

abbrev ranges_at : ℕ → ℕ → Bool → String → Outcome (List Range)
ranges_at k n neg s = do tree ← reading MAXIMAL (ascii s); layer_ranges (ascii s) tree k n neg

prefixes : map (ranges_at 0 5 true) ("R" ∷ "5R" ∷ "6R" ∷ "4-9R" ∷ "6-9R" ∷ "{}R" ∷ "{6}R" ∷ "{-5}R" ∷ "{-6}R" ∷ [])
    ≡ map result ((from 1 1 ∷ []) ∷ (from 5 5 ∷ []) ∷ [] ∷ (from 4 5 ∷ []) ∷ [] ∷ [] ∷ [] ∷ (from 1 1 ∷ []) ∷ [] ∷ [])
unfolding opened
prefixes = refl

-- each end beyond the shallowest, inside or beyond the deepest; then with a forbidden negative
ends : (map (ranges_at 0 5 true) ("{-9..-6}R" ∷ "{-9..2}R" ∷ "{-9..9}R" ∷ "{2..-9}R" ∷ "{2..-2}R" ∷ "{-1..-3}R" ∷ "{2..9}R" ∷ "{9..-9}R" ∷ "{9..2}R" ∷ "{7..6}R" ∷ [])
    ≡ map result ([] ∷ (from 1 2 ∷ []) ∷ (from 1 5 ∷ []) ∷ (from 1 2 ∷ []) ∷ (from 2 4 ∷ []) ∷ (from 3 5 ∷ []) ∷ (from 2 5 ∷ []) ∷ (from 1 5 ∷ []) ∷ (from 2 5 ∷ []) ∷ [] ∷ []))
    × (map (ranges_at 0 5 false) ("{-1}R" ∷ "{-1..2}R" ∷ "{-9..9}R" ∷ "{-9..-6}R" ∷ "{2..-1}R" ∷ "{2..-9}R" ∷ "{9..-1}R" ∷ "{9..2}R" ∷ []) ≡ map result ([] ∷ [] ∷ [] ∷ [] ∷ [] ∷ [] ∷ [] ∷ (from 2 5 ∷ []) ∷ []))
unfolding opened
ends = (refl, refl)

joining : map (ranges_at 0 9 true) ("{5,4,1,2}R" ∷ "{1..5,2..3}R" ∷ "{7..9,1..2,3}R" ∷ "{1,3}R" ∷ "{2,2,2}R" ∷ [])
    ≡ map result ((from 1 2 ∷ from 4 5 ∷ []) ∷ (from 1 5 ∷ []) ∷ (from 1 3 ∷ from 7 9 ∷ []) ∷ (from 1 1 ∷ from 3 3 ∷ []) ∷ (from 2 2 ∷ []) ∷ [])
unfolding opened
joining = refl

-- refusals 11 and 12, in that order; record 1 of a group is the move inside it
refusals : (map (λ n. ranges_at 0 n true "R") (0 ∷ 1 ∷ 32767 ∷ 32768 ∷ []) ≡ refusal 11 ∷ result (from 1 1 ∷ []) ∷ result (from 1 1 ∷ []) ∷ refusal 11 ∷ [])
    × (map (λ k. ranges_at k 3 true "(2R) . @") (0 ∷ 1 ∷ 2 ∷ 3 ∷ 4 ∷ []) ≡ refusal 12 ∷ result (from 2 2 ∷ []) ∷ refusal 12 ∷ refusal 12 ∷ refusal 12 ∷ [])
    × (ranges_at 7 0 true "" ≡ refusal 11)
unfolding opened
refusals = (refl, refl, refl)

-- A tilde (document 02, request 3): the request's own examples; then each form where it leaves something, nothing, and all (too deep, empty, a forbidden negative).
others : (map (λ n. ranges_at 0 n true "~2R") (5 ∷ 2 ∷ 1 ∷ []) ≡ map result ((from 1 1 ∷ from 3 5 ∷ []) ∷ (from 1 1 ∷ []) ∷ (from 1 1 ∷ []) ∷ []))
    × (map (λ n. ranges_at 0 n true "~R") (1 ∷ 2 ∷ 5 ∷ []) ≡ map result ([] ∷ (from 2 2 ∷ []) ∷ (from 2 5 ∷ []) ∷ []))
    × (ranges_at 0 3 true "~{5..9}R" ≡ result (from 1 3 ∷ []))
    × (map (ranges_at 0 4 true) ("~5R" ∷ "~4R" ∷ "~1-4R" ∷ "~2-9R" ∷ "~5-9R" ∷ "~{}R" ∷ "~{1..4}R" ∷ "~{-1}R" ∷ "~{-9..-5}R" ∷ "~{2..-9}R" ∷ [])
    ≡ map result ((from 1 4 ∷ []) ∷ (from 1 3 ∷ []) ∷ [] ∷ (from 1 1 ∷ []) ∷ (from 1 4 ∷ []) ∷ (from 1 4 ∷ []) ∷ [] ∷ (from 1 3 ∷ []) ∷ (from 1 4 ∷ []) ∷ (from 3 4 ∷ []) ∷ []))
    × (map (ranges_at 0 4 false) ("~{-1}R" ∷ "~{-1,2}R" ∷ "~{1..-1}R" ∷ []) ≡ map result ((from 1 4 ∷ []) ∷ (from 1 1 ∷ from 3 4 ∷ []) ∷ (from 1 4 ∷ []) ∷ []))
unfolding opened
others = (refl, refl, refl, refl, refl)

-- sorted and none touching, whatever the order of the set; more ranges than the set has, or fewer; the tilde of the record that is asked for, and of no other
apart : (map (ranges_at 0 7 true) ("~{6,2,4}R" ∷ "~{4,3,5..4,3}R" ∷ "~{1,7}R" ∷ "~{2..3,5..6}R" ∷ "~{1,3,5,7}R" ∷ [])
    ≡ map result ((from 1 1 ∷ from 3 3 ∷ from 5 5 ∷ from 7 7 ∷ []) ∷ (from 1 2 ∷ from 6 7 ∷ []) ∷ (from 2 6 ∷ []) ∷ (from 1 1 ∷ from 4 4 ∷ from 7 7 ∷ []) ∷ (from 2 2 ∷ from 4 4 ∷ from 6 6 ∷ []) ∷ []))
    × (map (λ k. ranges_at k 3 true "~2R (2R ~3R)'") (0 ∷ 1 ∷ 2 ∷ 3 ∷ 4 ∷ []) ≡ result (from 1 1 ∷ from 3 3 ∷ []) ∷ refusal 12 ∷ result (from 2 2 ∷ []) ∷ result (from 1 2 ∷ []) ∷ refusal 12 ∷ [])
    × (map (λ n. ranges_at 0 n true "~R") (0 ∷ 32768 ∷ []) ≡ refusal 11 ∷ refusal 11 ∷ [])
unfolding opened
apart = (refl, refl, refl)
