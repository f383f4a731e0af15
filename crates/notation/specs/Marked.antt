-- The marked items ◆ of document 01, as one group. The theorem is `marked` in proofs/Marked.antt.
use Rattle.std.specs.Prelude.{ℕ, ◌≡◌, true, List, [], ◌∷◌, map}
use Prim.Native.String.{String}
use Rattle.notation.specs.Features.{MAXIMAL}
use Rattle.notation.specs.Layers.{Range}
use Rattle.notation.specs.Refusals.{Outcome, refusal, result, ◌>>=◌}
use Rattle.notation.specs.Meaning.{step_of}
use Rattle.notation.specs.Print.{put, put_step}
use Rattle.notation.specs.Entries.{reading, steps, count_steps, layer_ranges}

abbrev pub ascii : String → List ℕ
ascii s = put s []

-- a text's count, and its steps as printed, under MAXIMAL
unfoldable pub step_count : String → Outcome ℕ
step_count s = do tree ← reading MAXIMAL (ascii s); count_steps (ascii s) tree

unfoldable pub listed : String → Outcome (List (List ℕ))
listed s = do
  tree ← reading MAXIMAL (ascii s)
  l ← steps (ascii s) tree
  result (map (λ x. put_step (step_of (ascii s) x) []) l)

abbrev pub as_listed : List String → Outcome (List (List ℕ))
as_listed l = result (map ascii l)

-- the layers of a text's first record, negatives allowed
unfoldable pub ranges : String → ℕ → Outcome (List Range)
ranges s n = do tree ← reading MAXIMAL (ascii s); layer_ranges (ascii s) tree 0 n true

abbrev pub from : ℕ → ℕ → Range
from a b = record { low = a; high = b }

pub record Marked : Type 0 where
  pub empty : step_count "" ≡ result 0
  pub commutator : listed "[R, U]" ≡ as_listed ("R" ∷ "U" ∷ "R'" ∷ "U'" ∷ [])
  pub commutator_inverted : listed "[R, U]'" ≡ as_listed ("U" ∷ "R" ∷ "U'" ∷ "R'" ∷ [])
  pub conjugate_inverted : listed "[R: U2 F]'" ≡ as_listed ("R" ∷ "F'" ∷ "U2'" ∷ "R'" ∷ [])
  pub group_twice_inverted : listed "(R U')2'" ≡ as_listed ("U" ∷ "R'" ∷ "U" ∷ "R'" ∷ [])
  pub niss_not_reached : step_count "(^(R))0" ≡ result 0
  pub least_number : listed "(-2147483648,0)" ≡ as_listed ("(-2147483648, 0)" ∷ [])
  pub greatest_multiplier : listed "R2147483647'" ≡ as_listed ("R2147483647'" ∷ [])
  pub multiplier_too_large : step_count "R2147483648'" ≡ refusal 4
  pub most_steps : step_count "((R)65535)65537" ≡ result 4294967295
  pub set_of_layers : ranges "{1,3,2,-1}R" 5 ≡ result (from 1 3 ∷ from 5 5 ∷ [])
  pub range_cut_off : ranges "{2..9}R" 3 ≡ result (from 2 3 ∷ [])
  pub range_too_deep : ranges "{5..9}R" 3 ≡ result []
