-- A table that is to hold what a rule says of each place: antt computes the rule's own table and compares the two, one entry after the other.
use mathlib.Core.Path.{◌≡◌}
use mathlib.Core.List.{List, [], ◌∷◌}
use Prim.Native.Nat.{ℕ, zero, suc, ◌+◌, ◌<◌}
use native.Mathlib.Nat.{add-zero, add-suc, suc-add, le_of_suc-le-suc, not-suc-le-zero}
use lib.ListN.{get_or}

-- what f says of n places from i on
abbrev pub table : (ℕ → ℕ) → ℕ → ℕ → List ℕ
table f i zero = []
table f i (suc n) = f i ∷ table f (suc i) n

pub entry : (f : ℕ → ℕ) (n i k : ℕ) → k < n → get_or (table f i n) k 0 ≡ f (i + k)
entry f zero i k h = absurd (not-suc-le-zero h)
entry f (suc n) i zero h = rw add-zero
entry f (suc n) i (suc k) h = rw (add-suc, ← suc-add i k) (entry f n (suc i) k (le_of_suc-le-suc h))
