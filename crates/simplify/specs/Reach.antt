-- The table that the ranges of a set are gathered in: entry i is how far the ranges reach that begin at layer i, 0 where none does.
use Rattle.std.specs.Prelude.{ℕ, suc, ◌+◌, ◌*◌, ◌≤◌, ◌<◌, max, ◌≡◌, List, [], ◌∷◌, ◌++◌, eqb, leb, length, take, drop, get_or, set, Option, Some, None, MatchOption}
use Rattle.notation.specs.Basics.{pick}
use Rattle.notation.specs.Layers.{Range, join, simplified}
use Rattle.notation.specs.Entries.{range_bytes}
use Rattle.layer.specs.declared.range.LayerRange.{LayerRange}
use Rattle.layer.specs.Meaning.{range}

abbrev pub range_from : ℕ → ℕ → Range
range_from low high = record { low = low; high = high }

-- one more range
abbrev pub marked : Range → List ℕ → List ℕ
marked r reach = set reach r.low (max (get_or reach r.low 0) r.high)

-- more ranges, in their order
unfoldable pub marked_all : List Range → List ℕ → List ℕ
marked_all [] reach = reach
marked_all (r ∷ l) reach = marked_all l (marked r reach)

-- the ranges of a table, by their low ends; its first entry is that of layer i
unfoldable pub ranges : ℕ → List ℕ → List Range
ranges i [] = []
ranges i (high ∷ reach) = pick (eqb high 0) (ranges (suc i) reach) (range_from i high ∷ ranges (suc i) reach)

-- those from layer i on, joined
abbrev pub runs_from : List ℕ → ℕ → List Range
runs_from reach i = join (ranges i (drop i reach))

-- a range reaches its own low end
pub record Reaches (reach : List ℕ) : Type 0 where
  pub far : (i : ℕ) → 0 < get_or reach i 0 → i ≤ get_or reach i 0

-- no range begins from one place on up to the other, and there one does
pub record IsNextStart (reach : List ℕ) (at next : ℕ) : Type 0 where
  pub later : at ≤ next
  pub same : runs_from reach at ≡ runs_from reach next
  pub inside : next < length reach
  pub starts : 0 < get_or reach next 0

-- the next place from one on where a range begins, or none where none does
abbrev pub NextStart : List ℕ → (at : ℕ) → Option ℕ → Type 0
NextStart reach at found = MatchOption found (runs_from reach at ≡ []) (λ next. IsNextStart reach at next)

-- the first run from `low` on goes from there to `high`, and the next begins beyond the layer after it
pub record IsRun (reach : List ℕ) (low high : ℕ) : Type 0 where
  pub ordered : low ≤ high
  pub run : runs_from reach low ≡ range_from low high ∷ runs_from reach (high + 2)

-- the table of a list of ranges on an axis of n layers: what the code asks of it, and what it gives
pub record Gathered (n : ℕ) (l : List Range) (reach : List ℕ) : Type 0 where
  pub reaches : Reaches reach
  pub size : length reach ≡ n + 1
  pub runs : runs_from reach 0 ≡ simplified l

-- The table turned over: each layer that no range has is a range of its own. Its first entry is that of layer i, and the ranges
-- that begin before reach to `far`.
unfoldable pub turned_over : (far i : ℕ) → List ℕ → List ℕ
turned_over far i [] = []
turned_over far i (high ∷ reach) = pick (leb i (max far high)) 0 i ∷ turned_over (max far high) (suc i) reach

-- a range, if there is one
abbrev pub listed : Option LayerRange → List Range
listed (Some r) = range r ∷ []
listed None = []

-- the layers from `low` to `high`, if there are such layers
abbrev pub some_from : ℕ → ℕ → List Range
some_from low high = pick (leb low high) (range_from low high ∷ []) []

-- the bytes with these ranges written from `at` on
abbrev pub written : List ℕ → ℕ → List Range → List ℕ
written out at l = take at out ++ (range_bytes l ++ drop (at + 4 * length l) out)
