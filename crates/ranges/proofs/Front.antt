-- Ranges written one after another over the front of a run. Assumes nothing.
use Prim.Native.Nat.{ℕ, zero, suc, ◌+◌, ◌<◌}
use native.Mathlib.Omega.{arith}
use mathlib.Core.Path.{◌≡◌, ap, ◌∙◌}
use mathlib.Core.List.{List, [], ◌∷◌, ◌++◌}
use lib.ListN.{length, set, drop}
use Rattle.ranges.specs.Lent.{range_at, ranges_from}
use Rattle.layer.specs.declared.range.LayerRange.{LayerRange}

module _ (bytes : List ℕ) where
  -- the run once k are written
  abbrev pub front : List LayerRange → ℕ → List LayerRange
  front rs k = ranges_from bytes k 0 ++ drop k rs

  next-from : (k j : ℕ) (rs : List LayerRange) → k < length rs →
      set (ranges_from bytes k j ++ drop k rs) k (range_at bytes (j + k)) ≡ ranges_from bytes (suc k) j ++ drop (suc k) rs
  next-from k j [] h = absurd (omega arith)
  next-from zero j (r ∷ rs) h =
      let here : j + 0 ≡ j = omega arith in
      ap (λ (i : ℕ). range_at bytes i ∷ rs) here
  next-from (suc k) j (r ∷ rs) h =
      let there : j + suc k ≡ suc j + k = omega arith in
      ap (λ (i : ℕ). range_at bytes j ∷ set (ranges_from bytes k (suc j) ++ drop k rs) k (range_at bytes i)) there
      ∙ ap (◌∷◌ (range_at bytes j)) (next-from k (suc j) rs (omega arith))

  -- one more
  pub next-front : (rs : List LayerRange) (k : ℕ) → k < length rs → set (front rs k) k (range_at bytes k) ≡ front rs (k + 1)
  next-front rs k h =
      let zero-first : k ≡ 0 + k = omega arith in
      let one_more : suc k ≡ k + 1 = omega arith in
      ap (λ (i : ℕ). set (front rs k) k (range_at bytes i)) zero-first ∙ next-from k 0 rs h ∙ ap (front rs) one_more
