-- Ranges as bytes, each low and high of 16 bits big-endian, read one after another.
use Rattle.std.specs.Prelude.{ℕ, zero, suc, ◌+◌, ◌*◌, ◌≤◌, ◌≡◌, Bool, List, [], ◌∷◌, ◌++◌, map, length, take, drop, Result}
use Rattle.notation.specs.Numbers.{from_big_endian}
use Rattle.notation.specs.Entries as rule
use Rattle.notation.specs.declared.refusals.Refusal.{Refusal}
use Rattle.layer.specs.Meaning as meaning
use Rattle.layer.specs.declared.range.LayerRange.{LayerRange}

-- the k-th of them
abbrev pub range_at : List ℕ → ℕ → LayerRange
range_at bytes k = record {
  min = record { 0 = from_big_endian (take 2 (drop (4 * k) bytes)) };
  max = record { 0 = from_big_endian (take 2 (drop (4 * k + 2) bytes)) };
}

-- n of them from the k-th on
abbrev pub ranges_from : List ℕ → (n k : ℕ) → List LayerRange
ranges_from bytes zero k = []
ranges_from bytes (suc n) k = range_at bytes k ∷ ranges_from bytes n (suc k)

-- how many an answer says: none where it is a refusal
abbrev pub range_count : Result ℕ Refusal → ℕ
range_count r = rule.value (rule.outcome r)

-- the answer for a run of `room` ranges, with the ranges that it says as bytes: written over the front of any such run they are the rule's
pub record Resolved (text tree : List ℕ) (k n : ℕ) (neg : Bool) (room : ℕ) (r : Result ℕ Refusal) (bytes : List ℕ) : Type 0 where
  pub enough : range_count r ≤ room
  pub inside : 4 * range_count r ≤ length bytes
  pub same : (zs : List LayerRange) → length zs ≡ room →
      rule.lent r (map meaning.range (ranges_from bytes (range_count r) 0 ++ drop (range_count r) zs))
      ≡ rule.simplify text tree k n neg (map meaning.range zs)
