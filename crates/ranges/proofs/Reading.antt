-- Ranges read back from their bytes. Assumes nothing.
use Prim.Native.Nat.{ℕ, suc, ◌+◌, ◌*◌, ◌<◌}
use native.Mathlib.Omega.{arith}
use mathlib.Core.Path.{◌≡◌, refl, sym, ap, ◌∙◌}
use mathlib.Core.List.{List, [], ◌∷◌, ◌++◌, map, append_assoc, cons-ne-nil, head-eq_of_cons-eq, tail-eq_of_cons-eq}
use lib.ListN.{length, take, drop}
use lib.Seq.{drop-drop}
use Rattle.notation.specs.Numbers.{digits, big_endian, from_big_endian}
use Rattle.notation.specs.Layers.{Range}
use Rattle.notation.specs.Entries.{range_bytes}
use Rattle.numbers.proofs.BigEndian.{from_big_endian-big_endian}
use Rattle.layer.specs.Meaning.{range}
use Rattle.layer.specs.declared.range.LayerRange.{LayerRange}
use Rattle.complement_laws.proofs.Sorted.{All, nothing, ◌and◌}
use Rattle.simplify.proofs.Few.{Short}
use Rattle.ranges.specs.Lent.{ranges_from}

two-of : (s : List ℕ) (n : ℕ) (rest : List ℕ) → n < 65536 → s ≡ big_endian 2 n ++ rest → from_big_endian (take 2 s) ≡ n
unfolding digits
two-of s n rest h e = rw e (from_big_endian-big_endian 2 n h)

past_two : (n : ℕ) (rest : List ℕ) → drop 2 (big_endian 2 n ++ rest) ≡ rest
unfolding digits
past_two n rest = refl

module _ (bytes rest : List ℕ) where
  pub read_back : (l : List Range) (j : ℕ) → All Short l → drop (4 * j) bytes ≡ range_bytes l ++ rest → map range (ranges_from bytes (length l) j) ≡ l
  unfolding range_bytes
  read_back [] j nothing e = refl
  read_back (r ∷ l) j (p and h) e =
      let f : drop (4 * j) bytes ≡ big_endian 2 r.low ++ (big_endian 2 r.high ++ (range_bytes l ++ rest)) = e ∙ simp append_assoc in
      let g : drop (4 * j + 2) bytes ≡ big_endian 2 r.high ++ (range_bytes l ++ rest) =
      sym (drop-drop 2 (4 * j) bytes) ∙ ap (drop 2) f ∙ past_two r.low (big_endian 2 r.high ++ (range_bytes l ++ rest)) in
      let sum : 4 * suc j ≡ 4 * j + 2 + 2 = omega arith in
      let next : drop (4 * suc j) bytes ≡ range_bytes l ++ rest =
      ap (λ (m : ℕ). drop m bytes) sum ∙ sym (drop-drop 2 (4 * j + 2) bytes) ∙ ap (drop 2) g ∙ past_two r.high (range_bytes l ++ rest) in
      let low = two-of (drop (4 * j) bytes) r.low _ p.low f in
      let high = two-of (drop (4 * j + 2) bytes) r.high _ p.high g in
      rw (low, high, read_back l (suc j) h next)

-- ── a struct read as a range ──

-- No two structs are read as one range: what the entry's contract says of ranges it says of the structs, those that are left untouched among them.
range-one : (a b : LayerRange) → range a ≡ range b → a ≡ b
range-one a b e = λ i. record { min = record { 0 = (e i).low }; max = record { 0 = (e i).high } }

pub runs-one : (s t : List LayerRange) → map range s ≡ map range t → s ≡ t
runs-one [] [] e = refl
runs-one [] (b ∷ t) e = absurd (cons-ne-nil _ _ (sym e))
runs-one (a ∷ s) [] e = absurd (cons-ne-nil _ _ e)
runs-one (a ∷ s) (b ∷ t) e = λ i. range-one a b (head-eq_of_cons-eq e) i ∷ runs-one s t (tail-eq_of_cons-eq e) i
