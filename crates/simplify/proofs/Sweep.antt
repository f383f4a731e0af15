-- The runs of a table as a walk over it meets them: entry by entry, and as bytes. Assumes nothing.
use Prim.Native.Nat.{ℕ, zero, suc, ◌+◌, ◌*◌, ◌≤◌, ◌<◌, min, max}
use mathlib.Core.Path.{◌≡◌, refl, sym, ap, ◌∙◌}
use mathlib.Core.Bool.{Bool, true, false, not}
use mathlib.Core.List.{List, [], ◌∷◌, ◌++◌, append_assoc}
use native.Mathlib.Omega.{arith}
use native.Mathlib.Numerals.{add-one}
use lib.Dec.{eqb, leb}
use lib.ListN.{length, take, drop, get_or, drop_of_length-le, length-append, length-drop, take-append-drop}
use lib.Seq.{get_or-drop, drop-cons, sets, sets-eq, take_at, drop-append-add, drop-drop, length-take-le}
use borrow.Author.Tests.{ltb-true, ltb-false, eqb-true, eqb-false, ne_eqb, le-leb, lt-leb}
use Rattle.std.specs.Prelude.{nat_eq, nat_lt, cond, Some, None, position}
use Rattle.std.specs.List.{position_or_len}
use Rattle.notation.specs.Basics.{pick, choose}
use Rattle.notation.specs.Layers.{Range, touching, joined, join_from, join}
use Rattle.notation.specs.Numbers.{big_endian, digits}
use Rattle.notation.specs.Entries.{range_bytes}
use Rattle.numbers.proofs.BigEndian.{length-big_endian, sets-append}
use Rattle.simplify.specs.Reach.{range_from, ranges, runs_from, Reaches, IsNextStart, written}

pub positive : (x : ℕ) → (x ≡ 0 → ⊥) → 0 < x
positive zero h = absurd (h refl)
positive (suc x) h = omega arith

-- ── one entry after another ──

module _ (s : List ℕ) (i : ℕ) (inside : i < length s) where
  none-starts : get_or s i 0 ≡ 0 → ranges i (drop i s) ≡ ranges (i + 1) (drop (i + 1) s)
  unfolding ranges
  none-starts e = rw (add-one i, drop-cons s i 0 inside, e)

  one-starts : 0 < get_or s i 0 → ranges i (drop i s) ≡ range_from i (get_or s i 0) ∷ ranges (i + 1) (drop (i + 1) s)
  unfolding ranges
  one-starts h = rw (add-one i, drop-cons s i 0 inside, ne_eqb (get_or s i 0) 0 (λ e. omega arith))

  pub skipped : get_or s i 0 ≡ 0 → runs_from s i ≡ runs_from s (i + 1)
  skipped e = ap join (none-starts e)

-- ── where the next range begins ──

-- how many entries stand before the first at which one does
abbrev pub idle : List ℕ → ℕ
idle reach = position_or_len (λ far. not (nat_eq far 0)) reach

passed : (i : ℕ) (s : List ℕ) → ranges i s ≡ ranges (i + idle s) (drop (idle s) s)
unfolding ranges
passed i [] = refl
passed i (zero ∷ s) =
    let one : 1 + idle s ≡ suc (idle s) = omega arith in
    let e : i + suc (idle s) ≡ suc i + idle s = omega arith in
    rw (one, e) (passed (suc i) s)
passed i (suc far ∷ s) =
    let here : idle (suc far ∷ s) ≡ 0 = rw (ne_eqb (suc far) 0 (λ h. omega arith)) in
    let e : i + 0 ≡ i = omega arith in
    rw (here, e)

begins : (s : List ℕ) → idle s < length s → 0 < get_or s (idle s) 0
begins [] h = absurd (omega arith)
begins (zero ∷ s) h = let one : 1 + idle s ≡ suc (idle s) = omega arith in rw one (begins s (omega (arith, one)))
begins (suc far ∷ s) h = let some-far : 0 < suc far = omega arith in rw (ne_eqb (suc far) 0 (λ h. omega arith)) some-far

-- the place that a search finds
found : (s : List ℕ) (k : ℕ) → Some k ≡ position (λ far. not (nat_eq far 0)) s → (k ≡ idle s) × (idle s < length s)
found s k e = go (nat_lt (idle s) (length s)) refl e where
  some-none : Some k ≡ None → ⊥
  some-none e = cc

  go : (t : Bool) → nat_lt (idle s) (length s) ≡ t → Some k ≡ cond t (Some (idle s)) None → (k ≡ idle s) × (idle s < length s)
  go true f e = (cc, ltb-true (idle s) (length s) f)
  go false f e = absurd (some-none e)

none-found : (s : List ℕ) → None ≡ position (λ far. not (nat_eq far 0)) s → length s ≤ idle s
none-found s e = go (nat_lt (idle s) (length s)) refl e where
  none-some : None ≡ Some (idle s) → ⊥
  none-some e = cc

  go : (t : Bool) → nat_lt (idle s) (length s) ≡ t → None ≡ cond t (Some (idle s)) None → length s ≤ idle s
  go true f e = absurd (none-some e)
  go false f e = ltb-false (idle s) (length s) f

module _ (s rest : List ℕ) (at : ℕ) (e : rest ≡ drop at s) where
  pub next-starts : (k : ℕ) → Some k ≡ position (λ far. not (nat_eq far 0)) rest → IsNextStart s at (at + k)
  next-starts k f =
      let h = found (drop at s) k (rw e at f) in
      let inside : at + k < length s = omega (arith, h.0, h.1, length-drop at s) in
      record {
        later = omega arith;
        same = ap join (passed at (drop at s) ∙ rw (← h.0, drop-drop k at s));
        inside = inside;
        starts = rw (← get_or-drop at s k 0, h.0) (begins (drop at s) h.1);
      }

  pub none-start : None ≡ position (λ far. not (nat_eq far 0)) rest → runs_from s at ≡ []
  unfolding ranges join
  none-start f = ap join (passed at (drop at s)) ∙ rw (drop_of_length-le (drop at s) (none-found (drop at s) (rw e at f)))

-- a run from `low` that reaches to `high` so far, and the entries from i on
abbrev pub open-run : List ℕ → ℕ → ℕ → ℕ → List Range
open-run s low high i = join_from (range_from low high) (ranges i (drop i s))

pub opens : (s : List ℕ) (low : ℕ) → low < length s → 0 < get_or s low 0 → open-run s low (get_or s low 0) (low + 1) ≡ runs_from s low
unfolding join
opens s low inside h = rw (one-starts s low inside h)

module _ (s : List ℕ) (low high i : ℕ) where
  pub grows : Reaches s → low ≤ high → low < i → i ≤ high + 1 → i < length s →
      open-run s low high i ≡ open-run s low (max high (get_or s i 0)) (i + 1)
  unfolding join_from
  grows r ordered later near inside = go (eqb (get_or s i 0) 0) refl where
    go : (t : Bool) → eqb (get_or s i 0) 0 ≡ t → open-run s low high i ≡ open-run s low (max high (get_or s i 0)) (i + 1)
    go true e =
        let none : get_or s i 0 ≡ 0 = eqb-true (get_or s i 0) 0 e in
        let same : max high (get_or s i 0) ≡ high = omega arith in
        rw (none-starts s i inside none, same)
    go false e =
        let some-far : 0 < get_or s i 0 = positive (get_or s i 0) (eqb-false (get_or s i 0) 0 e) in
        let far : i ≤ get_or s i 0 = r.far i some-far in
        let same : min low i ≡ low = omega arith in
        let touches : leb (max low i) (min high (get_or s i 0) + 1) ≡ true = le-leb (max low i) (min high (get_or s i 0) + 1) (omega arith) in
        rw (one-starts s i inside some-far, touches, same)

  apart : (t : List ℕ) (i : ℕ) → high + 1 < i → join_from (range_from low high) (ranges i t) ≡ range_from low high ∷ join (ranges i t)
  unfolding ranges join_from join
  apart [] i h = refl
  apart (e ∷ t) i h = go (eqb e 0) (apart t (suc i) (omega arith)) where
    go : (b : Bool) →
        join_from (range_from low high) (ranges (suc i) t) ≡ range_from low high ∷ join (ranges (suc i) t) →
        join_from (range_from low high) (pick b (ranges (suc i) t) (range_from i e ∷ ranges (suc i) t))
        ≡ range_from low high ∷ join (pick b (ranges (suc i) t) (range_from i e ∷ ranges (suc i) t))
    go true f = f
    go false f = rw (lt-leb (max low i) (min high e + 1) (omega arith))

  pub ends : i ≤ high + 2 → high + 1 < i → open-run s low high i ≡ range_from low high ∷ runs_from s (high + 2)
  ends h k =
      let same : i ≡ high + 2 = omega arith in
      rw (← same) (apart (drop i s) i k)

  pub ends-with-table : i ≤ high + 2 → length s ≤ i → open-run s low high i ≡ range_from low high ∷ runs_from s (high + 2)
  unfolding ranges join_from join
  ends-with-table h k = rw (drop_of_length-le s k, drop_of_length-le s (let m : length s ≤ high + 2 = omega arith in m))

pub no-runs : (s : List ℕ) (i : ℕ) → length s ≤ i → runs_from s i ≡ []
unfolding ranges join
no-runs s i h = rw (drop_of_length-le s h)

-- each run begins at an entry of its own
join-shorter : (r : Range) (l : List Range) → length (join_from r l) ≤ suc (length l)
unfolding join_from
join-shorter r [] = omega arith
join-shorter r (a ∷ l) = go (touching r a) (join-shorter (joined r a) l) (join-shorter a l) where
  go : (t : Bool) →
      length (join_from (joined r a) l) ≤ suc (length l) →
      length (join_from a l) ≤ suc (length l) →
      length (choose t (λ _. join_from (joined r a) l) (λ _. r ∷ join_from a l)) ≤ suc (suc (length l))
  go true h k = omega (arith, h)
  go false h k = omega (arith, k)

ranges-shorter : (i : ℕ) (s : List ℕ) → length (ranges i s) ≤ length s
unfolding ranges
ranges-shorter i [] = omega arith
ranges-shorter i (far ∷ s) = go (eqb far 0) (ranges-shorter (suc i) s) where
  go : (t : Bool) → length (ranges (suc i) s) ≤ length s → length (pick t (ranges (suc i) s) (range_from i far ∷ ranges (suc i) s)) ≤ suc (length s)
  go true h = omega (arith, h)
  go false h = omega (arith, h)

pub runs-shorter : (s : List ℕ) (i : ℕ) → length (runs_from s i) ≤ length s
unfolding join
runs-shorter s i = go (ranges i (drop i s)) (ranges-shorter i (drop i s)) where
  go : (l : List Range) → length l ≤ length (drop i s) → length (join l) ≤ length s
  go [] h = omega arith
  go (r ∷ l) h = omega (arith, h, join-shorter r l, length-drop i s)

-- ── as bytes ──

pub two_fields : (out out₁ out₂ : List ℕ) (at a b : ℕ) →
    out₁ ≡ sets out at (big_endian 2 a) →
    out₂ ≡ sets out₁ (at + 2) (big_endian 2 b) →
    out₂ ≡ sets out at (big_endian 2 a ++ big_endian 2 b)
two_fields out out₁ out₂ at a b p q =
    q ∙ rw p (ap (λ (n : ℕ). sets (sets out at (big_endian 2 a)) (at + n) (big_endian 2 b)) (sym (length-big_endian 2 a)) ∙ sets-append out at (big_endian 2 a) (big_endian 2 b))

-- four bytes for each range
pub length-range_bytes : (l : List Range) → length (range_bytes l) ≡ 4 * length l
unfolding range_bytes digits
length-range_bytes [] = refl
length-range_bytes (r ∷ l) = omega (arith, length-range_bytes l)

range_bytes-append : (a b : List Range) → range_bytes (a ++ b) ≡ range_bytes a ++ range_bytes b
unfolding range_bytes
range_bytes-append [] b = refl
range_bytes-append (r ∷ a) b = rw (range_bytes-append a b) (simp append_assoc)

module _ (out : List ℕ) where
  pub none_written : (at : ℕ) → written out at [] ≡ out
  unfolding range_bytes
  none_written at = let e : at + 4 * 0 ≡ at = omega arith in rw e (take-append-drop at out)

  pub all-written : (l : List Range) → written out 0 l ≡ range_bytes l ++ drop (4 * length l) out
  all-written l = let e : 0 + 4 * length l ≡ 4 * length l = omega arith in rw e

  -- a range is written over four bytes
  pub write-one : (at : ℕ) (r : Range) → at + 4 ≤ length out → sets out at (big_endian 2 r.low ++ big_endian 2 r.high) ≡ written out at (r ∷ [])
  unfolding range_bytes
  write-one at r room =
      let bytes = big_endian 2 r.low ++ big_endian 2 r.high in
      let four : length bytes ≡ 4 = length-append (big_endian 2 r.low) (big_endian 2 r.high) ∙ rw (length-big_endian 2 r.low, length-big_endian 2 r.high) in
      sets-eq bytes out at (omega arith) ∙ rw four (simp append_assoc)

  -- more ranges behind those that are written
  pub written_on : (at : ℕ) (a b : List Range) → at + 4 * length a ≤ length out → written (written out at a) (at + 4 * length a) b ≡ written out at (a ++ b)
  written_on at a b room =
      let front : length (take at out ++ range_bytes a) ≡ at + 4 * length a =
      length-append (take at out) (range_bytes a) ∙ rw (length-range_bytes a, length-take-le at out (omega arith)) in
      let parted : written out at a ≡ (take at out ++ range_bytes a) ++ drop (at + 4 * length a) out = simp append_assoc in
      let kept : take (at + 4 * length a) (written out at a) ≡ take at out ++ range_bytes a =
      ap (take (at + 4 * length a)) parted ∙ take_at (take at out ++ range_bytes a) (drop (at + 4 * length a) out) (at + 4 * length a) front in
      let past : drop (at + 4 * length a + 4 * length b) (written out at a) ≡ drop (at + 4 * length a + 4 * length b) out =
      ap (λ (n : ℕ). drop (n + 4 * length b) (written out at a)) (sym front)
      ∙ ap (drop (length (take at out ++ range_bytes a) + 4 * length b)) parted
      ∙ drop-append-add (take at out ++ range_bytes a) (drop (at + 4 * length a) out) (4 * length b)
      ∙ drop-drop (4 * length b) (at + 4 * length a) out in
      let sum : at + 4 * length (a ++ b) ≡ at + 4 * length a + 4 * length b = omega (arith, length-append a b) in
      rw (kept, past, sum, range_bytes-append a b) (simp append_assoc)

  pub one_written : (at : ℕ) (r : Range) (l : List Range) (out' : List ℕ) → at + 4 * suc (length l) ≤ length out →
      out' ≡ sets out at (big_endian 2 r.low ++ big_endian 2 r.high) → written out' (at + 4) l ≡ written out at (r ∷ l)
  one_written at r l out' room e =
      let here : out' ≡ written out at (r ∷ []) = e ∙ write-one at r (omega arith) in
      rw here (written_on at (r ∷ []) l (omega arith))
