-- The table turned over is that of the layers that the ranges do not give, each alone. Assumes nothing.
use Prim.Native.Nat.{ℕ, zero, suc, ◌+◌, ◌≤◌, ◌<◌, max}
use mathlib.Core.Path.{◌≡◌, refl, sym, ap, ◌∙◌}
use mathlib.Core.Bool.{Bool, true, false, ◌&&◌, ◌||◌}
use mathlib.Core.List.{List, [], ◌∷◌, ◌++◌, append_assoc, append-nil}
use mathlib.Core.Option.{none, some}
use native.Mathlib.Omega.{arith}
use native.Mathlib.Numerals.{add-one}
use lib.Dec.{leb}
use lib.ListN.{length, take, drop, get_or, set, replicate, length-set, length-replicate, length-append, drop_of_length-le}
use lib.Seq.{take_all}
use borrow.Author.Tests.{leb-true, leb-false, le-leb, lt-leb}
use Rattle.notation.specs.Basics.{pick, between}
use Rattle.notation.specs.Layers.{Range, contains, others_from, others, keep, alone}
use Rattle.charsets.proofs.Bools.{or-false}
use Rattle.layer.specs.Meaning.{RangeUpTo}
use Rattle.complement_laws.proofs.Sorted.{All, nothing, ◌and◌}
use Rattle.complement_laws.proofs.Contains.{or_swap, or_assoc}
use Rattle.simplify.specs.Reach.{range_from, marked, marked_all, turned_over}
use Rattle.simplify.proofs.Table.{length_marked}

-- ── how far the ranges reach that begin at an entry or before it ──

unfoldable farthest : ℕ → List ℕ → ℕ
farthest i [] = 0
farthest zero (e ∷ s) = e
farthest (suc i) (e ∷ s) = max e (farthest i s)

farthest-zeros : (i m : ℕ) → farthest i (replicate m 0) ≡ 0
unfolding farthest
farthest-zeros i zero = refl
farthest-zeros zero (suc m) = refl
farthest-zeros (suc i) (suc m) = rw (farthest-zeros i m)

farthest-marked : (i j high : ℕ) (s : List ℕ) → j < length s → farthest i (set s j (max (get_or s j 0) high)) ≡ pick (leb j i) (max (farthest i s) high) (farthest i s)
unfolding farthest
farthest-marked i j high [] h = absurd (omega arith)
farthest-marked zero zero high (e ∷ s) h = refl
farthest-marked (suc i) zero high (e ∷ s) h = let same : max (max e high) (farthest i s) ≡ max (max e (farthest i s)) high = omega arith in rw (same, le-leb 0 (suc i) (omega arith))
farthest-marked zero (suc j) high (e ∷ s) h = rw (lt-leb (suc j) 0 (omega arith))
farthest-marked (suc i) (suc j) high (e ∷ s) h = go (leb j i) refl (farthest-marked i j high s (omega arith)) where
  go : (t : Bool) → leb j i ≡ t → farthest i (set s j (max (get_or s j 0) high)) ≡ pick t (max (farthest i s) high) (farthest i s) →
      max e (farthest i (set s j (max (get_or s j 0) high))) ≡ pick (leb (suc j) (suc i)) (max (max e (farthest i s)) high) (max e (farthest i s))
  go true f g =
      let same : max e (max (farthest i s) high) ≡ max (max e (farthest i s)) high = omega arith in
      rw (g, le-leb (suc j) (suc i) (omega (arith, leb-true j i f)), same)
  go false f g = rw (g, lt-leb (suc j) (suc i) (omega (arith, leb-false j i f)))

-- a layer is in one of the ranges where they reach it
one-reaches : (i : ℕ) (r : Range) (s : List ℕ) → r.low < length s → leb i (farthest i (marked r s)) ≡ (between r.low r.high i || leb i (farthest i s))
one-reaches i r s h = rw (farthest-marked i r.low r.high s h) (go (leb r.low i)) where
  further : (t u : Bool) → leb i r.high ≡ t → leb i (farthest i s) ≡ u → leb i (max (farthest i s) r.high) ≡ (t || u)
  further true u e f = le-leb i (max (farthest i s) r.high) (omega (arith, leb-true i r.high e))
  further false true e f = le-leb i (max (farthest i s) r.high) (omega (arith, leb-true i (farthest i s) f))
  further false false e f = lt-leb i (max (farthest i s) r.high) (omega (arith, leb-false i r.high e, leb-false i (farthest i s) f))

  go : (t : Bool) → leb i (pick t (max (farthest i s) r.high) (farthest i s)) ≡ (t && leb i r.high || leb i (farthest i s))
  go true = further (leb i r.high) (leb i (farthest i s)) refl refl
  go false = refl

all-cover : (i n : ℕ) (l : List Range) → All (RangeUpTo n) l → (s : List ℕ) → n < length s → leb i (farthest i (marked_all l s)) ≡ (contains l i || leb i (farthest i s))
unfolding marked_all contains
all-cover i n [] nothing s h = refl
all-cover i n (r ∷ l) (p and q) s h =
    all-cover i n l q (marked r s) (simp length-set h)
    ∙ ap (λ (t : Bool). contains l i || t) (one-reaches i r s (omega (arith, p.ordered, p.high)))
    ∙ or_swap (contains l i) (between r.low r.high i) (leb i (farthest i s))
    ∙ sym (or_assoc (between r.low r.high i) (contains l i) (leb i (farthest i s)))

module _ (n : ℕ) (l : List Range) where
  abbrev filled : List ℕ
  filled = marked_all l (replicate (n + 1) 0)

  reached : All (RangeUpTo n) l → (i : ℕ) → 1 ≤ i → contains l i ≡ leb i (farthest i filled)
  reached h i p =
      sym (all-cover i n l h (replicate (n + 1) 0) (omega (arith, length-replicate {A = ℕ} (n + 1) 0)) ∙ rw (farthest-zeros i (n + 1), lt-leb i 0 (omega arith)) (or-false (contains l i)))

  -- ── both tables, entry by entry ──

  -- of the m layers from i on
  unfoldable entries : ℕ → ℕ → List ℕ
  entries i zero = []
  entries i (suc m) = pick (contains l i) 0 i ∷ entries (suc i) m

  turned : (far i : ℕ) (t : List ℕ) → ((j : ℕ) → j < length t → contains l (i + j) ≡ leb (i + j) (max far (farthest j t))) → turned_over far i t ≡ entries i (length t)
  unfolding turned_over entries farthest
  turned far i [] h = refl
  turned far i (e ∷ t) h =
      let here : contains l i ≡ leb i (max far e) = let zero-first : i + 0 ≡ i = omega arith in rw zero-first at (h 0 (omega arith)) in
      rw (
        here,
        turned (max far e) (suc i) t (λ j p.
            let next : i + suc j ≡ suc i + j = omega arith in
            let same : max far (max e (farthest j t)) ≡ max (max far e) (farthest j t) = omega arith in
            rw (next, same) at (h (suc j) (omega arith))),
      )

  at-end : (front rest : List ℕ) (x v : ℕ) → set (front ++ (x ∷ rest)) (length front) v ≡ front ++ (v ∷ rest)
  at-end [] rest x v = refl
  at-end (y ∷ front) rest x v = ap (◌∷◌ y) (at-end front rest x v)

  read-end : (front rest : List ℕ) (x : ℕ) → get_or (front ++ (x ∷ rest)) (length front) 0 ≡ x
  read-end [] rest x = refl
  read-end (y ∷ front) rest x = read-end front rest x

  mark-end : (front rest : List ℕ) (i : ℕ) → length front ≡ i → marked (range_from i i) (front ++ (0 ∷ rest)) ≡ front ++ (i ∷ rest)
  mark-end front rest i e =
      let empty : get_or (front ++ (0 ∷ rest)) i 0 ≡ 0 = ap (λ (k : ℕ). get_or (front ++ (0 ∷ rest)) k 0) (sym e) ∙ read-end front rest 0 in
      let far : max (get_or (front ++ (0 ∷ rest)) i 0) i ≡ i = omega (arith, empty) in
      ap (set (front ++ (0 ∷ rest)) i) far ∙ ap (λ (k : ℕ). set (front ++ (0 ∷ rest)) k i) (sym e) ∙ at-end front rest 0 i

  one_more : (front rest : List ℕ) (x : ℕ) → front ++ (x ∷ rest) ≡ (front ++ (x ∷ [])) ++ rest
  one_more front rest x = sym (append_assoc front (x ∷ []) rest)

  others-marked : (i m : ℕ) (front : List ℕ) → length front ≡ i → marked_all (others_from i m l) (front ++ replicate m 0) ≡ front ++ entries i m
  unfolding marked_all others_from entries
  others-marked i zero front e = refl
  others-marked i (suc m) front e = go (contains l i) (λ x. others-marked (suc i) m (front ++ (x ∷ [])) (simp length-append (omega (arith, e)))) where
    go : (t : Bool) → ((x : ℕ) → marked_all (others_from (suc i) m l) ((front ++ (x ∷ [])) ++ replicate m 0) ≡ (front ++ (x ∷ [])) ++ entries (suc i) m) →
        marked_all (keep (pick t none (alone (some i))) (others_from (suc i) m l)) (front ++ (0 ∷ replicate m 0)) ≡ front ++ (pick t 0 i ∷ entries (suc i) m)
    go true h = rw (one_more front (replicate m 0) 0) (h 0) ∙ sym (one_more front (entries (suc i) m) 0)
    go false h =
        ap (marked_all (others_from (suc i) m l)) (mark-end front (replicate m 0) i e ∙ one_more front (replicate m 0) i) ∙ h i ∙ sym (one_more front (entries (suc i) m) i)

  pub turned-over : All (RangeUpTo n) l → turned_over 0 0 (marked_all l (replicate (n + 1) 0)) ≡ marked_all (others n l) (replicate (n + 1) 0)
  unfolding turned_over farthest
  turned-over h = go filled refl ∙ sym marked-others where
    marked-others : marked_all (others n l) (replicate (n + 1) 0) ≡ 0 ∷ entries 1 n
    marked-others = rw (add-one n) (others-marked 1 n (0 ∷ []) refl)

    go : (s : List ℕ) → filled ≡ s → turned_over 0 0 s ≡ 0 ∷ entries 1 n
    go [] e = absurd (omega (arith, ap length e, length_marked l (replicate (n + 1) 0), length-replicate {A = ℕ} (n + 1) 0))
    go (x ∷ t) e =
        let size : length t ≡ n = omega (arith, ap length e, length_marked l (replicate (n + 1) 0), length-replicate {A = ℕ} (n + 1) 0) in
        let first : max 0 x ≡ x = omega arith in
        let reach : (j : ℕ) → j < length t → contains l (1 + j) ≡ leb (1 + j) (max x (farthest j t)) =
        λ j p. let next : 1 + j ≡ suc j = omega arith in rw next (rw e at (reached h (suc j) (omega arith))) in
        rw (le-leb 0 (max 0 x) (omega arith), first, turned x 1 t reach, size)

-- ── one entry after another ──

-- the entry at i turned over, and those from it on
pub next-over : (far j : ℕ) (s : List ℕ) (i : ℕ) → i < length s →
    take (suc i) (set s i (pick (leb j (max far (get_or s i 0))) 0 j)) ++ turned_over (max far (get_or s i 0)) (suc j) (drop (suc i) (set s i (pick (leb j (max far (get_or s i 0))) 0 j)))
    ≡ take i s ++ turned_over far j (drop i s)
unfolding turned_over
next-over far j [] i h = absurd (omega arith)
next-over far j (e ∷ s) zero h = refl
next-over far j (e ∷ s) (suc i) h = ap (◌∷◌ e) (next-over far j s i (omega arith))

pub all-over : (far i : ℕ) (s : List ℕ) → length s ≤ i → take i s ++ turned_over far i (drop i s) ≡ s
unfolding turned_over
all-over far i s h = rw (drop_of_length-le s h, take_all i s h) (append-nil s)
