-- The runs of the table in which ranges are gathered are the ranges simplified: gathering puts the ranges in the order of their low
-- ends and joins those that share one, and no order of gathering changes the table. Assumes nothing.
use Prim.Native.Nat.{ℕ, zero, suc, ◌+◌, ◌≤◌, ◌<◌, min, max}
use mathlib.Core.Path.{◌≡◌, refl, sym, ap, ◌∙◌}
use mathlib.Core.Bool.{Bool, true, false}
use mathlib.Core.List.{List, [], ◌∷◌}
use native.Mathlib.Omega.{arith}
use native.Mathlib.Numerals.{add-one}
use lib.Dec.{eqb, ltb, leb}
use lib.ListN.{length, get_or, set, replicate, length-set, length-replicate}
use lib.Seq.{get_or-set_same, get_or-set_other, set-set, set_comm, set_out}
use borrow.Author.Tests.{eqb-true, eqb-false, ltb-true, ltb-false, leb-true, leb-false, eq-eqb, ne_eqb, lt-ltb, le-ltb, le-leb, lt-leb}
use Rattle.notation.specs.Basics.{pick, choose}
use Rattle.notation.specs.Layers.{Range, before, insert, sort, touching, joined, join_from, join, simplified}
use Rattle.layer.specs.Meaning.{RangeUpTo}
use Rattle.complement_laws.proofs.Sorted.{All, nothing, ◌and◌, Deeper, Sorted, empty, first, all-weaken, all-sort, sort_sorted}
use Rattle.simplify.specs.Reach.{range_from, marked, marked_all, ranges, runs_from, Reaches, Gathered}

-- ── the order of gathering ──

-- the table of a list, gathered from its end
table : ℕ → List Range → List ℕ
table n [] = replicate n 0
table n (r ∷ l) = marked r (table n l)

same-entry : (s : List ℕ) (i h k : ℕ) →
    set (set s i (max (get_or s i 0) h)) i (max (get_or (set s i (max (get_or s i 0) h)) i 0) k) ≡ set s i (max (max (get_or s i 0) h) k)
same-entry s i h k = go (ltb i (length s)) refl where
  go : (t : Bool) → ltb i (length s) ≡ t →
      set (set s i (max (get_or s i 0) h)) i (max (get_or (set s i (max (get_or s i 0) h)) i 0) k) ≡ set s i (max (max (get_or s i 0) h) k)
  go true e =
      let inside : i < length s = ltb-true i (length s) e in
      rw (get_or-set_same s i (max (get_or s i 0) h) 0 inside, set-set)
  go false e =
      let outside : length s ≤ i = ltb-false i (length s) e in
      rw (set_out s i (max (get_or s i 0) h) outside, set_out s i (max (get_or s i 0) k) outside, set_out s i (max (max (get_or s i 0) h) k) outside)

marked-comm : (a b : Range) (s : List ℕ) → marked a (marked b s) ≡ marked b (marked a s)
marked-comm a b s = go (eqb a.low b.low) refl where
  go : (t : Bool) → eqb a.low b.low ≡ t → marked a (marked b s) ≡ marked b (marked a s)
  go true e =
      let same : a.low ≡ b.low = eqb-true a.low b.low e in
      let order : max (max (get_or s b.low 0) b.high) a.high ≡ max (max (get_or s b.low 0) a.high) b.high = omega arith in
      rw (same, same-entry s b.low b.high a.high, same-entry s b.low a.high b.high, order)
  go false e =
      let other : a.low ≡ b.low → ⊥ = eqb-false a.low b.low e in
      rw (
        get_or-set_other s b.low a.low (max (get_or s b.low 0) b.high) 0 other,
        get_or-set_other s a.low b.low (max (get_or s a.low 0) a.high) 0 (λ h. other (sym h)),
      )
      (set_comm s b.low a.low (max (get_or s b.low 0) b.high) (max (get_or s a.low 0) a.high) (λ h. other (sym h)))

marked-first : (l : List Range) (a : Range) (s : List ℕ) → marked_all l (marked a s) ≡ marked a (marked_all l s)
unfolding marked_all
marked-first [] a s = refl
marked-first (b ∷ l) a s = rw (marked-comm b a s) (marked-first l a (marked b s))

gathered : (n : ℕ) (l : List Range) → marked_all l (replicate n 0) ≡ table n l
unfolding marked_all table
gathered n [] = refl
gathered n (a ∷ l) = rw (marked-first l a (replicate n 0), gathered n l)

inserted : (n : ℕ) (a : Range) (l : List Range) → table n (insert a l) ≡ marked a (table n l)
unfolding insert table
inserted n a [] = refl
inserted n a (b ∷ l) = go (before a b) (inserted n a l) where
  go : (t : Bool) → table n (insert a l) ≡ marked a (table n l) →
      table n (pick t (a ∷ b ∷ l) (b ∷ insert a l)) ≡ marked a (marked b (table n l))
  go true h = refl
  go false h = rw h (marked-comm b a (table n l))

sorted-table : (n : ℕ) (l : List Range) → table n (sort l) ≡ table n l
unfolding sort table
sorted-table n [] = refl
sorted-table n (a ∷ l) = inserted n a (sort l) ∙ ap (marked a) (sorted-table n l)

-- ── ranges in the order of their low ends ──

-- into a list in that order; one with the same low end takes it up
unfoldable place : Range → List Range → List Range
place a [] = a ∷ []
place a (b ∷ l) = pick (ltb a.low b.low) (a ∷ b ∷ l) (pick (eqb a.low b.low) (joined a b ∷ l) (b ∷ place a l))

place-first : (i high k : ℕ) (s : List ℕ) → i < k → place (range_from i high) (ranges k s) ≡ range_from i high ∷ ranges k s
unfolding place ranges
place-first i high k [] h = refl
place-first i high k (e ∷ s) h = go (eqb e 0) (place-first i high (suc k) s (omega arith)) where
  go : (t : Bool) →
      place (range_from i high) (ranges (suc k) s) ≡ range_from i high ∷ ranges (suc k) s →
      place (range_from i high) (pick t (ranges (suc k) s) (range_from k e ∷ ranges (suc k) s))
      ≡ range_from i high ∷ pick t (ranges (suc k) s) (range_from k e ∷ ranges (suc k) s)
  go true f = f
  go false f = rw (lt-ltb i k h)

-- a mark is a range put in its place
ranges-marked : (i j high : ℕ) (s : List ℕ) → j < length s → 0 < high →
    ranges i (set s j (max (get_or s j 0) high)) ≡ place (range_from (i + j) high) (ranges i s)
unfolding place ranges
ranges-marked i j high [] h p = absurd (omega arith)
ranges-marked i zero high (e ∷ s) h p =
    let here : i + 0 ≡ i = omega arith in
    rw (here, ne_eqb (max e high) 0 (λ z. let f : max e high ≡ 0 = z in omega arith)) (go (eqb e 0) refl)
  where
    go : (t : Bool) → eqb e 0 ≡ t →
        range_from i (max e high) ∷ ranges (suc i) s ≡ place (range_from i high) (pick t (ranges (suc i) s) (range_from i e ∷ ranges (suc i) s))
    go true f =
        let none : max e high ≡ high = omega (arith, eqb-true e 0 f) in
        rw (none, place-first i high (suc i) s (omega arith))
    go false f =
        let same : min i i ≡ i = omega arith in
        let order : max high e ≡ max e high = omega arith in
        rw (le-ltb i i (omega arith), eq-eqb i i refl, same, order)
ranges-marked i (suc j) high (e ∷ s) h p = go (eqb e 0) (ranges-marked (suc i) j high s (omega arith) p)
  where
    go : (t : Bool) →
        ranges (suc i) (set s j (max (get_or s j 0) high)) ≡ place (range_from (suc i + j) high) (ranges (suc i) s) →
        pick t (ranges (suc i) (set s j (max (get_or s j 0) high))) (range_from i e ∷ ranges (suc i) (set s j (max (get_or s j 0) high)))
        ≡ place (range_from (i + suc j) high) (pick t (ranges (suc i) s) (range_from i e ∷ ranges (suc i) s))
    go true f =
        let there : i + suc j ≡ suc i + j = omega arith in
        rw there f
    go false f =
        let there : suc i + j ≡ i + suc j = omega arith in
        rw (le-ltb (i + suc j) i (omega arith), ne_eqb (i + suc j) i (λ z. omega arith))
        (ap (◌∷◌ (range_from i e)) (f ∙ ap (λ (k : ℕ). place (range_from k high) (ranges (suc i) s)) there))

-- all of a list, from its end
unfoldable placed : List Range → List Range
placed [] = []
placed (a ∷ l) = place a (placed l)

no-ranges : (i n : ℕ) → ranges i (replicate n 0) ≡ []
unfolding ranges
no-ranges i zero = refl
no-ranges i (suc n) = no-ranges (suc i) n

length-table : (n : ℕ) (l : List Range) → length (table n l) ≡ n
unfolding table
length-table n [] = length-replicate n 0
length-table n (a ∷ l) = simp length-set (length-table n l)

table-placed : (n : ℕ) (l : List Range) → All (RangeUpTo n) l → ranges 0 (table (suc n) l) ≡ placed l
unfolding table placed
table-placed n [] h = no-ranges 0 (suc n)
table-placed n (a ∷ l) (p and h) =
    ranges-marked 0 a.low a.high (table (suc n) l) (omega (arith, p.ordered, p.high, length-table (suc n) l)) (omega (arith, p.low, p.ordered))
    ∙ let zero-low : 0 + a.low ≡ a.low = omega arith in rw (zero-low, table-placed n l h)

-- ── sorted lists join as their placed ones do ──

all_placed : (k : ℕ) (l : List Range) → All (Deeper k) l → All (Deeper k) (placed l)
unfolding placed place Deeper
all_placed k [] nothing = nothing
all_placed k (a ∷ l) (p and h) = one (placed l) (all_placed k l h) where
  one : (l : List Range) → All (Deeper k) l → All (Deeper k) (place a l)
  one [] nothing = p and nothing
  one (b ∷ l) (q and h) = go (ltb a.low b.low) (eqb a.low b.low) (one l h) where
    go : (t u : Bool) → All (Deeper k) (place a l) → All (Deeper k) (pick t (a ∷ b ∷ l) (pick u (joined a b ∷ l) (b ∷ place a l)))
    go true u i = p and (q and h)
    go false true i =
        let d : Deeper k (joined a b) = (omega (arith, p.0, q.0), omega (arith, p.1, q.1)) in
        d and h
    go false false i = q and i

-- the next range of a join touches the one before, or begins a new one
abbrev step : Range → Range → List Range → List Range
step c a l = choose (touching c a) (λ _. join_from (joined c a) l) (λ _. c ∷ join_from a l)

touch : (a b : Range) → max a.low b.low ≤ min a.high b.high + 1 → touching a b ≡ true
touch a b h = le-leb (max a.low b.low) (min a.high b.high + 1) h

part : (a b : Range) → min a.high b.high + 1 < max a.low b.low → touching a b ≡ false
part a b h = lt-leb (max a.low b.low) (min a.high b.high + 1) h

-- a range with the low end of the next one may as well be joined with it first
step-joined : (c a b : Range) (l : List Range) → c.low ≤ c.high → a.low ≤ a.high → b.low ≤ b.high → c.low ≤ a.low → a.low ≡ b.low →
    step c (joined a b) l ≡ step c a (b ∷ l)
unfolding join_from
step-joined c a b l hc ha hb h same = go (leb a.low (c.high + 1)) refl where
  lows : min c.low (min a.low b.low) ≡ min (min c.low a.low) b.low
  lows = omega arith

  highs : max c.high (max a.high b.high) ≡ max (max c.high a.high) b.high
  highs = omega arith

  go : (t : Bool) → leb a.low (c.high + 1) ≡ t → step c (joined a b) l ≡ step c a (b ∷ l)
  go true e =
      let near : a.low ≤ c.high + 1 = leb-true a.low (c.high + 1) e in
      rw (touch c (joined a b) (omega arith), touch c a (omega arith), touch (joined c a) b (omega arith), lows, highs)
  go false e =
      let apart : c.high + 1 < a.low = leb-false a.low (c.high + 1) e in
      rw (part c (joined a b) (omega arith), part c a (omega arith), touch a b (omega arith))

step-placed : (c a : Range) (l : List Range) → c.low ≤ c.high → a.low ≤ a.high → c.low ≤ a.low → All (Deeper a.low) l →
    join_from c (place a l) ≡ step c a l
unfolding place join_from Deeper
step-placed c a [] hc ha h nothing = refl
step-placed c a (b ∷ l) hc ha h (d and ds) = go (ltb a.low b.low) refl where
  go : (t : Bool) → ltb a.low b.low ≡ t →
      join_from c (pick t (a ∷ b ∷ l) (pick (eqb a.low b.low) (joined a b ∷ l) (b ∷ place a l))) ≡ step c a (b ∷ l)
  go true e = refl
  go false e =
      let same : a.low ≡ b.low = omega (arith, ltb-false a.low b.low e, d.0) in
      rw (eq-eqb a.low b.low same) (step-joined c a b l hc ha d.1 h same)

join-placed-from : (l : List Range) → Sorted l → (c : Range) → c.low ≤ c.high → All (Deeper c.low) l → join_from c l ≡ join_from c (placed l)
unfolding placed join_from Deeper
join-placed-from [] empty c hc nothing = refl
join-placed-from (a ∷ l) (first ha d s) c hc (q and h) =
    rw (
      join-placed-from l s (joined c a) (omega (arith, hc, ha)) (all-weaken (λ r w. (omega (arith, w.0), w.1)) h),
      join-placed-from l s a ha d,
    )
    (sym (step-placed c a (placed l) hc ha q.0 (all_placed a.low l d)))

join_first : (a : Range) (l : List Range) → a.low ≤ a.high → All (Deeper a.low) l → join (place a l) ≡ join_from a l
unfolding place join join_from Deeper
join_first a [] ha nothing = refl
join_first a (b ∷ l) ha (d and ds) = go (ltb a.low b.low) refl where
  go : (t : Bool) → ltb a.low b.low ≡ t →
      join (pick t (a ∷ b ∷ l) (pick (eqb a.low b.low) (joined a b ∷ l) (b ∷ place a l))) ≡ join_from a (b ∷ l)
  go true e = refl
  go false e =
      let same : a.low ≡ b.low = omega (arith, ltb-false a.low b.low e, d.0) in
      rw (eq-eqb a.low b.low same, touch a b (omega (arith, d.1)))

join-placed : (l : List Range) → Sorted l → join l ≡ join (placed l)
unfolding placed join
join-placed [] empty = refl
join-placed (a ∷ l) (first ha d s) = join-placed-from l s a ha d ∙ sym (join_first a (placed l) ha (all_placed a.low l d))

-- The law: the runs of the table are the simplified ranges.
pub simplified-runs : (n : ℕ) (l : List Range) → All (RangeUpTo n) l → runs_from (marked_all l (replicate (suc n) 0)) 0 ≡ simplified l
simplified-runs n l h =
    rw (gathered (suc n) l, ← sorted-table (suc n) l, table-placed n (sort l) (all-sort l h)) (sym (join-placed (sort l) (sort_sorted n l h)))

-- ── what else is known of a table ──

reaches-none : (n : ℕ) → Reaches (replicate n 0)
reaches-none n = record { far = λ i h. absurd (empty n i h) } where
  empty : (n i : ℕ) → 0 < get_or (replicate n 0) i 0 → ⊥
  empty zero i h = omega arith
  empty (suc n) zero h = omega arith
  empty (suc n) (suc i) h = empty n i h

reaches-marked : (r : Range) (s : List ℕ) → r.low ≤ r.high → Reaches s → Reaches (marked r s)
reaches-marked r s ordered h = record { far = λ i. go i (eqb i r.low) refl (ltb r.low (length s)) refl } where
  v : ℕ
  v = max (get_or s r.low 0) r.high

  go : (i : ℕ) (t : Bool) → eqb i r.low ≡ t → (u : Bool) → ltb r.low (length s) ≡ u → 0 < get_or (marked r s) i 0 → i ≤ get_or (marked r s) i 0
  go i t e false f = rw (set_out s r.low v (ltb-false r.low (length s) f)) (h.far i)
  go i true e true f = λ _.
      let same : i ≡ r.low = eqb-true i r.low e in
      rw (same, get_or-set_same s r.low v 0 (ltb-true r.low (length s) f)) (omega arith)
  go i false e true f = rw (get_or-set_other s r.low i v 0 (eqb-false i r.low e)) (h.far i)

all-reach : (n : ℕ) (l : List Range) → All (RangeUpTo n) l → (s : List ℕ) → Reaches s → Reaches (marked_all l s)
unfolding marked_all
all-reach n [] nothing s r = r
all-reach n (a ∷ l) (p and h) s r = all-reach n l h (marked a s) (reaches-marked a s p.ordered r)

pub length_marked : (l : List Range) (s : List ℕ) → length (marked_all l s) ≡ length s
unfolding marked_all
length_marked [] s = refl
length_marked (a ∷ l) s = length_marked l (marked a s) ∙ length-set s a.low (max (get_or s a.low 0) a.high)

pub gathers : (n : ℕ) (l : List Range) → All (RangeUpTo n) l → (s₀ s : List ℕ) → s₀ ≡ replicate (n + 1) 0 → s ≡ marked_all l s₀ → Gathered n l s
gathers n l h s₀ s e f =
    let t : s ≡ marked_all l (replicate (suc n) 0) = f ∙ ap (marked_all l) (e ∙ ap (λ (k : ℕ). replicate k 0) (add-one n)) in
    record {
      reaches = rw t (all-reach n l h (replicate (suc n) 0) (reaches-none (suc n)));
      size = rw (t, add-one n) (length_marked l (replicate (suc n) 0) ∙ length-replicate (suc n) 0);
      runs = rw t (simplified-runs n l h);
    }
