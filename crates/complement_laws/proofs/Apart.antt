-- Ranges by depth with a layer at least between one and the next: simplified ranges are so; such ranges are few, and are told by the layers that they have. Assumes nothing.
use Prim.Native.Nat.{ℕ, ◌+◌, ◌*◌, ◌≤◌, ◌<◌, min, max}
use mathlib.Core.Path.{◌≡◌, refl, sym, ◌∙◌}
use mathlib.Core.Bool.{Bool, true, false}
use mathlib.Core.List.{List, [], ◌∷◌}
use native.Mathlib.Omega.{arith}
use lib.Dec.{ltb}
use lib.ListN.{length}
use borrow.Author.Tests.{leb-false, ltb-true, ltb-false}
use Rattle.notation.specs.Basics.{choose}
use Rattle.notation.specs.Layers.{Range, sort, touching, joined, join_from, join, simplified, contains}
use Rattle.notation.proofs.Bools.{false-true, below, above}
use Rattle.layer.specs.Meaning.{RangeUpTo}
use Rattle.complement_laws.proofs.Sorted.{All, nothing, ◌and◌, Deeper, Sorted, empty, first, all-weaken, all-sort, sort_sorted}
use Rattle.complement_laws.proofs.Contains.{has}

-- the first begins at layer k or deeper
pub data Apart : ℕ → List Range → Type 0 where
  last : {k : ℕ} → Apart k []
  next : {k : ℕ} {r : Range} {l : List Range} → k ≤ r.low → r.low ≤ r.high → Apart (r.high + 2) l → Apart k (r ∷ l)

-- ── simplified ranges are apart ──

joined-apart : (k : ℕ) (c : Range) (l : List Range) → k ≤ c.low → c.low ≤ c.high → Sorted l → All (Deeper c.low) l → Apart k (join_from c l)
unfolding join_from Deeper
joined-apart k c [] p q empty nothing = next p q last
joined-apart k c (a ∷ l) p q (first ordered d s) (deep and ds) = go (touching c a) refl
    (joined-apart k (joined c a) l (omega (arith, deep.0)) (omega (arith, q, ordered)) s (all-weaken (λ r w. (omega (arith, w.0), w.1)) ds))
    (λ gap. joined-apart (c.high + 2) a l gap ordered s d)
  where
    go : (t : Bool) → touching c a ≡ t → Apart k (join_from (joined c a) l) → (c.high + 2 ≤ a.low → Apart (c.high + 2) (join_from a l)) →
        Apart k (choose t (λ _. join_from (joined c a) l) (λ _. c ∷ join_from a l))
    go true e i j = i
    go false e i j =
        let gap : min c.high a.high + 1 < max c.low a.low = leb-false (max c.low a.low) (min c.high a.high + 1) e in
        next p q (j (omega (arith, gap, deep.0, q, ordered)))

join_apart : (n : ℕ) (l : List Range) → All (RangeUpTo n) l → Sorted l → Apart 1 (join l)
unfolding join
join_apart n [] nothing empty = last
join_apart n (a ∷ l) (p and h) (first ordered d s) = joined-apart 1 a l p.low ordered s d

pub simplified-apart : (n : ℕ) (l : List Range) → All (RangeUpTo n) l → Apart 1 (simplified l)
simplified-apart n l h = join_apart n (sort l) (all-sort l h) (sort_sorted n l h)

-- ── on an axis of n layers they are few ──

joined-on-axis : (n : ℕ) (c : Range) (l : List Range) → RangeUpTo n c → All (RangeUpTo n) l → All (RangeUpTo n) (join_from c l)
unfolding join_from
joined-on-axis n c [] p nothing = p and nothing
joined-on-axis n c (a ∷ l) p (q and h) = go (touching c a)
    (joined-on-axis n (joined c a) l
    (record { low = omega (arith, p.low, q.low); ordered = omega (arith, p.ordered, q.ordered); high = omega (arith, p.high, q.high) }) h)
    (joined-on-axis n a l q h)
  where
    go : (t : Bool) → All (RangeUpTo n) (join_from (joined c a) l) → All (RangeUpTo n) (join_from a l) →
        All (RangeUpTo n) (choose t (λ _. join_from (joined c a) l) (λ _. c ∷ join_from a l))
    go true i j = i
    go false i j = p and j

join-on-axis : (n : ℕ) (l : List Range) → All (RangeUpTo n) l → All (RangeUpTo n) (join l)
unfolding join
join-on-axis n [] nothing = nothing
join-on-axis n (a ∷ l) (p and h) = joined-on-axis n a l p h

pub simplified-on-axis : (n : ℕ) (l : List Range) → All (RangeUpTo n) l → All (RangeUpTo n) (simplified l)
simplified-on-axis n l h = join-on-axis n (sort l) (all-sort l h)

-- each takes up a layer and the one after it
pub apart-few : (n : ℕ) {k : ℕ} {l : List Range} → Apart k l → All (RangeUpTo n) l → k ≤ n + 2 → k + 2 * length l ≤ n + 2
apart-few n last nothing h = omega arith
apart-few n (next p q a) (r and rs) h = omega (arith, p, q, apart-few n a rs (omega (arith, r.high)))

-- ── they are told by their layers ──

-- none begins before layer k
pub shallow : {k : ℕ} {l : List Range} → Apart k l → (i : ℕ) → i < k → contains l i ≡ false
unfolding contains
shallow last i h = refl
shallow {l = r ∷ l} (next p q a) i h = rw (below r.low r.high i (omega (arith, p)), shallow a i (omega (arith, p, q)))

-- two lists have the same layers
abbrev Same : List Range → List Range → Type 0
Same l m = (i : ℕ) → contains l i ≡ contains m i

module _ {r s : Range} {l m : List Range} (a : Apart (r.high + 2) l) (b : Apart (s.high + 2) m) (p : r.low ≤ r.high) (q : s.low ≤ s.high) (same : Same (r ∷ l) (s ∷ m)) where
  -- the other does not begin later
  no-later : s.low ≤ r.low
  unfolding contains
  no-later = go (ltb r.low s.low) refl where
    go : (t : Bool) → ltb r.low s.low ≡ t → s.low ≤ r.low
    go false e = ltb-false r.low s.low e
    go true e =
        let before : r.low < s.low = ltb-true r.low s.low e in
        let mine : contains (r ∷ l) r.low ≡ true = rw (has r r.low (omega arith) p) in
        let others : contains (s ∷ m) r.low ≡ false = rw (below s.low s.high r.low before, shallow b r.low (omega arith)) in
        absurd (false-true (sym others ∙ sym (same r.low) ∙ mine))

  -- nor does it end later, where it begins with this one
  no_longer : s.low ≡ r.low → s.high ≤ r.high
  unfolding contains
  no_longer h = go (ltb r.high s.high) refl where
    go : (t : Bool) → ltb r.high s.high ≡ t → s.high ≤ r.high
    go false e = ltb-false r.high s.high e
    go true e =
        let before : r.high < s.high = ltb-true r.high s.high e in
        let mine : contains (r ∷ l) (r.high + 1) ≡ false = rw (above r.low r.high (r.high + 1) (omega arith), shallow a (r.high + 1) (omega arith)) in
        let others : contains (s ∷ m) (r.high + 1) ≡ true = rw (has s (r.high + 1) (omega arith) (omega arith)) in
        absurd (false-true (sym mine ∙ same (r.high + 1) ∙ others))

  -- and behind the first both have the same layers
  behind : s.high ≡ r.high → Same l m
  unfolding contains
  behind h i = go (ltb r.high i) refl where
    go : (t : Bool) → ltb r.high i ≡ t → contains l i ≡ contains m i
    go true e =
        let after : r.high < i = ltb-true r.high i e in
        let mine : contains (r ∷ l) i ≡ contains l i = rw (above r.low r.high i after) in
        let others : contains (s ∷ m) i ≡ contains m i = rw (above s.low s.high i (omega (arith, h))) in
        sym mine ∙ same i ∙ others
    go false e =
        let before : i ≤ r.high = ltb-false r.high i e in
        shallow a i (omega arith) ∙ sym (shallow b i (omega (arith, h)))

pub apart-same : {k : ℕ} {l m : List Range} → Apart k l → Apart k m → Same l m → l ≡ m
unfolding contains
apart-same last last same = refl
apart-same {m = s ∷ m} last (next p q b) same = absurd (false-true (same s.low ∙ rw (has s s.low (omega arith) q)))
apart-same {l = r ∷ l} (next p q a) last same = absurd (false-true (sym (same r.low) ∙ rw (has r r.low (omega arith) q)))
apart-same {l = r ∷ l} {m = s ∷ m} (next p q a) (next p' q' b) same =
    let back : Same (s ∷ m) (r ∷ l) = λ i. sym (same i) in
    let low : s.low ≡ r.low = omega (arith, no-later a b q q' same, no-later b a q' q back) in
    let high : s.high ≡ r.high = omega (arith, no_longer a b q q' same low, no_longer b a q' q back (sym low)) in
    let rest : l ≡ m = apart-same (rw high a) b (behind a b q q' same high) in
    λ j. record { low = sym low j; high = sym high j } ∷ rest j
