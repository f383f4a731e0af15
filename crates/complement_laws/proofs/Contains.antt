-- The layers that ranges have: sorting and joining keep them, and the others are those from 1 to n that are left over. Assumes nothing.
use Prim.Native.Nat.{ℕ, zero, suc, ◌+◌, ◌≤◌, ◌<◌, min, max}
use mathlib.Core.Path.{◌≡◌, refl, sym, ap, ◌∙◌}
use mathlib.Core.Bool.{Bool, true, false, not, ◌&&◌, ◌||◌}
use mathlib.Core.List.{List, [], ◌∷◌}
use mathlib.Core.Option.{none, some}
use native.Mathlib.Omega.{arith}
use lib.Dec.{eqb, leb}
use borrow.Author.Tests.{eqb-true, eqb-false, leb-true, leb-false, le-leb}
use Rattle.notation.specs.Basics.{pick, choose, between}
use Rattle.notation.specs.Layers.{Range, before, insert, sort, touching, joined, join_from, join, simplified, contains, others_from, keep, alone}
use Rattle.notation.proofs.Bools.{below, above}
use Rattle.layer.specs.Meaning.{RangeUpTo}
use Rattle.complement_laws.proofs.Sorted.{All, nothing, ◌and◌, all-sort}

-- ── one range ──

pub has : (r : Range) (i : ℕ) → r.low ≤ i → i ≤ r.high → between r.low r.high i ≡ true
has r i p q = rw (le-leb r.low i p, le-leb i r.high q)

-- a range with a layer at least
abbrev pub Ordered : Range → Type 0
Ordered r = r.low ≤ r.high

-- a layer is in both joined, or it is not
abbrev InJoined : Range → Range → ℕ → Bool → Type 0
InJoined a b i t = between (min a.low b.low) (max a.high b.high) i ≡ t

-- two ranges that touch have, joined, the layers of both
joins : (a b : Range) (i : ℕ) → Ordered a → Ordered b → touching a b ≡ true → InJoined a b i (between a.low a.high i || between b.low b.high i)
joins a b i p q e = go (leb a.low i) (leb i a.high) (leb b.low i) (leb i b.high) refl refl refl refl where
  near : max a.low b.low ≤ min a.high b.high + 1
  near = leb-true (max a.low b.low) (min a.high b.high + 1) e

  in_both : min a.low b.low ≤ i → i ≤ max a.high b.high → InJoined a b i true
  in_both h k = has (joined a b) i h k

  go : (t u v w : Bool) → leb a.low i ≡ t → leb i a.high ≡ u → leb b.low i ≡ v → leb i b.high ≡ w → InJoined a b i (t && u || v && w)
  go true true v w f g h k = in_both (omega (arith, leb-true a.low i f)) (omega (arith, leb-true i a.high g))
  go true false true true f g h k = in_both (omega (arith, leb-true a.low i f)) (omega (arith, leb-true i b.high k))
  go true false false w f g h k = absurd (omega (arith, near, leb-false i a.high g, leb-false b.low i h))
  go true false true false f g h k = above (min a.low b.low) (max a.high b.high) i (omega (arith, leb-false i a.high g, leb-false i b.high k))
  go false u true true f g h k = in_both (omega (arith, leb-true b.low i h)) (omega (arith, leb-true i b.high k))
  go false u true false f g h k = absurd (omega (arith, near, leb-false a.low i f, leb-false i b.high k))
  go false u false w f g h k = below (min a.low b.low) (max a.high b.high) i (omega (arith, leb-false a.low i f, leb-false b.low i h))

-- ── simplified ranges ──

pub or_swap : (a b c : Bool) → (a || (b || c)) ≡ (b || (a || c))
or_swap true true c = refl
or_swap true false c = refl
or_swap false true c = refl
or_swap false false c = refl

pub or_assoc : (a b c : Bool) → (a || b || c) ≡ (a || (b || c))
or_assoc true b c = refl
or_assoc false b c = refl

module _ (i : ℕ) where
  insert-has : (a : Range) (l : List Range) → contains (insert a l) i ≡ (between a.low a.high i || contains l i)
  unfolding insert contains
  insert-has a [] = refl
  insert-has a (b ∷ l) = go (before a b) (insert-has a l) where
    go : (t : Bool) → contains (insert a l) i ≡ (between a.low a.high i || contains l i) →
        contains (pick t (a ∷ b ∷ l) (b ∷ insert a l)) i ≡ (between a.low a.high i || (between b.low b.high i || contains l i))
    go true h = refl
    go false h = rw h (or_swap (between b.low b.high i) (between a.low a.high i) (contains l i))

  sort-has : (l : List Range) → contains (sort l) i ≡ contains l i
  unfolding sort contains
  sort-has [] = refl
  sort-has (a ∷ l) = rw (insert-has a (sort l), sort-has l)

  join-has-from : (c : Range) (l : List Range) → Ordered c → All Ordered l → contains (join_from c l) i ≡ (between c.low c.high i || contains l i)
  unfolding join_from contains
  join-has-from c [] p nothing = refl
  join-has-from c (a ∷ l) p (q and h) = go (touching c a) refl (join-has-from (joined c a) l (omega (arith, p, q)) h) (join-has-from a l q h) where
    go : (t : Bool) → touching c a ≡ t →
        contains (join_from (joined c a) l) i ≡ (between (min c.low a.low) (max c.high a.high) i || contains l i) →
        contains (join_from a l) i ≡ (between a.low a.high i || contains l i) →
        contains (choose t (λ _. join_from (joined c a) l) (λ _. c ∷ join_from a l)) i
        ≡ (between c.low c.high i || (between a.low a.high i || contains l i))
    go true e f g =
        f
        ∙ ap (λ t. t || contains l i) (joins c a i p q e)
        ∙ or_assoc (between c.low c.high i) (between a.low a.high i) (contains l i)
    go false e f g = rw g

  join-has : (l : List Range) → All Ordered l → contains (join l) i ≡ contains l i
  unfolding join contains
  join-has [] nothing = refl
  join-has (a ∷ l) (p and h) = join-has-from a l p h

  pub simplified-has : (l : List Range) → All Ordered l → contains (simplified l) i ≡ contains l i
  simplified-has l h = join-has (sort l) (all-sort l h) ∙ sort-has l

  -- none beyond the axis
  pub none_below : (n : ℕ) (l : List Range) → All (RangeUpTo n) l → i < 1 → contains l i ≡ false
  unfolding contains
  none_below n [] nothing h = refl
  none_below n (r ∷ l) (p and q) h = rw (below r.low r.high i (omega (arith, p.low)), none_below n l q h)

  pub none-beyond : (n : ℕ) (l : List Range) → All (RangeUpTo n) l → n < i → contains l i ≡ false
  unfolding contains
  none-beyond n [] nothing h = refl
  none-beyond n (r ∷ l) (p and q) h = rw (above r.low r.high i (omega (arith, p.high)), none-beyond n l q h)

-- ── the others ──

module _ (l : List Range) where
  abbrev layer : ℕ → Range
  layer j = record { low = j; high = j }

  pub others-up-to : (n j m : ℕ) → 1 ≤ j → j + m ≤ n + 1 → All (RangeUpTo n) (others_from j m l)
  unfolding others_from
  others-up-to n j zero p q = nothing
  others-up-to n j (suc m) p q = go (contains l j) (others-up-to n (suc j) m (omega arith) (omega arith)) where
    go : (t : Bool) → All (RangeUpTo n) (others_from (suc j) m l) → All (RangeUpTo n) (keep (pick t none (alone (some j))) (others_from (suc j) m l))
    go true h = h
    go false h = let r : RangeUpTo n (layer j) = record { low = p; ordered = omega arith; high = omega arith } in r and h

  module _ (i : ℕ) where
    others-before : (j m : ℕ) → i < j → contains (others_from j m l) i ≡ false
    unfolding others_from contains
    others-before j zero p = refl
    others-before j (suc m) p = go (contains l j) (others-before (suc j) m (omega arith)) where
      go : (t : Bool) → contains (others_from (suc j) m l) i ≡ false → contains (keep (pick t none (alone (some j))) (others_from (suc j) m l)) i ≡ false
      go true h = h
      go false h = rw (below j j i p, h)

    -- a layer is one of the others where the ranges do not have it
    pub others-have : (j m : ℕ) → j ≤ i → i < j + m → contains (others_from j m l) i ≡ not (contains l i)
    unfolding others_from contains
    others-have j zero p q = absurd (omega arith)
    others-have j (suc m) p q = go (eqb i j) refl (λ h. others-have (suc j) m (omega arith) (omega arith)) where
      later : (t : Bool) → j < i → contains (others_from (suc j) m l) i ≡ not (contains l i) →
          contains (keep (pick t none (alone (some j))) (others_from (suc j) m l)) i ≡ not (contains l i)
      later true h f = f
      later false h f = rw (above j j i h, f)

      here : (t : Bool) → i ≡ j → contains l i ≡ t → contains (keep (pick t none (alone (some j))) (others_from (suc j) m l)) i ≡ not t
      here true e f = others-before (suc j) m (omega (arith, e))
      here false e f = rw (has (layer j) i (omega (arith, e)) (omega (arith, e)))

      go : (t : Bool) → eqb i j ≡ t → (j < i → contains (others_from (suc j) m l) i ≡ not (contains l i)) →
          contains (keep (pick (contains l j) none (alone (some j))) (others_from (suc j) m l)) i ≡ not (contains l i)
      go true e f =
          let same : i ≡ j = eqb-true i j e in
          rw (ap (contains l) (sym same)) (here (contains l i) same refl)
      go false e f =
          let other : i ≡ j → ⊥ = eqb-false i j e in
          let after : j < i = omega arith in
          later (contains l j) after (f after)
