-- The layers that one range leaves over are those before it and those after it. Assumes nothing.
use Prim.Native.Nat.{ℕ, ◌+◌, ◌-◌, ◌≤◌, ◌<◌, min}
use mathlib.Core.Path.{◌≡◌, refl, sym, ap, ◌∙◌}
use mathlib.Core.Bool.{Bool, true, false, not, ◌&&◌, ◌||◌}
use mathlib.Core.List.{List, [], ◌∷◌, ◌++◌}
use mathlib.Core.Option.{none, some}
use native.Mathlib.Omega.{arith}
use lib.Dec.{leb}
use borrow.Author.Tests.{leb-true, leb-false, le-leb, lt-leb}
use Rattle.notation.specs.Basics.{pick, between}
use Rattle.notation.specs.Layers.{Range, contains, complement, clamp_to_layer_count, keep}
use Rattle.charsets.proofs.Bools.{or-false, below, above}
use Rattle.layer.specs.Meaning.{IsRange}
use Rattle.complement_laws.proofs.Contains.{has, or_assoc}
use Rattle.complement_laws.proofs.Apart.{Apart, last, next}
use Rattle.complement_laws.proofs.Complement.{complement-is}
use Rattle.simplify.specs.Reach.{range_from, some_from}

some-has : (low high i : ℕ) → contains (some_from low high) i ≡ between low high i
unfolding contains
some-has low high i = go (leb low high) refl where
  go : (t : Bool) → leb low high ≡ t → contains (pick t (range_from low high ∷ []) []) i ≡ between low high i
  go true e = or-false (between low high i)
  go false e = sym (nothing (leb low i) refl) where
    nothing : (t : Bool) → leb low i ≡ t → (t && leb i high) ≡ false
    nothing true f = lt-leb i high (omega (arith, leb-true low i f, leb-false low high e))
    nothing false f = refl

both-have : (a b : List Range) (i : ℕ) → contains (a ++ b) i ≡ (contains a i || contains b i)
unfolding contains
both-have [] b i = refl
both-have (r ∷ a) b i = rw (both-have a b i) (sym (or_assoc (between r.low r.high i) (contains a i) (contains b i)))

some-apart : (k low high : ℕ) → (low ≤ high → k ≤ low) → Apart k (some_from low high)
some-apart k low high h = go (leb low high) refl where
  go : (t : Bool) → leb low high ≡ t → Apart k (pick t (range_from low high ∷ []) [])
  go true e = let ordered : low ≤ high = leb-true low high e in next (h ordered) ordered last
  go false e = last

two-apart : (before after n : ℕ) → (after ≤ n → before + 2 ≤ after) → 1 ≤ after → Apart 1 (some_from 1 before ++ some_from after n)
two-apart before after n h p = go (leb 1 before) refl where
  go : (t : Bool) → leb 1 before ≡ t → Apart 1 (pick t (range_from 1 before ∷ []) [] ++ some_from after n)
  go true e = next {k = 1} {r = range_from 1 before} (omega arith) (leb-true 1 before e) (some-apart (before + 2) after n h)
  go false e = some-apart 1 after n (λ _. p)

module _ (low high n : ℕ) (real : IsRange (range_from low high)) where
  -- the axis has the range, or what is left of it
  abbrev kept : List Range
  kept = keep (clamp_to_layer_count n (range_from low high)) []

  -- its layers are those of the range
  kept-has : (i : ℕ) → i ≤ n → contains kept i ≡ between low high i
  unfolding contains
  kept-has i h = go (leb low n) refl where
    cut : (t : Bool) → leb i high ≡ t → leb i (min high n) ≡ t
    cut true e = le-leb i (min high n) (omega (arith, leb-true i high e))
    cut false e = lt-leb i (min high n) (omega (arith, leb-false i high e))

    go : (t : Bool) → leb low n ≡ t → contains (keep (pick t (some (range_from low (min high n))) none) []) i ≡ between low high i
    go true e = or-false (between low (min high n) i) ∙ ap (λ (t : Bool). leb low i && t) (cut (leb i high) refl)
    go false e = sym (below low high i (omega (arith, leb-false low n e)))

  module _ (before : ℕ) (e : before ≡ min n (low - 1)) where
    short : before ≤ n
    short = omega (arith, e)

    beside-have : (i : ℕ) → contains (some_from 1 before ++ some_from (high + 1) n) i ≡ (between 1 before i || between (high + 1) n i)
    beside-have i = both-have (some_from 1 before) (some_from (high + 1) n) i ∙ rw (some-has 1 before i, some-has (high + 1) n i)

    beside : (i : ℕ) → 1 ≤ i → i ≤ n → (between 1 before i || between (high + 1) n i) ≡ not (between low high i)
    beside i p q = go (leb low i) (leb i high) refl refl where
      past : low ≤ i → before < i
      past h = omega (arith, e, real.low)

      go : (t u : Bool) → leb low i ≡ t → leb i high ≡ u → (between 1 before i || between (high + 1) n i) ≡ not (t && u)
      go true true f g = rw (above 1 before i (past (leb-true low i f)), below (high + 1) n i (omega (arith, leb-true i high g)))
      go true false f g = rw (above 1 before i (past (leb-true low i f)), has (range_from (high + 1) n) i (omega (arith, leb-false i high g)) q)
      go false u f g = rw (has (range_from 1 before) i p (omega (arith, e, leb-false low i f)))

    pub around : some_from 1 before ++ some_from (high + 1) n ≡ complement n (keep (clamp_to_layer_count n (range_from low high)) [])
    around =
        sym (complement-is n kept (some_from 1 before ++ some_from (high + 1) n)
        (two-apart before (high + 1) n (λ h. omega (arith, e, real.low, real.ordered)) (omega arith))
        (λ i p q. beside-have i ∙ beside i p q ∙ ap not (sym (kept-has i q)))
        (λ i p. beside-have i ∙ rw (below 1 before i p, below (high + 1) n i (omega arith)))
        (λ i p. beside-have i ∙ rw (above 1 before i (omega (arith, short)), above (high + 1) n i p)))
