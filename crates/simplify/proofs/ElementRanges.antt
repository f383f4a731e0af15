-- The ranges of a set are ranges of the axis. Assumes nothing.
use Prim.Native.Nat.{ℕ, suc, ◌-◌, ◌≤◌, max}
use mathlib.Core.Path.{◌≡◌, refl}
use mathlib.Core.Bool.{Bool, true, false, ◌&&◌, ◌||◌}
use mathlib.Core.List.{List, [], ◌∷◌}
use mathlib.Core.Option.{Option, none, some}
use native.Mathlib.Omega.{arith}
use lib.IntN.{ℤ, pos, negsuc, nat_abs}
use lib.Dec.{leb}
use borrow.Author.Tests.{leb-true}
use Rattle.notation.specs.Basics.{pick, every}
use Rattle.notation.specs.Layers as rule
use Rattle.notation.specs.Layers.{LayerSetElement, single, range, Range, alone, keep}
use Rattle.layer.specs.Meaning.{IsLayer, LayerUpTo, RangeUpTo, Each}
use Rattle.layer.proofs.Laws.{range-up-to}
use Rattle.laws.proofs.Bools.{and_left, and_right}
use Rattle.laws.proofs.InRange.{element_in_range}
use Rattle.complement_laws.proofs.Sorted.{All, nothing, ◌and◌}
use Rattle.simplify.proofs.SetElements.{layer-numbers}
use Rattle.simplify.specs.Elements.{IsElement}

module _ (n : ℕ) (neg : Bool) where
  resolved : (i : ℤ) → IsLayer (nat_abs i) → Each (LayerUpTo n) (rule.resolve n neg i)
  resolved (pos i) h = go (leb i n) refl where
    go : (t : Bool) → leb i n ≡ t → Each (LayerUpTo n) (pick t (some i) none)
    go true e = record { low = h.low; high = leb-true i n e }
    go false e = tt
  resolved (negsuc i) h = go (leb (suc i) n) neg refl where
    go : (t u : Bool) → leb (suc i) n ≡ t → Each (LayerUpTo n) (pick (t && u) (some (n - i)) none)
    go true true e = let small : suc i ≤ n = leb-true (suc i) n e in record { low = omega arith; high = omega arith }
    go true false e = tt
    go false u e = tt

  module _ (some-layers : 1 ≤ n) where
    end-in : (i : ℤ) → IsLayer (nat_abs i) → Each (LayerUpTo n) (rule.range_end n neg i)
    end-in (pos i) h = record { low = omega (arith, h.low); high = omega arith }
    end-in (negsuc i) h = go neg where
      go : (t : Bool) → Each (LayerUpTo n) (pick t (some (max 1 (n - i))) none)
      go true = record { low = omega arith; high = omega arith }
      go false = tt

    range-in : (t : Bool) (a b : Option ℕ) → Each (LayerUpTo n) a → Each (LayerUpTo n) b → Each (RangeUpTo n) (pick t none (rule.range_between a b))
    range-in true a b p q = tt
    range-in false none b p q = tt
    range-in false (some i) none p q = tt
    range-in false (some i) (some j) p q = range-up-to n i j p q

    itself : (found : Option ℕ) → Each (LayerUpTo n) found → Each (RangeUpTo n) (alone found)
    itself none h = tt
    itself (some i) h = record { low = h.low; ordered = omega arith; high = h.high }

    element-range : (e : LayerSetElement) → IsElement e → Each (RangeUpTo n) (rule.element_range n neg e)
    element-range (single i) h = itself (rule.resolve n neg i) (resolved i h)
    element-range (range i j) h =
        range-in (rule.too_deep n i && rule.too_deep n j || rule.too_shallow n i && rule.too_shallow n j) (rule.range_end n neg i) (rule.range_end n neg j)
        (end-in i h.0) (end-in j h.1)

    pub set-ranges : (l : List LayerSetElement) → every element_in_range l ≡ true → All (RangeUpTo n) (rule.set_ranges n neg l)
    unfolding rule.set_ranges every
    set-ranges [] h = nothing
    set-ranges (e ∷ l) h =
        go (rule.element_range n neg e) (element-range e (layer-numbers e (and_left _ (every element_in_range l) h))) (set-ranges l (and_right (element_in_range e) _ h))
      where
        go : (r : Option Range) → Each (RangeUpTo n) r → All (RangeUpTo n) (rule.set_ranges n neg l) → All (RangeUpTo n) (keep r (rule.set_ranges n neg l))
        go none p q = q
        go (some r) p q = p and q
