-- The rules for layers in the form in which the code goes through their cases. Assumes nothing.
use Prim.Native.Nat.{ℕ, zero, suc, ◌-◌, ◌≤◌, ◌<◌}
use mathlib.Core.Path.{◌≡◌, refl, sym, ap}
use mathlib.Core.Bool.{Bool, true, false, not, ◌&&◌, ◌||◌}
use mathlib.Core.Option.{none, some}
use native.Mathlib.Omega.{arith}
use lib.Dec.{leb}
use lib.IntN.{ℤ, pos, negsuc}
use borrow.Author.Tests.{leb-true, leb-false, le-ltb, lt-ltb}
use Rattle.notation.specs.Basics.{pick}
use Rattle.notation.specs.Layers as rule
use Rattle.notation.specs.Layers.{Range, MAX-LAYER, range_between}
use Rattle.layer.specs.Meaning as meaning
use Rattle.layer.specs.Meaning.{with_sign, LayerUpTo, RangeUpTo, resolve_unclamped, same_side}
use Rattle.layer.specs.declared.count.UnclampedLayer.{UnclampedLayer}
use Rattle.layer.specs.declared.count.UnclampedLayer.TheVariants.{BeyondShallowest, Concrete, BeyondDeepest, Invalid}

-- ── signs ──

positive-with : (negative : Bool) (i : ℕ) → 1 ≤ i → not negative ≡ meaning.is_positive (with_sign negative i)
positive-with negative zero h = absurd (omega arith)
positive-with true (suc i) h = refl
positive-with false (suc i) h = refl

pick_same : {A : Type 0} (a : Bool) (x : A) → x ≡ pick a x x
pick_same true x = refl
pick_same false x = refl

-- ── ranges ──

pub range-up-to : (n i j : ℕ) → LayerUpTo n i → LayerUpTo n j → RangeUpTo n (rule.range_of i j)
range-up-to n i j p q = omega arith

-- ── ranges of an axis ──

-- what the rule asks of an end, told by the end as the code has it
record Told (n : ℕ) (neg : Bool) (i : ℤ) (e : UnclampedLayer) : Type 0 where
  nearest : meaning.nearest n e ≡ rule.range_end n neg i
  deep : same_side BeyondDeepest e ≡ rule.too_deep n i
  shallow : same_side BeyondShallowest e ≡ pick neg (rule.too_shallow n i) false

told : (n : ℕ) (neg : Bool) (i : ℤ) → Told n neg i (resolve_unclamped n neg i)
told n neg (pos i) = go (leb i n) refl where
  go : (t : Bool) → leb i n ≡ t →
      Told n neg (pos i) (meaning.unclamped (pick t (some i) none) (pick (meaning.is_positive (pos i)) BeyondDeepest (pick neg BeyondShallowest Invalid)))
  go true e =
      let h : i ≤ n = leb-true i n e in
      record { nearest = ap some (omega arith); deep = sym (le-ltb n i h); shallow = pick_same neg false }
  go false e =
      let h : n < i = leb-false i n e in
      rw (← positive-with false i (omega arith)) (record { nearest = ap some (omega arith); deep = sym (lt-ltb n i h); shallow = pick_same neg false })
told n neg (negsuc i) = go (leb (suc i) n) refl neg where
  go : (t : Bool) → leb (suc i) n ≡ t → (neg : Bool) →
      Told n neg (negsuc i) (meaning.unclamped (pick (t && neg) (some (n - i)) none) (pick neg BeyondShallowest Invalid))
  go true e true =
      let h : suc i ≤ n = leb-true (suc i) n e in
      record { nearest = ap some (omega arith); deep = refl; shallow = sym (le-ltb n (suc i) h) }
  go false e true =
      let h : n < suc i = leb-false (suc i) n e in
      record { nearest = ap some (omega arith); deep = refl; shallow = sym (lt-ltb n (suc i) h) }
  go true e false = record { nearest = refl; deep = refl; shallow = refl }
  go false e false = record { nearest = refl; deep = refl; shallow = refl }

or-false : (a : Bool) → a ≡ (a || false)
or-false true = refl
or-false false = refl

sides : (a b : UnclampedLayer) → same_side a b ≡ (same_side BeyondDeepest a && same_side BeyondDeepest b || same_side BeyondShallowest a && same_side BeyondShallowest b)
sides BeyondShallowest b = refl
sides (Concrete i) b = refl
sides BeyondDeepest b = or-false (same_side BeyondDeepest b)
sides Invalid b = refl

-- a forbidden negative gives none, on whichever side it lies
forbidden : (n : ℕ) (neg : Bool) (i j : ℤ) →
    pick (rule.too_deep n i && rule.too_deep n j || pick neg (rule.too_shallow n i) false && pick neg (rule.too_shallow n j) false) none
    (range_between (rule.range_end n neg i) (rule.range_end n neg j))
    ≡ rule.resolve_range n neg i j
forbidden n true i j = refl
forbidden n false (pos i) j = refl
forbidden n false (negsuc i) j = pick_same (rule.too_shallow n (negsuc i) && rule.too_shallow n j) none

between_ends : (n : ℕ) (neg : Bool) (i j : ℤ) {a b : UnclampedLayer} → Told n neg i a → Told n neg j b → meaning.clamp_range n a b ≡ rule.resolve_range n neg i j
between_ends n neg i j {a} {b} p q = rw (sides a b, p.nearest, p.deep, p.shallow, q.nearest, q.deep, q.shallow) (forbidden n neg i j)

-- the code's range is the rule's, for every number of layers and every two ends, 0 included
pub clamp-range : (n : ℕ) (neg : Bool) (i j : ℤ) → meaning.clamp_range n (resolve_unclamped n neg i) (resolve_unclamped n neg j) ≡ rule.resolve_range n neg i j
clamp-range n neg i j = between_ends n neg i j (told n neg i) (told n neg j)
