-- The complement of ranges: each layer from 1 to n is in one of the two, and complementing twice gives the simplified ranges back. Assumes nothing.
use Prim.Native.Nat.{ℕ, ◌≤◌, ◌<◌}
use mathlib.Core.Path.{◌≡◌, refl, sym, ap, ◌∙◌}
use mathlib.Core.Bool.{Bool, true, false, not}
use mathlib.Core.List.{List}
use native.Mathlib.Omega.{arith}
use lib.Dec.{leb}
use borrow.Author.Tests.{leb-true, leb-false, le-leb}
use Rattle.notation.specs.Basics.{between}
use Rattle.notation.specs.Layers.{Range, simplified, contains, others, complement}
use Rattle.notation.specs.Tilde.{Opposite}
use Rattle.notation.proofs.Bools.{false-true, and_left, and_right}
use Rattle.layer.specs.Meaning.{RangeUpTo}
use Rattle.complement_laws.proofs.Sorted.{All, all-weaken}
use Rattle.complement_laws.proofs.Contains.{Ordered, simplified-has, none_below, none-beyond, others-up-to, others-have}
use Rattle.complement_laws.proofs.Apart.{Apart, simplified-apart, apart-same}

-- what holds of every layer from 1 to n, of those before and of those behind holds of all
by_place : (P : ℕ → Type 0) (n : ℕ) → ((i : ℕ) → 1 ≤ i → i ≤ n → P i) → ((i : ℕ) → i < 1 → P i) → ((i : ℕ) → n < i → P i) → (i : ℕ) → P i
by_place P n here before behind i = go (leb 1 i) (leb i n) refl refl where
  go : (t u : Bool) → leb 1 i ≡ t → leb i n ≡ u → P i
  go true true e f = here i (leb-true 1 i e) (leb-true i n f)
  go true false e f = behind i (leb-false i n f)
  go false u e f = before i (leb-false 1 i e)

ordered : {n : ℕ} {l : List Range} → All (RangeUpTo n) l → All Ordered l
ordered h = all-weaken (λ r p. p.ordered) h

module _ (n : ℕ) (l : List Range) where
  pub others-on-axis : All (RangeUpTo n) (others n l)
  others-on-axis = others-up-to l n 1 n (omega arith) (omega arith)

  complement-has : (i : ℕ) → 1 ≤ i → i ≤ n → contains (complement n l) i ≡ not (contains l i)
  complement-has i p q = simplified-has i (others n l) (ordered others-on-axis) ∙ others-have l i 1 n p (omega arith)

  complement-below : (i : ℕ) → i < 1 → contains (complement n l) i ≡ false
  complement-below i p = simplified-has i (others n l) (ordered others-on-axis) ∙ none_below i n (others n l) others-on-axis p

  complement-beyond : (i : ℕ) → n < i → contains (complement n l) i ≡ false
  complement-beyond i p = simplified-has i (others n l) (ordered others-on-axis) ∙ none-beyond i n (others n l) others-on-axis p

  -- no other ranges, by depth and apart, have the layers that are left over
  pub complement-is : (m : List Range) → Apart 1 m → ((i : ℕ) → 1 ≤ i → i ≤ n → contains m i ≡ not (contains l i)) →
      ((i : ℕ) → i < 1 → contains m i ≡ false) → ((i : ℕ) → n < i → contains m i ≡ false) → complement n l ≡ m
  complement-is m a here before behind =
      apart-same (simplified-apart n (others n l) others-on-axis) a
      (by_place (λ i. contains (complement n l) i ≡ contains m i) n
      (λ i p q. complement-has i p q ∙ sym (here i p q))
      (λ i p. complement-below i p ∙ sym (before i p))
      (λ i p. complement-beyond i p ∙ sym (behind i p)))

not-not : (t : Bool) → t ≡ not (not t)
not-not true = refl
not-not false = refl

-- The laws, of ranges that the axis has.
module _ (n : ℕ) (l : List Range) (h : All (RangeUpTo n) l) where
  simplified-here : (i : ℕ) → contains (simplified l) i ≡ contains l i
  simplified-here i = simplified-has i l (ordered h)

  simplified-below : (i : ℕ) → i < 1 → contains (simplified l) i ≡ false
  simplified-below i p = simplified-here i ∙ none_below i n l h p

  simplified-beyond : (i : ℕ) → n < i → contains (simplified l) i ≡ false
  simplified-beyond i p = simplified-here i ∙ none-beyond i n l h p

  exactly-one : (i : ℕ) → 1 ≤ i → i ≤ n → contains (complement n l) i ≡ not (contains (simplified l) i)
  exactly-one i p q = complement-has n l i p q ∙ ap not (sym (simplified-here i))

  there : complement n (simplified l) ≡ complement n l
  there = complement-is n (simplified l) (complement n l) (simplified-apart n (others n l) (others-on-axis n l)) exactly-one (complement-below n l) (complement-beyond n l)

  back : complement n (complement n l) ≡ simplified l
  back =
      complement-is n (complement n l) (simplified l) (simplified-apart n l h)
      (λ i p q. not-not (contains (simplified l) i) ∙ ap not (sym (exactly-one i p q))) simplified-below simplified-beyond

  pub opposite : Opposite n (simplified l) (complement n l)
  opposite = record {
    one = λ i e. exactly-one i (leb-true 1 i (and_left _ (leb i n) e)) (leb-true i n (and_right (leb 1 i) _ e));
    neither = λ i. by_place (λ i. between 1 n i ≡ false → (contains (simplified l) i ≡ false) × (contains (complement n l) i ≡ false)) n
        (λ i p q e. absurd (false-true (sym e ∙ rw (le-leb 1 i p, le-leb i n q))))
        (λ i p e. (simplified-below i p, complement-below n l i p))
        (λ i p e. (simplified-beyond i p, complement-beyond n l i p)) i;
    there = there;
    back = back;
  }
