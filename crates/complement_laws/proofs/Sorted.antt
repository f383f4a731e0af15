-- Ranges sorted by their low ends. Assumes nothing.
use Prim.Native.Nat.{ℕ, ◌≤◌}
use mathlib.Core.Path.{◌≡◌, refl}
use mathlib.Core.Bool.{Bool, true, false, ◌&&◌, ◌||◌}
use mathlib.Core.List.{List, [], ◌∷◌}
use native.Mathlib.Omega.{arith}
use lib.Dec.{eqb, ltb, leb}
use borrow.Author.Tests.{eqb-true, ltb-true, ltb-false}
use Rattle.notation.specs.Basics.{pick}
use Rattle.notation.specs.Layers.{Range, before, insert, sort}
use Rattle.layer.specs.Meaning.{RangeUpTo}

infixr 20 ◌and◌
pub data All (P : Range → Type 0) : List Range → Type 0 where
  nothing : All P []
  ◌and◌ : {r : Range} {l : List Range} → P r → All P l → All P (r ∷ l)

-- low ends are k or deeper
unfoldable pub Deeper : ℕ → Range → Type 0
Deeper k r = (k ≤ r.low) × (r.low ≤ r.high)

pub data Sorted : List Range → Type 0 where
  empty : Sorted []
  first : {a : Range} {l : List Range} → a.low ≤ a.high → All (Deeper a.low) l → Sorted l → Sorted (a ∷ l)

pub all-weaken : {P Q : Range → Type 0} {l : List Range} → ((r : Range) → P r → Q r) → All P l → All Q l
all-weaken w nothing = nothing
all-weaken {l = r ∷ l} w (p and h) = w r p and all-weaken w h

all_insert : {P : Range → Type 0} (a : Range) (l : List Range) → P a → All P l → All P (insert a l)
unfolding insert
all_insert a [] p nothing = p and nothing
all_insert {P} a (b ∷ l) p (q and h) = go (before a b) (all_insert a l p h) where
  go : (t : Bool) → All P (insert a l) → All P (pick t (a ∷ b ∷ l) (b ∷ insert a l))
  go true i = p and (q and h)
  go false i = q and i

pub all-sort : {P : Range → Type 0} (l : List Range) → All P l → All P (sort l)
unfolding sort
all-sort [] nothing = nothing
all-sort (a ∷ l) (p and h) = all_insert a (sort l) p (all-sort l h)

before-low : (a b : Range) → before a b ≡ true → a.low ≤ b.low
before-low a b h = go (ltb a.low b.low) (eqb a.low b.low) refl refl h where
  go : (t u : Bool) → ltb a.low b.low ≡ t → eqb a.low b.low ≡ u → (t || u && leb a.high b.high) ≡ true → a.low ≤ b.low
  go true u e f h = omega (arith, ltb-true a.low b.low e)
  go false true e f h = omega (arith, eqb-true a.low b.low f)
  go false false e f h = absurd (let z : ◌≡◌ {A = ℕ} 0 1 = cc in omega arith)

after-low : (a b : Range) → before a b ≡ false → b.low ≤ a.low
after-low a b h = go (ltb a.low b.low) refl h where
  go : (t : Bool) → ltb a.low b.low ≡ t → (t || eqb a.low b.low && leb a.high b.high) ≡ false → b.low ≤ a.low
  go true e h = absurd (let z : ◌≡◌ {A = ℕ} 0 1 = cc in omega arith)
  go false e h = ltb-false a.low b.low e

insert-sorted : (a : Range) (l : List Range) → a.low ≤ a.high → Sorted l → Sorted (insert a l)
unfolding insert Deeper
insert-sorted a [] p empty = first p nothing empty
insert-sorted a (b ∷ l) p (first q d s) = go (before a b) refl (insert-sorted a l p s) where
  go : (t : Bool) → before a b ≡ t → Sorted (insert a l) → Sorted (pick t (a ∷ b ∷ l) (b ∷ insert a l))
  go true e i =
      let h : a.low ≤ b.low = before-low a b e in
      first p ((h, q) and all-weaken (λ r w. (omega arith, w.1)) d) (first q d s)
  go false e i = first q (all_insert a l (after-low a b e, p) d) i

pub sort_sorted : (n : ℕ) (l : List Range) → All (RangeUpTo n) l → Sorted (sort l)
unfolding sort
sort_sorted n [] nothing = empty
sort_sorted n (a ∷ l) (p and h) = insert-sorted a (sort l) p.ordered (sort_sorted n l h)
