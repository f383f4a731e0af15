-- What holds throughout lists holds throughout their parts and throughout lists made of them, and at each place. Assumes nothing.
use Prim.Native.Nat.{ℕ, zero, suc}
use mathlib.Core.Path.{◌≡◌, sym, subst}
use mathlib.Core.List.{List, [], ◌∷◌, ◌++◌}
use mathlib.Core.Option.{some, some-injective}
use lib.ListN.{get_elem?}
use Rattle.notation.specs.Unroll.{copies}
use Rattle.laws.specs.All.{All, empty, one}
use Rattle.laws.proofs.Bools.{no-some}

module _ {A : Type 0} {P : A → Type 0} where
  pub all_append : {a b : List A} → All P a → All P b → All P (a ++ b)
  all_append empty q = q
  all_append (one h p) q = one h (all_append p q)

  pub all-copies : (n : ℕ) {l : List A} → All P l → All P (copies n l)
  unfolding copies
  all-copies zero p = empty
  all-copies (suc n) p = all_append p (all-copies n p)

  pub all_head : {x : A} {l : List A} → All P (x ∷ l) → P x
  all_head (one h p) = h

  pub all_tail : {x : A} {l : List A} → All P (x ∷ l) → All P l
  all_tail (one h p) = p

  pub all_left : (a b : List A) → All P (a ++ b) → All P a
  all_left [] b p = empty
  all_left (x ∷ a) b (one h p) = one h (all_left a b p)

  pub all_right : (a : List A) {b : List A} → All P (a ++ b) → All P b
  all_right [] p = p
  all_right (x ∷ a) (one h p) = all_right a p

  pub all-at : {l : List A} {x : A} (k : ℕ) → All P l → get_elem? l k ≡ some x → P x
  all-at k empty e = no-some (sym e)
  all-at {x = x} zero (one {x = y} h p) e = subst P (some-injective y x e) h
  all-at (suc k) (one h p) e = all-at k p e
