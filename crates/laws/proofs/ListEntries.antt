-- Entries of lists: of two one behind the other, of a mapped one, of a reversed one; a test of each. Assumes nothing.
use Prim.Native.Nat.{ℕ, zero, suc, ◌-◌, ◌≤◌, ◌<◌}
use mathlib.Core.Path.{◌≡◌, refl, sym, ap, ◌∙◌}
use mathlib.Core.Bool.{Bool, ◌&&◌, and_assoc}
use mathlib.Core.List.{List, [], ◌∷◌, ◌++◌, map, reverse, reverse-cons}
use mathlib.Core.Option.{none, some}
use native.Mathlib.Omega.{arith}
use lib.ListN.{length, get_elem?, length-reverse}
use Rattle.notation.specs.Basics.{every}
use Rattle.laws.proofs.Bools.{no-some}

module _ {A : Type 0} where
  pub get-append-left : (a b : List A) (k : ℕ) → k < length a → get_elem? (a ++ b) k ≡ get_elem? a k
  get-append-left [] b k h = absurd (omega arith)
  get-append-left (x ∷ a) b zero h = refl
  get-append-left (x ∷ a) b (suc k) h = get-append-left a b k (omega arith)

  pub get-append-right : (a b : List A) (k : ℕ) → length a ≤ k → get_elem? (a ++ b) k ≡ get_elem? b (k - length a)
  get-append-right [] b k h = ap (get_elem? b) (omega arith)
  get-append-right (x ∷ a) b zero h = absurd (omega arith)
  get-append-right (x ∷ a) b (suc k) h = get-append-right a b k (omega arith) ∙ ap (get_elem? b) (omega arith)

  pub get-past : (l : List A) (k : ℕ) → length l ≤ k → get_elem? l k ≡ none
  get-past [] k h = refl
  get-past (x ∷ l) zero h = absurd (omega arith)
  get-past (x ∷ l) (suc k) h = get-past l k (omega arith)

  pub get-within : (l : List A) (k : ℕ) → k < length l → (x : A) × (get_elem? l k ≡ some x)
  get-within [] k h = absurd (omega arith)
  get-within (x ∷ l) zero h = (x, refl)
  get-within (x ∷ l) (suc k) h = get-within l k (omega arith)

  pub get-below : (l : List A) (k : ℕ) (x : A) → get_elem? l k ≡ some x → k < length l
  get-below [] k x h = no-some (sym h)
  get-below (y ∷ l) zero x h = omega arith
  get-below (y ∷ l) (suc k) x h = let e : k < length l = get-below l k x h in omega arith

  pub get_reverse : (l : List A) (k : ℕ) (x : A) → get_elem? l k ≡ some x → get_elem? (reverse l) (length l - suc k) ≡ some x
  get_reverse [] k x h = no-some (sym h)
  get_reverse (y ∷ l) zero x h =
      let e : suc (length l) - 1 - length (reverse l) ≡ 0 = omega (arith, length-reverse l) in
      rw (reverse-cons y l)
      (get-append-right (reverse l) (y ∷ []) (suc (length l) - 1) (omega (arith, length-reverse l)) ∙ ap (get_elem? (y ∷ [])) e ∙ h)
  get_reverse (y ∷ l) (suc k) x h =
      let e : suc (length l) - suc (suc k) ≡ length l - suc k = omega arith in
      let i : get_elem? (reverse l) (length l - suc k) ≡ some x = get_reverse l k x h in
      rw (reverse-cons y l, e) (get-append-left (reverse l) (y ∷ []) (length l - suc k) (get-below (reverse l) (length l - suc k) x i) ∙ i)

module _ {A B : Type 0} (g : A → B) where
  pub get-map : (l : List A) (k : ℕ) (x : A) → get_elem? l k ≡ some x → get_elem? (map g l) k ≡ some (g x)
  get-map [] k x h = no-some (sym h)
  get-map (y ∷ l) zero x h = cc
  get-map (y ∷ l) (suc k) x h = get-map l k x h

  pub get-of-map : (l : List A) (k : ℕ) (b : B) → get_elem? (map g l) k ≡ some b → (x : A) × (get_elem? l k ≡ some x) × (g x ≡ b)
  get-of-map [] k b h = no-some (sym h)
  get-of-map (y ∷ l) zero b h = (y, refl, cc)
  get-of-map (y ∷ l) (suc k) b h = get-of-map l k b h

pub every_append : {A : Type 0} (p : A → Bool) (a b : List A) → every p (a ++ b) ≡ (every p a && every p b)
unfolding every
every_append p [] b = refl
every_append p (x ∷ a) b = ap (λ (t : Bool). p x && t) (every_append p a b) ∙ sym (and_assoc (p x) (every p a) (every p b))
