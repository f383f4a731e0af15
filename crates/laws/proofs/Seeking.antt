-- Seeking: where an entry of what a group unrolls into stands in the group's lists. Assumes nothing.
use Prim.Native.Nat.{ℕ, zero, suc, ◌+◌, ◌-◌, ◌*◌, ◌%◌, ◌≤◌, ◌<◌}
use mathlib.Core.Path.{◌≡◌, refl, sym, ap, ◌∙◌, subst}
use mathlib.Core.Bool.{Bool, true, false, not}
use mathlib.Core.List.{List, ◌++◌, map}
use mathlib.Core.Option.{Option, none, some}
use native.Mathlib.Nat.{mod-eq_of_lt, mod-eq-sub-mod, zero-mul}
use native.Mathlib.Omega.{arith}
use borrow.Author.Tests.{ltb-true, ltb-false}
use lib.Dec.{ltb}
use lib.IntN.{ℤ}
use lib.ListN.{length, length-map, get_elem?}
use Rattle.notation.specs.Tree.{Leaf, block, Body, binary_group, Tree}
use Rattle.notation.specs.Invert.{undo}
use Rattle.notation.specs.Unroll.{copies, turned}
use Rattle.notation.specs.Counts.{times, count_binary, count_node, count_body, count}
use Rattle.notation.specs.declared.common.BinaryGroupKind.{BinaryGroupKind}
use Rattle.notation.specs.declared.common.BinaryGroupKind.TheVariants.{Commutator, Conjugate}
use Rattle.laws.proofs.ListEntries.{get-append-left, get-append-right, get-within, get_reverse, get-map}
use Rattle.laws.specs.Unrolled.{backwards, flat_node, flat_body, flat}
use Rattle.laws.proofs.Unrolling.{undo-undo, flat_body-backwards, flat-backwards}
use Rattle.laws.proofs.Counting.{count_body-is, count-is}
use Rattle.laws.specs.Unrolled.{undo_if}

pub undo-none : (o : Option Leaf) → undo_if false o ≡ o
undo-none none = refl
undo-none (some x) = refl

pub undo-again : (inverted : Bool) (o : Option Leaf) → undo_if inverted (undo_if true o) ≡ undo_if (not inverted) o
undo-again true none = refl
undo-again true (some x) = ap some (undo-undo x)
undo-again false none = refl
undo-again false (some x) = refl

-- whole repeats are passed by the remainder
get-copies : {A : Type 0} (l : List A) (n k : ℕ) → k < n * length l → get_elem? (copies n l) k ≡ get_elem? l (k % length l)
unfolding copies
get-copies l zero k h = absurd (omega (arith, zero-mul (length l)))
get-copies l (suc n) k h = go (λ j i. get-copies l n j i) (ltb k (length l)) refl
  where
    go : ((j : ℕ) → j < n * length l → get_elem? (copies n l) j ≡ get_elem? l (j % length l)) → (t : Bool) → ltb k (length l) ≡ t → get_elem? (l ++ copies n l) k ≡ get_elem? l (k % length l)
    go again true e =
        let i : k < length l = ltb-true k (length l) e in
        get-append-left l (copies n l) k i ∙ ap (get_elem? l) (sym (mod-eq_of_lt i))
    go again false e =
        let i : length l ≤ k = ltb-false k (length l) e in
        get-append-right l (copies n l) k i ∙ again (k - length l) (omega arith) ∙ ap (get_elem? l) (sym (mod-eq-sub-mod i))

-- the other direction counts from the end
get-backwards : (l : List Leaf) (k : ℕ) → k < length l → get_elem? (backwards l) k ≡ undo_if true (get_elem? l (length l - 1 - k))
get-backwards l k h = go (get-within l (length l - 1 - k) (omega arith))
  where
    go : (x : Leaf) × (get_elem? l (length l - 1 - k) ≡ some x) → get_elem? (backwards l) k ≡ undo_if true (get_elem? l (length l - 1 - k))
    go (x, e) =
        let i : length (map undo l) - suc (length l - 1 - k) ≡ k = omega (arith, length-map l undo) in
        ap (get_elem? (backwards l)) (sym i) ∙ get_reverse (map undo l) (length l - 1 - k) (undo x) (get-map undo l (length l - 1 - k) x e) ∙ ap (undo_if true) (sym e)

-- in one repeat of a group
pub in_repeat : (b : Body Leaf) (m : ℤ) (k : ℕ) → k < count_node (block b m) → get_elem? (flat_node undo false (block b m)) k ≡ get_elem? (flat_body undo (turned m false) b) (k % count_body b)
unfolding flat_node count_node
in_repeat b m k h =
    get-copies (flat_body undo (turned m false) b) (times b m) k (subst (λ (c : ℕ). k < times b m * c) (sym (count_body-is b (turned m false))) h)
    ∙ ap (λ (c : ℕ). get_elem? (flat_body undo (turned m false) b) (k % c)) (count_body-is b (turned m false))

pub from_end : (b : Body Leaf) (k : ℕ) → k < count_body b → get_elem? (flat_body undo true b) k ≡ undo_if true (get_elem? (flat_body undo false b) (count_body b - 1 - k))
from_end b k h =
    ap (λ (l : List Leaf). get_elem? l k) (flat_body-backwards b false)
    ∙ get-backwards (flat_body undo false b) k (omega (arith, count_body-is b false))
    ∙ ap (λ (c : ℕ). undo_if true (get_elem? (flat_body undo false b) (c - 1 - k))) (count_body-is b false)

-- a list in the other direction
undone : (t : Tree) {c : ℕ} → c ≡ count t → (k : ℕ) → k < c → get_elem? (flat undo true t) k ≡ undo_if true (get_elem? (flat undo false t) (c - 1 - k))
undone t {c} p k h =
    let long : length (flat undo false t) ≡ c = count-is t false ∙ sym p in
    ap (λ (l : List Leaf). get_elem? l k) (flat-backwards t false)
    ∙ get-backwards (flat undo false t) k (omega arith)
    ∙ ap (λ (n : ℕ). undo_if true (get_elem? (flat undo false t) (n - 1 - k))) long

-- In A B A' B' and in A B A': A has a steps, A and B have both.
module _ (g : BinaryGroupKind) (x y : Tree) {a both : ℕ} (p : a ≡ count x) (q : both ≡ a + count y) (k : ℕ) where
  before-A : (l : List Leaf) → k < a → get_elem? (flat undo false x ++ l) k ≡ get_elem? (flat undo false x) k
  before-A l h = get-append-left (flat undo false x) l k (omega (arith, count-is x false))

  behind-A : (d : Bool) (l : List Leaf) (j : ℕ) → a ≤ j → get_elem? (flat undo d x ++ l) j ≡ get_elem? l (j - a)
  behind-A d l j h = get-append-right (flat undo d x) l j (omega (arith, count-is x d)) ∙ ap (λ (n : ℕ). get_elem? l (j - n)) (count-is x d ∙ sym p)

  before-B : (l : List Leaf) → a ≤ k → k < both → get_elem? (flat undo false x ++ (flat undo false y ++ l)) k ≡ get_elem? (flat undo false y) (k - a)
  before-B l h i = behind-A false (flat undo false y ++ l) k h ∙ get-append-left (flat undo false y) l (k - a) (omega (arith, count-is y false))

  behind-B : (l : List Leaf) → both ≤ k → get_elem? (flat undo false x ++ (flat undo false y ++ l)) k ≡ get_elem? l (k - both)
  behind-B l h =
      behind-A false (flat undo false y ++ l) k (omega arith)
      ∙ get-append-right (flat undo false y) l (k - a) (omega (arith, count-is y false))
      ∙ ap (get_elem? l) (omega (arith, count-is y false))

  from-A : both ≤ k → k < both + a → get_elem? (flat undo true x) (k - both) ≡ undo_if true (get_elem? (flat undo false x) (both + a - 1 - k))
  from-A h i = let e : a - 1 - (k - both) ≡ both + a - 1 - k = omega arith in undone x p (k - both) (omega arith) ∙ ap (λ (n : ℕ). undo_if true (get_elem? (flat undo false x) n)) e

  pub in-A : k < a → get_elem? (flat_body undo false (binary_group g x y)) k ≡ get_elem? (flat undo false x) k
  unfolding flat_body
  in-A h = go g
    where
      go : (g : BinaryGroupKind) → get_elem? (flat_body undo false (binary_group g x y)) k ≡ get_elem? (flat undo false x) k
      go Commutator = before-A _ h
      go Conjugate = before-A _ h

  pub in-B : a ≤ k → k < both → get_elem? (flat_body undo false (binary_group g x y)) k ≡ get_elem? (flat undo false y) (k - a)
  unfolding flat_body
  in-B h i = go g
    where
      go : (g : BinaryGroupKind) → get_elem? (flat_body undo false (binary_group g x y)) k ≡ get_elem? (flat undo false y) (k - a)
      go Commutator = before-B _ h i
      go Conjugate = before-B _ h i

  pub in-A' : both ≤ k → k < both + a → get_elem? (flat_body undo false (binary_group g x y)) k ≡ undo_if true (get_elem? (flat undo false x) (both + a - 1 - k))
  unfolding flat_body
  in-A' h i = go g ∙ from-A h i
    where
      go : (g : BinaryGroupKind) → get_elem? (flat_body undo false (binary_group g x y)) k ≡ get_elem? (flat undo true x) (k - both)
      go Commutator = behind-B _ h ∙ get-append-left (flat undo true x) (flat undo true y) (k - both) (omega (arith, count-is x true))
      go Conjugate = behind-B _ h

  pub in-B' : both + a ≤ k → k < count_binary g a (count y) → get_elem? (flat_body undo false (binary_group g x y)) k ≡ undo_if true (get_elem? (flat undo false y) (count_binary g a (count y) - 1 - k))
  unfolding flat_body
  in-B' h i = go g i
    where
      go : (g : BinaryGroupKind) → k < count_binary g a (count y) → get_elem? (flat_body undo false (binary_group g x y)) k ≡ undo_if true (get_elem? (flat undo false y) (count_binary g a (count y) - 1 - k))
      go Commutator i =
          let e : count y - 1 - (k - both - a) ≡ 2 * (a + count y) - 1 - k = omega arith in
          behind-B _ (omega arith) ∙ behind-A true (flat undo true y) (k - both) (omega arith) ∙ undone y refl (k - both - a) (omega arith)
          ∙ ap (λ (n : ℕ). undo_if true (get_elem? (flat undo false y) n)) e
      go Conjugate i = absurd (omega arith)
