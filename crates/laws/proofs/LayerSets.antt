-- A layer set that is read without the hyphens of HSC1 is read the same with them: in `{1-2}` the reading without them stops at the
-- hyphen, and no `,` or `}` stands there. Assumes nothing.
use Prim.Native.Nat.{ℕ, zero, suc, ◌+◌}
use mathlib.Core.Path.{◌≡◌, refl, sym, ap, ◌∙◌}
use mathlib.Core.Bool.{Bool, true, false}
use mathlib.Core.List.{List, [], ◌∷◌}
use native.Mathlib.Omega.{arith}
use lib.Dec.{eqb}
use lib.IntN.{pos}
use lib.ListN.{length, drop}
use borrow.Author.Tests.{eqb-true}
use Rattle.notation.specs.Basics.{pick, one_of}
use Rattle.notation.specs.Chars.{white_space}
use Rattle.notation.specs.Utf8.{char_width, code_point, run_from, run}
use Rattle.notation.specs.Numbers.{digit_run}
use Rattle.notation.specs.Layers.{LayerSetElement, single, range, MAX-LAYER}
use Rattle.notation.specs.Grammar.{
  Reading,
  rejected,
  read,
  Reader,
  done,
  and_then,
  ◌>>=◌,
  ◌>>◌,
  or_else,
  ◌or◌,
  just,
  word,
  whitespace,
  padded,
  uint,
  collect,
  more_of,
  separated_by,
  braces,
  layer,
  signed_layer,
  layer_set_element,
  layer_set_elements,
}
use Rattle.laws.proofs.Readers.{not-read}
use Rattle.laws.proofs.Braces.{opened, just-read}

-- One reading is another, or it stops at a hyphen.
data Agrees {A : Type 0} (r r' : Reading A) : Type 0 where
  same : r ≡ r' → Agrees r r'
  hyphen : (a : A) (at : ℕ) (s : List ℕ) → r ≡ read a at (45 ∷ s) → Agrees r r'

agrees-then : {A B : Type 0} (f : A → Reader B) {r r' : Reading A} →
    ((a : A) (at : ℕ) (s : List ℕ) → (b : B) × (f a at (45 ∷ s) ≡ read b at (45 ∷ s))) → Agrees r r' → Agrees (and_then r f) (and_then r' f)
agrees-then f h (same e) = same (ap (λ x. and_then x f) e)
agrees-then f h (hyphen a at s e) = hyphen (h a at s).0 at s (ap (λ x. and_then x f) e ∙ (h a at s).1)

-- Where a number without a sign is read, no hyphen stands; and before a hyphen it is read as a single layer.
no-hyphen : (low high at : ℕ) (s : List ℕ) {v : ℕ} {at' : ℕ} {s' : List ℕ} → uint low high at s ≡ read v at' s' → just "-" at s ≡ rejected
unfolding uint just digit_run
no-hyphen low high at [] e = refl
no-hyphen low high at (b ∷ s) {v} {at'} {s'} e = go (eqb b 45) refl
  where
    go : (t : Bool) → eqb b 45 ≡ t → pick t (read (tt {0}) (at + 1) s) rejected ≡ rejected
    go true h =
        let e' : uint low high at (45 ∷ s) ≡ read v at' s' = rw (eqb-true b 45 h) at e in
        not-read e'
    go false h = refl

hyphenated : (at : ℕ) (s : List ℕ) (i at₁ : ℕ) (s₁ : List ℕ) {x : Unit {0}} {at₂ : ℕ} {s₂ : List ℕ} → layer at s ≡ read i at₁ s₁ →
    just "-" at₁ s₁ ≡ read x at₂ s₂ → (◌>>=◌ signed_layer (λ i. done (single i))) at s ≡ read (single (pos i)) at₁ (45 ∷ s₂)
hyphenated at s i at₁ s₁ e h = rw (no-hyphen 1 MAX-LAYER at s e, e, (just-read "-" at₁ s₁ h).0)

-- With hyphens or without them an element is read the same, or the reading without them stops at one.
element-agrees : (at : ℕ) (s : List ℕ) → Agrees (layer_set_element false at s) (layer_set_element true at s)
element-agrees at s = go (ranges at s)
  where
    ranges : Reader LayerSetElement
    ranges = do i ← signed_layer; word ".."; j ← signed_layer; done (range i j)

    hyphens : Reader LayerSetElement
    hyphens = do i ← layer; just "-"; j ← layer; done (range (pos i) (pos j))

    singles : Reader LayerSetElement
    singles = do i ← signed_layer; done (single i)

    told : (h : Reading LayerSetElement) → hyphens at s ≡ h → Agrees (singles at s) (or_else h singles at s)
    told rejected e = same refl
    told (read a at' s') e =
        let o = opened (layer at s) e in
        let o₁ = opened (just "-" o.1 o.2) o.4 in
        hyphen (single (pos o.0)) o.1 o₁.2 (hyphenated at s o.0 o.1 o.2 o.3 o₁.3)

    go : (r : Reading LayerSetElement) → Agrees (or_else r singles at s) (or_else r (hyphens or singles) at s)
    go (read a at' s') = same refl
    go rejected = told (hyphens at s) refl

-- Nothing goes on at a hyphen.
comma-stops : (at : ℕ) (s : List ℕ) → padded (just ",") at (45 ∷ s) ≡ rejected
unfolding just run_from char_width code_point white_space one_of
comma-stops at s = refl

white-stops : {A : Type 0} (a : A) (at : ℕ) (s : List ℕ) → (◌>>◌ whitespace (done a)) at (45 ∷ s) ≡ read a at (45 ∷ s)
unfolding run_from char_width code_point white_space one_of
white-stops a at s = ap (λ (n : ℕ). read a n (45 ∷ s)) (let e : at + 0 ≡ at = omega arith in e)

module _ {A : Type 0} (item item' : Reader A) (agree : (at : ℕ) (s : List ℕ) → Agrees (item at s) (item' at s)) where
  abbrev more : Reader A → ℕ → Reader (List A)
  more item k = more_of ◌∷◌ [] item (padded (just ",")) k

  more-stops : (k at : ℕ) (s : List ℕ) → more item k at (45 ∷ s) ≡ read [] at (45 ∷ s)
  unfolding more_of
  more-stops zero at s = refl
  more-stops (suc k) at s = rw (comma-stops at s)

  collect-agrees : (k : ℕ) → ((at : ℕ) (s : List ℕ) → Agrees (more item k at s) (more item' k at s)) → (r r' : Reading A) → Agrees r r' →
      (at : ℕ) (s : List ℕ) → Agrees (collect ◌∷◌ [] r (more item k) at s) (collect ◌∷◌ [] r' (more item' k) at s)
  collect-agrees k h r r' (hyphen a at' s' e) at s = hyphen (a ∷ []) at' s' (rw (e, more-stops k at' s'))
  collect-agrees k h r r' (same e) at s = rw e (go r')
    where
      go : (r : Reading A) → Agrees (collect ◌∷◌ [] r (more item k) at s) (collect ◌∷◌ [] r (more item' k) at s)
      go rejected = same refl
      go (read a at' s') = agrees-then (λ l. done (a ∷ l)) (λ l at s. (a ∷ l, refl)) (h at' s')

  more-agrees : (k at : ℕ) (s : List ℕ) → Agrees (more item k at s) (more item' k at s)
  unfolding more_of
  more-agrees zero at s = same refl
  more-agrees (suc k) at s = go (padded (just ",") at s) (λ at s. more-agrees k at s)
    where
      go : (r : Reading (Unit {0})) → ((at : ℕ) (s : List ℕ) → Agrees (more item k at s) (more item' k at s)) →
          Agrees (collect ◌∷◌ [] (and_then r (λ _. item)) (more item k) at s) (collect ◌∷◌ [] (and_then r (λ _. item')) (more item' k) at s)
      go rejected h = same refl
      go (read x at₁ s₁) h = collect-agrees k h (item at₁ s₁) (item' at₁ s₁) (agree at₁ s₁) at s

  abbrev inside : Reader A → Reader (List A)
  inside item = padded (separated_by ◌∷◌ [] item (padded (just ",")))

  inside-agrees : (at : ℕ) (s : List ℕ) → Agrees (inside item at s) (inside item' at s)
  inside-agrees at s =
      agrees-then (λ a. ◌>>◌ whitespace (done a)) (λ a at s. (a, white-stops a at s)) (list (at + run white_space s) (drop (run white_space s) s))
    where
      list : (at : ℕ) (s : List ℕ) →
          Agrees (separated_by ◌∷◌ [] item (padded (just ",")) at s) (separated_by ◌∷◌ [] item' (padded (just ",")) at s)
      list at s = collect-agrees (length s) (more-agrees (length s)) (item at s) (item' at s) (agree at s) at s

  braces-agree : (at : ℕ) (s : List ℕ) (l : List A) (at' : ℕ) (s' : List ℕ) → braces item at s ≡ read l at' s' → braces item' at s ≡ read l at' s'
  unfolding just
  braces-agree at s l at' s' e = go (just "{" at s) e
    where
      closed : Reading (List A) → Reading (List A)
      closed r = and_then r (λ l. ◌>>◌ (just "}") (done l))

      inner : (r r' : Reading (List A)) → Agrees r r' → closed r ≡ read l at' s' → closed r' ≡ read l at' s'
      inner r r' (same i) e = rw (← i) e
      inner r r' (hyphen a at₁ s₁ i) e = not-read (ap closed (sym i) ∙ e)

      go : (r : Reading (Unit {0})) → and_then r (λ _ at s. closed (inside item at s)) ≡ read l at' s' →
          and_then r (λ _ at s. closed (inside item' at s)) ≡ read l at' s'
      go rejected e = not-read e
      go (read x at₁ s₁) e = inner (inside item at₁ s₁) (inside item' at₁ s₁) (inside-agrees at₁ s₁) e

-- The set's reading under all features.
pub set-in-full : (hsc1 : Bool) (at : ℕ) (s : List ℕ) (l : List LayerSetElement) (at' : ℕ) (s' : List ℕ) →
    layer_set_elements hsc1 at s ≡ read l at' s' → layer_set_elements true at s ≡ read l at' s'
unfolding layer_set_elements
set-in-full true at s l at' s' e = e
set-in-full false at s l at' s' e = braces-agree (layer_set_element false) (layer_set_element true) element-agrees at s l at' s' e
