-- The elements of a layer set as a walk over its text meets them: an element, then a comma and the next one, or the end. What
-- stands where no further element does need not be asked: the set is known to be read whole. Assumes nothing.
use Prim.Native.Nat.{ℕ, zero, suc, ◌+◌, ◌≤◌, ◌<◌}
use mathlib.Core.Path.{◌≡◌, refl, sym, ap, ◌∙◌}
use mathlib.Core.Bool.{Bool, true}
use mathlib.Core.List.{List, [], ◌∷◌}
use mathlib.Core.Option.{Option, none, some}
use native.Mathlib.Omega.{arith}
use lib.Dec.{leb}
use lib.IntN.{ℤ, nat_abs}
use lib.ListN.{length, drop, get_or, length-drop, length-append}
use lib.Seq.{drop-drop}
use borrow.Author.Tests.{leb-true}
use Rattle.notation.specs.Chars.{white_space}
use Rattle.notation.specs.Utf8.{run}
use Rattle.notation.specs.Layers.{LayerSetElement, single, range, MAX-LAYER, Range, element_range, set_ranges, keep}
use Rattle.notation.specs.Meaning.{layer_set_in, or_empty}
use Rattle.notation.specs.WellFormed.{is_some}
use Rattle.notation.specs.Grammar.{Reading, rejected, read, Reader, done, and_then, just, whitespace, padded, collect, more_of, separated_by, layer_set_element, layer_set_elements, at_end}
use Rattle.charsets.proofs.Runs.{run_length}
use Rattle.numbers.proofs.Bounds.{just-byte, just-other, just-end}
use Rattle.layer.specs.Meaning.{IsLayer}
use Rattle.laws.proofs.Bools.{false-true, and_left, and_right}
use Rattle.laws.proofs.InRange.{signed_in_range, element_in_range}
use Rattle.laws.proofs.Readers.{anywhere, Took, Yields, weaken, yields-just, yields-padded}
use Rattle.laws.proofs.Braces.{opened, just-read}
use Rattle.laws.proofs.ReadingYields.{yields-element}
use Rattle.simplify.specs.Reach.{marked_all}
use Rattle.simplify.specs.Elements.{IsElement, marked_if, marked_element, marked_set}

abbrev item : Reader LayerSetElement
item = layer_set_element true

abbrev pub comma : Reader (Unit {0})
comma = padded (just ",")

abbrev more : ℕ → Reader (List LayerSetElement)
more k = more_of ◌∷◌ [] item comma k

abbrev listed : Reading (List LayerSetElement) → List LayerSetElement
listed rejected = []
listed (read l at s) = l

-- the elements from a place on, and those after an element; k is more than enough
unfoldable pub elements_from : ℕ → ℕ → List ℕ → List LayerSetElement
elements_from k at s = listed (collect ◌∷◌ [] (item at s) (more k) at s)

abbrev pub elements_at : List ℕ → ℕ → ℕ → List LayerSetElement
elements_at part k at = elements_from k at (drop at part)

-- ── one step of the walk ──

more-reads : (k at : ℕ) (s : List ℕ) → (l : List LayerSetElement) × (at' : ℕ) × (s' : List ℕ) × (more k at s ≡ read l at' s')
unfolding more_of
more-reads zero at s = ([], at, s, refl)
more-reads (suc k) at s = go (and_then (comma at s) (λ _. item)) (λ at s. more-reads k at s) where
  go : (r : Reading LayerSetElement) →
      ((at : ℕ) (s : List ℕ) → (l : List LayerSetElement) × (at' : ℕ) × (s' : List ℕ) × (more k at s ≡ read l at' s')) →
      (l : List LayerSetElement) × (at' : ℕ) × (s' : List ℕ) × (collect ◌∷◌ [] r (more k) at s ≡ read l at' s')
  go rejected h = ([], at, s, refl)
  go (read e at₁ s₁) h = let m = h at₁ s₁ in (e ∷ m.0, m.1, m.2, rw m.3)

element-taken : (k at next : ℕ) (s rest : List ℕ) (e : LayerSetElement) → read e next rest ≡ item at s →
    elements_from k at s ≡ e ∷ listed (more k next rest)
unfolding elements_from
element-taken k at next s rest e h = let m = more-reads k next rest in rw (← h, m.3)

element-none : (k at : ℕ) (s : List ℕ) → rejected ≡ item at s → elements_from k at s ≡ []
unfolding elements_from
element-none k at s h = rw (← h)

-- where a list of elements is rejected does not matter to its elements
collected : (r : Reading LayerSetElement) (k at at' : ℕ) (s s' : List ℕ) → listed (collect ◌∷◌ [] r (more k) at s) ≡ listed (collect ◌∷◌ [] r (more k) at' s')
collected rejected k at at' s s' = refl
collected (read e at₁ s₁) k at at' s s' = refl

comma-taken : (k at from : ℕ) (s rest : List ℕ) (x : Unit {0}) → read x from rest ≡ comma at s → listed (more (suc k) at s) ≡ elements_from k from rest
unfolding more_of elements_from
comma-taken k at from s rest x h =
    ap (λ (r : Reading (Unit {0})). listed (collect ◌∷◌ [] (and_then r (λ _. item)) (more k) at s)) (sym h) ∙ collected (item from rest) k at from s rest

comma-none : (k at : ℕ) (s : List ℕ) → rejected ≡ comma at s → listed (more k at s) ≡ []
unfolding more_of
comma-none zero at s h = refl
comma-none (suc k) at s h = ap (λ (r : Reading (Unit {0})). listed (collect ◌∷◌ [] (and_then r (λ _. item)) (more k) at s)) (sym h)

-- ── a comma ──

module _ (part : List ℕ) (at sign : ℕ) (here : sign ≡ at + run white_space (drop at part)) where
  after-white : drop (run white_space (drop at part)) (drop at part) ≡ drop sign part
  after-white = drop-drop (run white_space (drop at part)) at part ∙ ap (λ (i : ℕ). drop i part) (sym here)

  -- what the rest of the rule makes of the text behind the white space
  behind : padded (just ",") at (drop at part) ≡ and_then (just "," sign (drop sign part)) (λ a at s. and_then (whitespace at s) (λ _. done a))
  behind = rw (after-white, ← here)

  pub with-comma : (from : ℕ) → sign < length part → get_or part sign 0 ≡ 44 → from ≡ sign + 1 + run white_space (drop (sign + 1) part) →
      read tt from (drop from part) ≡ padded (just ",") at (drop at part)
  with-comma from inside e there =
      let text : drop (run white_space (drop (sign + 1) part)) (drop (sign + 1) part) ≡ drop from part =
      drop-drop (run white_space (drop (sign + 1) part)) (sign + 1) part ∙ ap (λ (i : ℕ). drop i part) (sym there) in
      sym (rw (behind, just-byte "," part sign inside e, text, ← there))

  pub without-comma : sign < length part → (get_or part sign 0 ≡ 44 → ⊥) → rejected ≡ padded (just ",") at (drop at part)
  without-comma inside e = sym (rw (behind, just-other "," part sign inside e))

  pub at-the-end : length part ≤ sign → rejected ≡ padded (just ",") at (drop at part)
  at-the-end h = sym (rw (behind, just-end "," part sign h))

-- ── the whole set ──

pub whole : {A : Type 0} (r : Reading A) → is_some (at_end r) ≡ true → (a : A) × (at : ℕ) × (r ≡ read a at []) × (at_end r ≡ some a)
whole rejected h = absurd (false-true h)
whole (read a at []) h = (a, at, refl, refl)
whole (read a at (b ∷ s)) h = absurd (false-true h)

moved : (at at' : ℕ) (s s' : List ℕ) → at ≡ at' → s ≡ s' → listed (separated_by ◌∷◌ [] item comma at s) ≡ elements_from (length s') at' s'
unfolding elements_from
moved at at' s s' p q = rw (p, q)

module _ (part : List ℕ) (first : ℕ) (starts : first ≡ 1 + run white_space (drop 1 part)) where
  pub record Opens : Type 0 where
    pub some_bytes : 1 ≤ length part
    pub within : first ≤ length part
    pub elements : or_empty (layer_set_in part) ≡ elements_at part (length (drop first part)) first

  pub set-elements : is_some (layer_set_in part) ≡ true → Opens
  unfolding layer_set_in layer_set_elements elements_from
  set-elements h =
      let w = whole (layer_set_elements true 0 part) h in
      let o = opened (just "{" 0 part) w.2 in
      let n = run white_space o.2 in
      let b = just-read "{" 0 part o.3 in
      let p = opened (padded (separated_by ◌∷◌ [] item comma) o.1 o.2) o.4 in
      let l = opened (separated_by ◌∷◌ [] item comma (o.1 + n) (drop n o.2)) p.3 in
      let c = opened (just "}" p.1 p.2) p.4 in
      let inner : read l.0 _ _ ≡ read p.0 p.1 p.2 = l.4 in
      let outer : read p.0 c.1 c.2 ≡ read w.0 w.1 [] = c.4 in
      let same : l.0 ≡ w.0 = cc in
      let rest : drop 1 part ≡ o.2 = ap (drop 1) b.0 in
      let place : first ≡ o.1 + n = omega (arith, b.1, starts, ap (run white_space) rest) in
      let place' : first ≡ 1 + n = omega (arith, starts, ap (run white_space) rest) in
      let text : drop first part ≡ drop n o.2 = ap (λ (i : ℕ). drop i part) place' ∙ sym (drop-drop n 1 part) ∙ ap (drop n) rest in
      record {
        some_bytes = omega (arith, ap length b.0);
        within = omega (arith, ap length b.0, place', run_length white_space 0 o.2);
        elements = ap or_empty w.3 ∙ sym same ∙ ap listed (sym l.3) ∙ moved (o.1 + n) first (drop n o.2) (drop first part) (sym place) (sym text);
      }

-- ── where an element and a comma end, and what an element is ──

layer-number : (i : ℤ) → signed_in_range i ≡ true → IsLayer (nat_abs i)
layer-number i h = record {
  low = leb-true 1 (nat_abs i) (and_left _ (leb (nat_abs i) MAX-LAYER) h);
  high = leb-true (nat_abs i) MAX-LAYER (and_right (leb 1 (nat_abs i)) _ h);
}

pub layer-numbers : (e : LayerSetElement) → element_in_range e ≡ true → IsElement e
layer-numbers (single i) h = layer-number i h
layer-numbers (range i j) h = (layer-number i (and_left _ (signed_in_range j) h), layer-number j (and_right (signed_in_range i) _ h))

module _ (part : List ℕ) (at : ℕ) (inside : at ≤ length part) where
  ends-inside : {A : Type 0} {Q : A → ℕ → Type 0} {a : A} {next : ℕ} (t : Took Q at (drop at part) a next (drop next part)) → next ≤ length part
  ends-inside {next} t = omega (arith, t.moves, ap length t.splits, length-append t.part (drop next part), length-drop at part, length-drop next part)

  pub record Element (next : ℕ) (e : LayerSetElement) : Type 0 where
    pub later : at ≤ next
    pub within : next ≤ length part
    pub layers : IsElement e

  pub element-read : (next : ℕ) (e : LayerSetElement) → read e next (drop next part) ≡ item at (drop at part) → Element next e
  element-read next e h =
      let t = (yields-element {c = anywhere} true).took at (drop at part) tt e next (drop next part) (sym h) in
      record { later = omega (arith, t.moves); within = ends-inside t; layers = layer-numbers e t.holds }

  pub record Comma (from : ℕ) : Type 0 where
    pub later : at < from
    pub within : from ≤ length part

  pub comma-read : (from : ℕ) (x : Unit {0}) → read x from (drop from part) ≡ comma at (drop at part) → Comma from
  comma-read from x h =
      let y : Yields anywhere comma (λ a n. 1 ≤ n) = yields-padded (λ a n m h q. omega arith) (weaken (yields-just ",") (λ a n h. omega arith)) in
      let t = y.took at (drop at part) tt x from (drop from part) (sym h) in
      record { later = omega (arith, t.moves, t.holds); within = ends-inside t }

-- ── the table along the walk ──

module _ (n : ℕ) (neg : Bool) where
  marked-first : (e : LayerSetElement) (l : List LayerSetElement) (reach : List ℕ) → marked_set n neg (e ∷ l) reach ≡ marked_set n neg l (marked_element n neg e reach)
  unfolding set_ranges marked_all
  marked-first e l reach = go (element_range n neg e) where
    go : (r : Option Range) → marked_all (keep r (set_ranges n neg l)) reach ≡ marked_all (set_ranges n neg l) (marked_if r reach)
    go none = refl
    go (some r) = refl

  module _ (part : List ℕ) (k at : ℕ) (inside : at ≤ length part) (reach goal : List ℕ) (left : marked_set n neg (elements_at part k at) reach ≡ goal) where
    pub no-element : rejected ≡ item at (drop at part) → reach ≡ goal
    unfolding set_ranges marked_all
    no-element h = rw (element-none k at (drop at part) h) at left

    module _ (e : LayerSetElement) (next : ℕ) (here : read e next (drop next part) ≡ item at (drop at part)) (reach' : List ℕ)
        (marks : reach' ≡ marked_element n neg e reach) where
      after : marked_set n neg (listed (more k next (drop next part))) reach' ≡ goal
      after =
          ap (marked_set n neg (listed (more k next (drop next part)))) marks
          ∙ sym (marked-first e (listed (more k next (drop next part))) reach)
          ∙ ap (λ (l : List LayerSetElement). marked_set n neg l reach) (sym (element-taken k at next (drop at part) (drop next part) e here))
          ∙ left

      pub no-comma : rejected ≡ comma next (drop next part) → reach' ≡ goal
      unfolding set_ranges marked_all
      no-comma h = rw (comma-none k next (drop next part) h) at after

      pub record Turned (from : ℕ) : Type 0 where
        pub fuel : ℕ
        pub enough : length part ≤ from + fuel
        pub rest : marked_set n neg (elements_at part fuel from) reach' ≡ goal

      pub turned : length part ≤ at + k → (from : ℕ) (x : Unit {0}) → read x from (drop from part) ≡ comma next (drop next part) → Turned from
      turned enough from x h =
          let one = element-read part at inside next e here in
          let two = comma-read part next one.within from x h in
          go k enough after (omega (arith, one.later, two.later)) two.within
        where
          go : (k : ℕ) → length part ≤ at + k → marked_set n neg (listed (more k next (drop next part))) reach' ≡ goal → at < from → from ≤ length part → Turned from
          go zero enough left later within = absurd (omega arith)
          go (suc k) enough left later within = record {
            fuel = k;
            enough = omega arith;
            rest = ap (λ (l : List LayerSetElement). marked_set n neg l reach') (sym (comma-taken k next from (drop next part) (drop from part) x h)) ∙ left;
          }
