-- Parts in braces: printed, one has at most 5/4 of the bytes that it was read from, as where `1-2,` prints `1..2,`. Assumes nothing.
use Prim.Native.Nat.{ℕ, ◌+◌, ◌*◌, ◌≤◌}
use Prim.Native.String as S
use Prim.Native.String.{String}
use mathlib.Core.Path.{◌≡◌, refl, sym, ◌∙◌}
use mathlib.Core.Bool.{Bool, true}
use mathlib.Core.List.{List, [], ◌∷◌, ◌++◌, append-nil}
use mathlib.Core.Option.{Option, none, some}
use native.Mathlib.Omega.{arith}
use lib.Dec.{ltb}
use lib.ListN.{length, length-append}
use lib.Seq.{length-take-le}
use Rattle.notation.specs.Chars.{is_family_char}
use Rattle.notation.specs.Utf8.{run}
use Rattle.notation.specs.Numbers.{show, show_signed}
use Rattle.notation.specs.Layers.{LayerSetElement, single, range, MAX-LAYER}
use Rattle.notation.specs.Tree.{Constraint, from_to, swap, fix}
use Rattle.notation.specs.Grammar.{
  Reading,
  rejected,
  read,
  Reader,
  done,
  ◌>>=◌,
  ◌>>◌,
  just,
  word,
  padded,
  braces,
  family_text,
  constraint,
  constraint_set,
  signed_layer,
  layer,
  layer_set_element,
  layer_set_elements,
  at_end,
}
use Rattle.notation.specs.Meaning.{constraints_in, layer_set_in, or_empty}
use Rattle.notation.specs.WellFormed.{is_some}
use Rattle.notation.specs.Print.{put, put_more, put_braces, put_constraint, put_element}
use Rattle.laws.proofs.Bools.{false-true, no-some}
use Rattle.laws.proofs.Readers.{
  Place,
  anywhere,
  Yields,
  pick-read,
  took-front,
  took-is,
  weaken,
  yields-done,
  yields-bind,
  yields-or,
  yields-when,
  yields-just,
  yields-padded,
  yields-counted,
  run-le,
}
use Rattle.size_laws.proofs.Digits.{Number, signed_digits, signed-long, show-long, yields-uint, yields-sint}

-- An item takes n bytes, and with the comma after it at most 5/4 of n + 1 as printed.
module _ {A : Type 0} (f : A → List ℕ → List ℕ) (adds : (a : A) (rest : List ℕ) → length (f a rest) ≡ length (f a []) + length rest) where
  more-adds : (l : List A) (rest : List ℕ) → length (put_more f l rest) ≡ length (put_more f l []) + length rest
  unfolding put_more
  more-adds [] rest = omega arith
  more-adds (a ∷ l) rest =
      omega (arith, adds a (put_more f l rest), adds a (put_more f l []), more-adds l rest)

  pub braces-add : (l : List A) (rest : List ℕ) → length (put_braces f l rest) ≡ length (put_braces f l []) + length rest
  braces-add [] rest = omega arith
  braces-add (a ∷ l) rest =
      omega (arith, adds a (put_more f l (125 ∷ rest)), adds a (put_more f l (125 ∷ [])), more-adds l (125 ∷ rest), more-adds l (125 ∷ []))

  one_more : (a : A) (l : List A) (n m : ℕ) → (4 * length (f a []) + 4 ≤ 5 * n) → 4 * length (put_more f l []) ≤ 5 * m →
      4 * length (put_more f (a ∷ l) []) ≤ 5 * (n + (m + 0))
  unfolding put_more
  one_more a l n m h g = omega (arith, adds a (put_more f l []))

  one-first : (a : A) (l : List A) (n m : ℕ) → (4 * length (f a []) ≤ 5 * n + 1) → 4 * length (put_more f l []) ≤ 5 * m →
      4 * length (put_braces f (a ∷ l) []) ≤ 5 * (n + (m + 0)) + 10
  one-first a l n m h g = omega (arith, adds a (put_more f l (125 ∷ [])), more-adds l (125 ∷ []))

  pub yields-braces : {c : Place} {item : Reader A} → Yields c item (λ a n. 4 * length (f a []) ≤ 5 * n + 1) →
      Yields c (braces item) (λ l n. 4 * length (put_braces f l []) ≤ 5 * n)
  unfolding put_more
  yields-braces items =
      yields-bind (yields-just "{") λ _ k i.
      yields-bind
      (yields-padded {Q = λ l n. 4 * length (put_braces f l []) ≤ 5 * n + 10} (λ l n m h q. omega arith)
      (yields-counted ◌∷◌ [] (padded (just ",")) (λ l n. 4 * length (put_more f l []) ≤ 5 * n)
      (λ l n. 4 * length (put_braces f l []) ≤ 5 * n + 10) (omega arith) (omega arith) one_more one-first items
      (yields-bind (yields-padded (λ a n m h q. omega arith) (weaken (yields-just ",") (λ a n h. let g : 1 ≤ n = omega arith in g))) λ _ k i.
      weaken items (λ a n h. omega arith))))
      λ l n q. yields-bind (yields-just "}") λ _ m j. yields-done (omega arith)

-- Constraints.
pub constraint-adds : (x : Constraint) (rest : List ℕ) → length (put_constraint x rest) ≡ length (put_constraint x []) + length rest
constraint-adds (from_to a b) rest =
    omega (arith, length-append a (45 ∷ 62 ∷ (b ++ rest)), length-append a (45 ∷ 62 ∷ (b ++ [])), length-append b rest, length-append b [])
constraint-adds (swap a b) rest =
    omega (arith, length-append a (60 ∷ 62 ∷ (b ++ rest)), length-append a (60 ∷ 62 ∷ (b ++ [])), length-append b rest, length-append b [])
constraint-adds (fix a) rest = omega (arith, length-append a rest, length-append a [])

module _ {c : Place} where
  pub yields-word : (w : String) → Yields c (word w) (λ a n. length (put w []) ≤ n)
  unfolding word
  yields-word S.[] = yields-done (omega arith)
  yields-word (S.◌∷◌ x w) = yields-bind (yields-just x) (λ a n q. weaken (yields-word w) (λ b m h. omega arith))

  yields-family_text : Yields c family_text (λ a n. length a ≤ n)
  yields-family_text = record {
    took = λ at s h a at' s' e.
        let n = run is_family_char s in
        let k = pick-read (ltb 0 n) e in
        took-is k.1 k.2 k.3 (took-front at n s (run-le is_family_char 0 s) (omega (arith, length-take-le n s (run-le is_family_char 0 s))));
  }

  two-names : (w : String) (f : List ℕ → List ℕ → Constraint) → ((a b : List ℕ) → length (put_constraint (f a b) []) ≡ length a + (length (put w []) + length b)) →
      Yields c (do a ← family_text; padded (word w); b ← family_text; done (f a b)) (λ x n. 4 * length (put_constraint x []) ≤ 5 * n + 1)
  two-names w f long =
      yields-bind yields-family_text λ a n p. yields-bind (yields-padded (λ a n m h q. omega arith) (yields-word w)) λ _ k i.
      yields-bind yields-family_text λ b m q. yields-done (omega (arith, long a b))

  yields-constraint : Yields c constraint (λ x n. 4 * length (put_constraint x []) ≤ 5 * n + 1)
  yields-constraint =
      yields-or (two-names "->" from_to (λ a b. omega (arith, length-append a (45 ∷ 62 ∷ (b ++ [])), length-append b [])))
      (yields-or (two-names "<>" swap (λ a b. omega (arith, length-append a (60 ∷ 62 ∷ (b ++ [])), length-append b [])))
      (yields-bind yields-family_text λ a n p. yields-done (omega (arith, length-append a []))))

  pub yields-constraint_set : Yields c constraint_set (λ l n. 4 * length (put_braces put_constraint l []) ≤ 5 * n)
  unfolding constraint_set
  yields-constraint_set = yields-braces put_constraint constraint-adds yields-constraint

-- Layer sets.
pub element-adds : (x : LayerSetElement) (rest : List ℕ) → length (put_element x rest) ≡ length (put_element x []) + length rest
element-adds (single i) rest = signed-long i rest
element-adds (range i j) rest =
    omega (arith, signed-long i (46 ∷ 46 ∷ show_signed j rest), signed-long i (46 ∷ 46 ∷ show_signed j []), signed-long j rest)

module _ {c : Place} where
  yields-layer : Yields c layer Number
  yields-layer = yields-uint 1 MAX-LAYER

  yields-signed : Yields c signed_layer (λ z n. signed_digits z ≤ n)
  yields-signed = yields-sint 1 MAX-LAYER MAX-LAYER

  yields-element : (hsc1 : Bool) → Yields c (layer_set_element hsc1) (λ x n. 4 * length (put_element x []) ≤ 5 * n + 1)
  yields-element hsc1 =
      yields-or
      (yields-bind yields-signed λ i n p. yields-bind (yields-word "..") λ _ k h.
      yields-bind yields-signed λ j m q. yields-done (omega (arith, signed-long i (46 ∷ 46 ∷ show_signed j []))))
      (yields-or
      (yields-when hsc1 λ _.
      yields-bind yields-layer λ i n p. yields-bind (yields-just "-") λ _ k h.
      yields-bind yields-layer λ j m q. yields-done (omega (arith, show-long i (46 ∷ 46 ∷ show j []))))
      (yields-bind yields-signed λ i n p. yields-done (omega arith)))

  pub yields-layer_set : (hsc1 : Bool) → Yields c (layer_set_elements hsc1) (λ l n. 4 * length (put_braces put_element l []) ≤ 5 * n)
  unfolding layer_set_elements
  yields-layer_set hsc1 = yields-braces put_element element-adds (yields-element hsc1)

-- A text that is read to its end.
pub whole : {A : Type 0} {p : Reader A} {Q : A → ℕ → Type 0} {a : A} (text : List ℕ) → Yields anywhere p Q → at_end (p 0 text) ≡ some a → Q a (length text)
whole {A} {p} {Q} {a} text y e = go (p 0 text) refl e
  where
    go : (r : Reading A) → p 0 text ≡ r → at_end r ≡ some a → Q a (length text)
    go rejected i e = no-some (sym e)
    go (read b at (x ∷ s)) i e = no-some (sym e)
    go (read b at []) i e =
        let same : read b at [] ≡ read a at [] = cc in
        let t = y.took 0 text tt a at [] (i ∙ same) in
        rw (t.splits ∙ append-nil t.part) t.holds

-- What a part of a text prints that is read.
part-long : {A : Type 0} {p : Reader (List A)} (f : A → List ℕ → List ℕ) (part : List ℕ) → Yields anywhere p (λ l n. 4 * length (put_braces f l []) ≤ 5 * n) →
    is_some (at_end (p 0 part)) ≡ true → 4 * length (put_braces f (or_empty (at_end (p 0 part))) []) ≤ 5 * length part
part-long {A} {p} f part y h = go (at_end (p 0 part)) refl h
  where
    go : (o : Option (List A)) → at_end (p 0 part) ≡ o → is_some o ≡ true → 4 * length (put_braces f (or_empty o) []) ≤ 5 * length part
    go none e h = absurd (false-true h)
    go (some l) e h = whole part y e

pub constraints-long : (part rest : List ℕ) → is_some (constraints_in part) ≡ true →
    4 * length (put_braces put_constraint (or_empty (constraints_in part)) rest) ≤ 5 * length part + 4 * length rest
unfolding constraints_in
constraints-long part rest h =
    omega (arith, braces-add put_constraint constraint-adds (or_empty (constraints_in part)) rest, part-long put_constraint part yields-constraint_set h)

pub layers-long : (part rest : List ℕ) → is_some (layer_set_in part) ≡ true →
    4 * length (put_braces put_element (or_empty (layer_set_in part)) rest) ≤ 5 * length part + 4 * length rest
unfolding layer_set_in
layers-long part rest h =
    omega (arith, braces-add put_element element-adds (or_empty (layer_set_in part)) rest, part-long put_element part (yields-layer_set true) h)
