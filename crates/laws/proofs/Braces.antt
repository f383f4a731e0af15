-- Inside braces: what is read there is decided before the next `}`, so that a part in braces is read alone as it was in its text.
-- Assumes nothing.
use Prim.Native.Nat.{ℕ, zero, suc, ◌+◌, ◌≤◌, ◌<◌}
use Prim.Native.Char.{Char, code}
use mathlib.Core.Path.{◌≡◌, refl, sym, ap, ◌∙◌}
use mathlib.Core.Bool.{Bool, true, false, ◌&&◌}
use mathlib.Core.List.{List, [], ◌∷◌, ◌++◌, append_assoc}
use mathlib.Core.Option.{some}
use native.Mathlib.Omega.{arith}
use lib.Dec.{eqb, ltb}
use lib.IntN.{pos, neg_ℤ}
use lib.ListN.{length, take, drop, length-append, take-append-drop}
use lib.Seq.{length-take-le, take-append-le, drop-append-le}
use borrow.Author.Tests.{eqb-true}
use Rattle.notation.specs.Basics.{pick, between, one_of}
use Rattle.notation.specs.Chars.{white_space, classify, is_family_char}
use Rattle.notation.specs.Utf8.{char_width, code_point, run_from, run}
use Rattle.notation.specs.Numbers.{digit_run, decimal}
use Rattle.notation.specs.Layers.{single, range, MAX-LAYER}
use Rattle.notation.specs.Tree.{from_to, swap, fix}
use Rattle.notation.specs.Grammar.{
  Reading,
  rejected,
  read,
  Reader,
  done,
  fail,
  and_then,
  ◌>>=◌,
  ◌>>◌,
  ◌or◌,
  when,
  just,
  word,
  take_while,
  whitespace,
  padded,
  uint,
  sint,
  more_of,
  separated_by,
  braces,
  family_text,
  constraint,
  layer,
  signed_layer,
  layer_set_element,
  at_end,
}
use Rattle.numbers.proofs.Bounds.{digits_le}
use Rattle.laws.proofs.Readers.{
  anywhere,
  Took,
  Yields,
  Takes,
  not-read,
  pick-read,
  weaken,
  yields-bind,
  yields-just,
  yields-padded,
  yields-separated_by,
  run-le,
}
use Rattle.laws.proofs.Runs.{run-cut, digits-cut}

-- a reader, handed v and whatever follows after a `}`, reads a from the front part u of v and leaves w
abbrev pub Reads : {A : Type 0} → Reader A → List ℕ → A → List ℕ → List ℕ → Type 0
Reads p v a u w = (at : ℕ) (r : List ℕ) → p at (v ++ (125 ∷ r)) ≡ read a (at + length u) (w ++ (125 ∷ r))

abbrev pub Refuses : {A : Type 0} → Reader A → List ℕ → Type 0
Refuses p v = (at : ℕ) (r : List ℕ) → p at (v ++ (125 ∷ r)) ≡ rejected

-- Before a `}`: a reader refuses whatever follows it, or takes the same front part whatever follows it.
pub data Stopped {A : Type 0} (p : Reader A) (v : List ℕ) : Type 0 where
  refuses : Refuses p v → Stopped p v
  takes : (a : A) (u w : List ℕ) → v ≡ u ++ w → Reads p v a u w → Stopped p v

abbrev pub Stops : {A : Type 0} → Reader A → Type 0
Stops p = (v : List ℕ) → Stopped p v

read_none : {A : Type 0} (a : A) (at : ℕ) (s : List ℕ) → read a at s ≡ read a (at + 0) s
read_none a at s = ap (λ (n : ℕ). read a n s) (let e : at ≡ at + 0 = omega arith in e)

read-both : {A : Type 0} (a : A) (at : ℕ) (u u' s : List ℕ) → read a (at + length u + length u') s ≡ read a (at + length (u ++ u')) s
read-both a at u u' s = ap (λ (n : ℕ). read a n s) (let e : at + length u + length u' ≡ at + length (u ++ u') = omega (arith, length-append u u') in e)

pub stops-done : {A : Type 0} (a : A) → Stops (done a)
stops-done a v = takes a [] v refl (λ at r. read_none a at (v ++ (125 ∷ r)))

pub stops-fail : {A : Type 0} → Stops {A = A} fail
stops-fail v = refuses (λ at r. refl)

pub stops-bind : {A B : Type 0} {p : Reader A} {f : A → Reader B} → Stops p → ((a : A) → Stops (f a)) → Stops (◌>>=◌ p f)
stops-bind {A} {B} {p} {f} x y v = go (x v)
  where
    next : (a : A) (u w : List ℕ) → v ≡ u ++ w → Reads p v a u w → Stopped (f a) w → Stopped (◌>>=◌ p f) v
    next a u w e h (refuses h') = refuses (λ at r. rw (h at r) (h' (at + length u) r))
    next a u w e h (takes b u' w' e' h') =
        takes b (u ++ u') w' (rw (append_assoc, ← e') e)
        (λ at r. rw (h at r, h' (at + length u) r) (read-both b at u u' (w' ++ (125 ∷ r))))

    go : Stopped p v → Stopped (◌>>=◌ p f) v
    go (refuses h) = refuses (λ at r. rw (h at r))
    go (takes a u w e h) = next a u w e h (y a w)

pub stops-or : {A : Type 0} {p q : Reader A} → Stops p → Stops q → Stops (p or q)
stops-or {A} {p} {q} x y v = go (x v) (y v)
  where
    go : Stopped p v → Stopped q v → Stopped (p or q) v
    go (refuses h) (refuses h') = refuses (λ at r. rw (h at r) (h' at r))
    go (refuses h) (takes a u w e h') = takes a u w e (λ at r. rw (h at r) (h' at r))
    go (takes a u w e h) _ = takes a u w e (λ at r. rw (h at r))

pub stops-when : {A : Type 0} {p : Reader A} (t : Bool) → Stops p → Stops (when t p)
stops-when true x = x
stops-when false x = stops-fail

pub stops-just : (x : Char) → eqb 125 (code x) ≡ false → Stops (just x)
unfolding just
stops-just x n [] = refuses (λ at r. rw n)
stops-just x n (b ∷ v) = go (eqb b (code x)) refl
  where
    go : (t : Bool) → eqb b (code x) ≡ t → Stopped (just x) (b ∷ v)
    go true e = takes tt (b ∷ []) v refl (λ at r. rw e)
    go false e = refuses (λ at r. rw e)

-- A reader that takes so many bytes, where the part before the `}` alone says how many.
stops-front : {A : Type 0} {p : Reader A} (v : List ℕ) (a : A) (n : ℕ) (t : Bool) → n ≤ length v →
    ((at : ℕ) (r : List ℕ) → p at (v ++ (125 ∷ r)) ≡ pick t (read a (at + n) (drop n (v ++ (125 ∷ r)))) rejected) → Stopped p v
stops-front v a n false i h = refuses h
stops-front v a n true i h =
    takes a (take n v) (drop n v) (sym (take-append-drop n v))
    (λ at r. rw (h at r, drop-append-le n v (125 ∷ r) i, length-take-le n v i))

run-stops : (p : ℕ → Bool) → p 125 ≡ false → (v r : List ℕ) → run p (v ++ (125 ∷ r)) ≡ run p v
unfolding char_width code_point run_from
run-stops p n v r = run-cut p 0 v (125 ∷ r) (omega arith) refl (rw n)

pub stops-take_while : (p : ℕ → Bool) → p 125 ≡ false → Stops (take_while p)
stops-take_while p n v = stops-front v (run p v) (run p v) true (run-le p 0 v) (λ at r. rw (run-stops p n v r))

no-family : is_family_char 125 ≡ false
unfolding classify one_of
no-family = refl

no-white : white_space 125 ≡ false
unfolding white_space one_of
no-white = refl

pub stops-family_text : Stops family_text
stops-family_text v =
    stops-front v (take (run is_family_char v) v) (run is_family_char v) (ltb 0 (run is_family_char v)) (run-le is_family_char 0 v)
    (λ at r. rw (run-stops is_family_char no-family v r, take-append-le (run is_family_char v) v (125 ∷ r) (run-le is_family_char 0 v)))

pub stops-uint : (low high : ℕ) → Stops (uint low high)
unfolding uint digit_run
stops-uint low high v =
    stops-front v (decimal 0 (take (digit_run v) v)) (digit_run v) (ltb 0 (digit_run v) && between low high (decimal 0 (take (digit_run v) v))) (digits_le v)
    (λ at r. rw (digits-cut v (125 ∷ r) refl, take-append-le (digit_run v) v (125 ∷ r) (digits_le v)))

pub stops-whitespace : Stops whitespace
stops-whitespace = stops-bind {p = take_while white_space} {f = λ _. done tt} (stops-take_while white_space no-white) (λ _. stops-done tt)

pub stops-padded : {A : Type 0} {p : Reader A} → Stops p → Stops (padded p)
stops-padded {p} x =
    stops-bind {p = whitespace} {f = λ _. ◌>>=◌ p (λ a. ◌>>◌ whitespace (done a))} stops-whitespace λ _.
    stops-bind x λ a.
    stops-bind {p = whitespace} {f = λ _. done a} stops-whitespace λ _. stops-done a

pub stops-sint : (low high high_negative : ℕ) → Stops (sint low high high_negative)
stops-sint low high high_negative =
    stops-or (stops-bind (stops-just "-" refl) λ _. stops-bind (stops-uint low high_negative) λ n. stops-done (neg_ℤ (pos n)))
    (stops-bind (stops-uint low high) λ n. stops-done (pos n))

stops-arrow : Stops (word "->")
unfolding word
stops-arrow = stops-bind (stops-just "-" refl) λ _. stops-bind (stops-just ">" refl) λ _. stops-done tt

stops-swap : Stops (word "<>")
unfolding word
stops-swap = stops-bind (stops-just "<" refl) λ _. stops-bind (stops-just ">" refl) λ _. stops-done tt

stops-dots : Stops (word "..")
unfolding word
stops-dots = stops-bind (stops-just "." refl) λ _. stops-bind (stops-just "." refl) λ _. stops-done tt

pub stops-constraint : Stops constraint
stops-constraint =
    stops-or (stops-bind stops-family_text λ a. stops-bind (stops-padded stops-arrow) λ _. stops-bind stops-family_text λ b. stops-done (from_to a b))
    (stops-or (stops-bind stops-family_text λ a. stops-bind (stops-padded stops-swap) λ _. stops-bind stops-family_text λ b. stops-done (swap a b))
    (stops-bind stops-family_text λ a. stops-done (fix a)))

pub stops-element : (hsc1 : Bool) → Stops (layer_set_element hsc1)
stops-element hsc1 =
    stops-or (stops-bind signed λ i. stops-bind stops-dots λ _. stops-bind signed λ j. stops-done (range i j))
    (stops-or
    (stops-when hsc1
    (stops-bind plain λ i. stops-bind (stops-just "-" refl) λ _. stops-bind plain λ j. stops-done (range (pos i) (pos j))))
    (stops-bind signed λ i. stops-done (single i)))
  where
    signed : Stops signed_layer
    signed = stops-sint 1 MAX-LAYER MAX-LAYER

    plain : Stops layer
    plain = stops-uint 1 MAX-LAYER

-- Lists inside braces. What matters of the separator and an item is that together they take something.
module _ {A L : Type 0} (add : A → L → L) (empty : L) (item : Reader A) (separator : Reader (Unit {0}))
    (items : Stops item) (both : Stops (◌>>◌ separator item)) (some-taken : Yields anywhere (◌>>◌ separator item) (λ a n. 1 ≤ n)) where
  -- those after the first, with m or more for the count
  abbrev More : ℕ → List ℕ → Type 0
  More m v = (l : L) × (u : List ℕ) × (w : List ℕ) × (v ≡ u ++ w) ×
      ((k at : ℕ) (r : List ℕ) → m ≤ k → more_of add empty item separator k at (v ++ (125 ∷ r)) ≡ read l (at + length u) (w ++ (125 ∷ r)))

  stops-more : (m : ℕ) (v : List ℕ) → length v < m → More m v
  unfolding more_of
  stops-more zero v short = absurd (omega arith)
  stops-more (suc m) v short = go (both v) (λ w h. stops-more m w h)
    where
      none_left : Refuses (◌>>◌ separator item) v → (k at : ℕ) (r : List ℕ) → suc m ≤ k →
          more_of add empty item separator k at (v ++ (125 ∷ r)) ≡ read empty (at + 0) (v ++ (125 ∷ r))
      none_left h zero at r i = absurd (omega arith)
      none_left h (suc k) at r i = rw (h at r) (read_none empty at (v ++ (125 ∷ r)))

      one_more : (a : A) (u w : List ℕ) → v ≡ u ++ w → Reads (◌>>◌ separator item) v a u w → More m w → More (suc m) v
      one_more a u w e h x = (add a x.0, u ++ x.1, x.2, rw (append_assoc, ← x.3) e, step)
        where
          step : (k at : ℕ) (r : List ℕ) → suc m ≤ k →
              more_of add empty item separator k at (v ++ (125 ∷ r)) ≡ read (add a x.0) (at + length (u ++ x.1)) (x.2 ++ (125 ∷ r))
          step zero at r i = absurd (omega arith)
          step (suc k) at r i =
              rw (h at r, x.4 k (at + length u) r (omega arith)) (read-both (add a x.0) at u x.1 (x.2 ++ (125 ∷ r)))

      go : Stopped (◌>>◌ separator item) v → ((w : List ℕ) → length w < m → More m w) → More (suc m) v
      go (refuses h) f = (empty, [], v, refl, none_left h)
      go (takes a u w e h) f =
          let t = some-taken.took 0 (v ++ (125 ∷ [])) tt a (0 + length u) (w ++ (125 ∷ [])) (h 0 []) in
          one_more a u w e h (f w (omega (arith, t.moves, t.holds, ap length e, length-append u w)))

  pub stops-separated_by : Stops (separated_by add empty item separator)
  stops-separated_by v = go (items v)
    where
      go : Stopped item v → Stopped (separated_by add empty item separator) v
      go (refuses h) = takes empty [] v refl (λ at r. rw (h at r) (read_none empty at (v ++ (125 ∷ r))))
      go (takes a u w e h) =
          let x = stops-more (suc (length w)) w (omega arith) in
          takes (add a x.0) (u ++ x.1) x.2 (rw (append_assoc, ← x.3) e)
          (λ at r.
          let i : suc (length w) ≤ length (v ++ (125 ∷ r)) = omega (arith, ap length e, length-append u w, length-append v (125 ∷ r)) in
          rw (h at r, x.4 (length (v ++ (125 ∷ r))) (at + length u) r i)
          (read-both (add a x.0) at u x.1 (x.2 ++ (125 ∷ r))))

-- Opening a reading: what was read on the way.
pub opened : {A B : Type 0} {f : A → Reader B} {b : B} {at : ℕ} {s : List ℕ} (r : Reading A) → and_then r f ≡ read b at s →
    (a : A) × (at' : ℕ) × (s' : List ℕ) × (r ≡ read a at' s') × (f a at' s' ≡ read b at s)
opened rejected e = not-read e
opened (read a at' s') e = (a, at', s', refl, e)

pub just-read : (x : Char) (at : ℕ) (s : List ℕ) {a : Unit {0}} {at' : ℕ} {s' : List ℕ} → just x at s ≡ read a at' s' →
    (s ≡ code x ∷ s') × (at' ≡ at + 1)
unfolding just
just-read x at [] e = not-read e
just-read x at (b ∷ s) e =
    let k = pick-read (eqb b (code x)) e in
    (λ i. eqb-true b (code x) k.0 i ∷ k.3 i, sym k.2)

-- A part in braces is read alone as it was in its text: its first byte, what is inside, its last byte.
abbrev enclosed : {A : Type 0} → Reader A → Reader A
enclosed p = do
  just "{"
  a ← p
  just "}"
  done a

empty-list : (w : List ℕ) → length w ≡ 0 → w ≡ []
empty-list [] e = refl
empty-list (b ∷ w) e = absurd (omega arith)

module _ {A : Type 0} (p : Reader A) where
  all-before : (at at' : ℕ) (a : A) (v r : List ℕ) → p at (v ++ (125 ∷ r)) ≡ read a at' (125 ∷ r) → Stopped p v →
      (at₁ : ℕ) (r₁ : List ℕ) → p at₁ (v ++ (125 ∷ r₁)) ≡ read a (at₁ + length v) (125 ∷ r₁)
  all-before at at' a v r e (refuses h) at₁ r₁ = not-read (sym (h at r) ∙ e)
  all-before at at' a v r e (takes b u w i h) at₁ r₁ =
      let d : read b (at + length u) (w ++ (125 ∷ r)) ≡ read a at' (125 ∷ r) = sym (h at r) ∙ e in
      let j : w ++ (125 ∷ r) ≡ 125 ∷ r = cc in
      let k : b ≡ a = cc in
      let n : w ≡ [] = empty-list w (omega (arith, ap length j, length-append w (125 ∷ r))) in
      let m : length u ≡ length v = omega (arith, ap length i, length-append u w, ap length n) in
      rw (h at₁ r₁, n, k, m)

  abbrev Alone : ℕ → List ℕ → A → ℕ → List ℕ → Type 0
  Alone at s a at' s' = (u : List ℕ) × (s ≡ u ++ s') × (at' ≡ at + length u) × (at_end (enclosed p 0 u) ≡ some a)

  module _ (stops : Stops p) (taken : Takes p) (at : ℕ) (s : List ℕ) (a : A) (at' : ℕ) (s' : List ℕ) where
    around : (at₁ at₂ : ℕ) (s₁ s₂ : List ℕ) → s ≡ 123 ∷ s₁ → at₁ ≡ at + 1 → s₂ ≡ 125 ∷ s' → at' ≡ at₂ + 1 → p at₁ s₁ ≡ read a at₂ s₂ →
        Took (λ a n. Unit {0}) at₁ s₁ a at₂ s₂ → Alone at s a at' s'
    unfolding just
    around at₁ at₂ s₁ s₂ i j i₂ j₂ e t = (
      123 ∷ (t.part ++ (125 ∷ [])),
      rw (append_assoc, ← i₂, ← t.splits) i,
      omega (arith, t.moves, length-append t.part (125 ∷ [])),
      rw (all-before at₁ at₂ a t.part s' (rw (← i₂, ← t.splits) e) (stops t.part) 1 []),
    )

    third : (at₁ at₂ : ℕ) (s₁ s₂ : List ℕ) (b : A) (r : Reading (Unit {0})) → s ≡ 123 ∷ s₁ → at₁ ≡ at + 1 → p at₁ s₁ ≡ read b at₂ s₂ →
        just "}" at₂ s₂ ≡ r → and_then r (λ _. done b) ≡ read a at' s' → Alone at s a at' s'
    third at₁ at₂ s₁ s₂ b rejected i j e₁ e₂ e = not-read e
    third at₁ at₂ s₁ s₂ b (read x at₃ s₃) i j e₁ e₂ e =
        let k = just-read "}" at₂ s₂ (e₂ ∙ (let d : read x at₃ s₃ ≡ read x at' s' = cc in d)) in
        let e' : p at₁ s₁ ≡ read a at₂ s₂ = cc in
        around at₁ at₂ s₁ s₂ i j k.0 k.1 e' (taken.took at₁ s₁ tt a at₂ s₂ e')

    inside : (at₁ : ℕ) (s₁ : List ℕ) (r : Reading A) → s ≡ 123 ∷ s₁ → at₁ ≡ at + 1 → p at₁ s₁ ≡ r →
        and_then r (λ b. ◌>>◌ (just "}") (done b)) ≡ read a at' s' → Alone at s a at' s'
    inside at₁ s₁ rejected i j e₁ e = not-read e
    inside at₁ s₁ (read b at₂ s₂) i j e₁ e = third at₁ at₂ s₁ s₂ b (just "}" at₂ s₂) i j e₁ refl e

    enclosed-alone : enclosed p at s ≡ read a at' s' → Alone at s a at' s'
    enclosed-alone e = go (just "{" at s) refl e
      where
        go : (r : Reading (Unit {0})) → just "{" at s ≡ r → and_then r (λ _. ◌>>=◌ p (λ b. ◌>>◌ (just "}") (done b))) ≡ read a at' s' →
            Alone at s a at' s'
        go rejected e₀ e = not-read e
        go (read x at₁ s₁) e₀ e = inside at₁ s₁ (p at₁ s₁) (just-read "{" at s e₀).0 (just-read "{" at s e₀).1 refl e

module _ {A : Type 0} (item : Reader A) (stops : Stops item) (taken : Takes item) where
  comma : Yields anywhere (padded (just ",")) (λ a n. 1 ≤ n)
  comma = yields-padded (λ a n m h q. omega arith) (weaken (yields-just ",") (λ a n h. omega arith))

  stops-inside : Stops (padded (separated_by ◌∷◌ [] item (padded (just ","))))
  stops-inside =
      stops-padded (stops-separated_by ◌∷◌ [] item (padded (just ",")) stops
      (stops-bind (stops-padded (stops-just "," refl)) (λ _. stops))
      (yields-bind comma (λ _ n h. weaken taken (λ a m q. omega arith))))

  takes-inside : Takes (padded (separated_by ◌∷◌ [] item (padded (just ","))))
  takes-inside =
      yields-padded (λ a n m h q. tt)
      (yields-separated_by ◌∷◌ [] (λ l n. Unit {0}) tt (λ a l n m p q. tt) (λ l n m h q. tt) taken (weaken comma (λ a n h. tt)))

  pub braces-alone : (at : ℕ) (s : List ℕ) (l : List A) (at' : ℕ) (s' : List ℕ) → braces item at s ≡ read l at' s' →
      (u : List ℕ) × (s ≡ u ++ s') × (at' ≡ at + length u) × (at_end (braces item 0 u) ≡ some l)
  braces-alone at s l at' s' e = enclosed-alone _ stops-inside takes-inside at s l at' s' e
