-- What a reader yields, told once for each way of joining readers: it takes a front part of the text, its offset moves by that part's
-- length, and what it read has a property. Assumes nothing.
use Prim.Native.Nat.{ℕ, zero, suc, ◌+◌, ◌-◌, ◌≤◌, ◌<◌}
use Prim.Native.Char.{Char, code}
use Prim.Native.String as S
use Prim.Native.String.{String}
use mathlib.Core.Path.{◌≡◌, refl, sym, ◌∙◌}
use mathlib.Core.Bool.{Bool, true, false, ◌&&◌}
use mathlib.Core.List.{List, [], ◌∷◌, ◌++◌, append_assoc}
use native.Mathlib.Omega.{arith}
use lib.Dec.{eqb, ltb}
use lib.ListN.{length, take, drop, length-append, take-append-drop}
use lib.Seq.{length-take-le}
use borrow.Author.Tests.{ltb-true}
use Rattle.notation.specs.Basics.{pick, between}
use Rattle.notation.specs.Chars.{white_space}
use Rattle.notation.specs.Utf8.{run_from, run, after_first, width_if}
use Rattle.notation.specs.Numbers.{digit_run, decimal}
use Rattle.notation.specs.Tree.{Span, span}
use Rattle.notation.specs.Grammar.{
  Reading,
  rejected,
  read,
  Reader,
  done,
  fail,
  and_then,
  ◌>>=◌,
  ◌>>◌,
  or_else,
  ◌or◌,
  when,
  just,
  word,
  take_while,
  whitespace,
  some_whitespace,
  padded,
  spanned,
  uint,
  collect,
  more_of,
  separated_by,
}
use Rattle.numbers.proofs.Bounds.{digits_le}
use Rattle.laws.proofs.Bools.{and_left, and_right}

-- A statement of places (an offset and the text from there) that reading on keeps: that a place lies in a certain text, or nothing.
pub record Place : Type 1 where
  pub here : ℕ → List ℕ → Type 0
  pub onward : (at : ℕ) (u s : List ℕ) → here at (u ++ s) → here (at + length u) s

abbrev pub anywhere : Place
anywhere = record { here = λ at s. Unit {0}; onward = λ at u s h. tt }

-- One reading: the part that was taken, and a property of what was read and of the part's length.
pub record Took {A : Type 0} (Q : A → ℕ → Type 0) (at : ℕ) (s : List ℕ) (a : A) (at' : ℕ) (s' : List ℕ) : Type 0 where
  pub part : List ℕ
  pub splits : s ≡ part ++ s'
  pub moves : at' ≡ at + length part
  pub holds : Q a (length part)

-- A reader that so yields at every place of the kind.
pub record Yields (c : Place) {A : Type 0} (p : Reader A) (Q : A → ℕ → Type 0) : Type 0 where
  pub took : (at : ℕ) (s : List ℕ) → c.here at s → (a : A) (at' : ℕ) (s' : List ℕ) → p at s ≡ read a at' s' → Took Q at s a at' s'

abbrev pub Takes : {A : Type 0} → Reader A → Type 0
Takes p = Yields anywhere p (λ a n. Unit {0})

pub not-read : {A : Type 0} {a : A} {at : ℕ} {s : List ℕ} {B : Type 0} → ◌≡◌ {A = Reading A} rejected (read a at s) → B
not-read e = absurd (let n : ◌≡◌ {A = ℕ} 0 1 = cc in omega arith)

-- a test that lets a reading pass
pub pick-read : {A : Type 0} {a b : A} {at at' : ℕ} {s s' : List ℕ} (t : Bool) → pick t (read a at s) rejected ≡ read b at' s' →
    (t ≡ true) × (a ≡ b) × (at ≡ at') × (s ≡ s')
pick-read true e = (refl, cc, cc, cc)
pick-read false e = not-read e

-- so many bytes from the front
pub took-front : {A : Type 0} {Q : A → ℕ → Type 0} {a : A} (at n : ℕ) (s : List ℕ) → n ≤ length s → Q a n → Took Q at s a (at + n) (drop n s)
took-front at n s h q = record {
  part = take n s;
  splits = sym (take-append-drop n s);
  moves = rw (length-take-le n s h);
  holds = rw (length-take-le n s h) q;
}

-- the same reading, told of other names for it
pub took-is : {A : Type 0} {Q : A → ℕ → Type 0} {a b : A} {at at₁ at' : ℕ} {s s₁ s' : List ℕ} → a ≡ b → at₁ ≡ at' → s₁ ≡ s' →
    Took Q at s a at₁ s₁ → Took Q at s b at' s'
took-is p q r t = rw (← p, ← q, ← r) t

-- where one reading ends, the place is of the kind again
pub there : (c : Place) {A : Type 0} {Q : A → ℕ → Type 0} {at : ℕ} {s : List ℕ} {a : A} {at' : ℕ} {s' : List ℕ} → Took Q at s a at' s' →
    c.here at s → c.here at' s'
there c {at} {s} {s'} t h = rw t.moves (c.onward at t.part s' (rw t.splits at h))

-- one reading after another
pub took-join : {A B : Type 0} {Q : A → ℕ → Type 0} {R : B → ℕ → Type 0} {at : ℕ} {s : List ℕ} {a : A} {at' : ℕ} {s' : List ℕ} {b : B} {at'' : ℕ}
    {s'' : List ℕ} (t : Took Q at s a at' s') → Took (λ b m. R b (length t.part + m)) at' s' b at'' s'' → Took R at s b at'' s''
took-join t t' = record {
  part = t.part ++ t'.part;
  splits = rw (append_assoc, ← t'.splits) t.splits;
  moves = omega (arith, t.moves, t'.moves, length-append t.part t'.part);
  holds = rw (length-append t.part t'.part) t'.holds;
}

-- One lemma for each way of making a reader.
module _ {c : Place} where
  pub weaken : {A : Type 0} {p : Reader A} {Q R : A → ℕ → Type 0} → Yields c p Q → ((a : A) (n : ℕ) → Q a n → R a n) → Yields c p R
  weaken y w = record {
    took = λ at s h a at' s' e.
        let t = y.took at s h a at' s' e in
        record { part = t.part; splits = t.splits; moves = t.moves; holds = w a (length t.part) t.holds };
  }

  pub yields-done : {A : Type 0} {a : A} {Q : A → ℕ → Type 0} → Q a 0 → Yields c (done a) Q
  yields-done {a} {Q} q = record {
    took = λ at s h b at' s' e.
        let i : a ≡ b = cc in
        let j : at ≡ at' = cc in
        record { part = []; splits = cc; moves = omega arith; holds = rw i at q };
  }

  pub yields-fail : {A : Type 0} {Q : A → ℕ → Type 0} → Yields c fail Q
  yields-fail = record { took = λ at s h b at' s' e. not-read e }

  pub yields-bind : {A B : Type 0} {p : Reader A} {f : A → Reader B} {Q : A → ℕ → Type 0} {R : B → ℕ → Type 0} →
      Yields c p Q → ((a : A) (n : ℕ) → Q a n → Yields c (f a) (λ b m. R b (n + m))) → Yields c (◌>>=◌ p f) R
  yields-bind {A} {B} {p} {f} {Q} {R} y z = record { took = λ at s h b at'' s'' e. go at s h b at'' s'' (p at s) refl e }
    where
      go : (at : ℕ) (s : List ℕ) → c.here at s → (b : B) (at'' : ℕ) (s'' : List ℕ) (r : Reading A) → p at s ≡ r → and_then r f ≡ read b at'' s'' →
          Took R at s b at'' s''
      go at s h b at'' s'' rejected e₀ e = not-read e
      go at s h b at'' s'' (read a at' s') e₀ e =
          let t = y.took at s h a at' s' e₀ in
          took-join t ((z a (length t.part) t.holds).took at' s' (there c t h) b at'' s'' e)

  pub yields-or : {A : Type 0} {p q : Reader A} {Q : A → ℕ → Type 0} → Yields c p Q → Yields c q Q → Yields c (p or q) Q
  yields-or {A} {p} {q} {Q} y z = record { took = λ at s h b at' s' e. go at s h b at' s' (p at s) refl e }
    where
      go : (at : ℕ) (s : List ℕ) → c.here at s → (b : A) (at' : ℕ) (s' : List ℕ) (r : Reading A) → p at s ≡ r → or_else r q at s ≡ read b at' s' →
          Took Q at s b at' s'
      go at s h b at' s' rejected e₀ e = z.took at s h b at' s' e
      go at s h b at' s' (read a at₁ s₁) e₀ e = y.took at s h b at' s' (e₀ ∙ e)

  pub yields-when : {A : Type 0} {p : Reader A} {Q : A → ℕ → Type 0} (t : Bool) → (t ≡ true → Yields c p Q) → Yields c (when t p) Q
  yields-when true y = y refl
  yields-when false y = yields-fail

  pub yields-just : (x : Char) → Yields c (just x) (λ a n. n ≡ 1)
  unfolding just
  yields-just x = record { took = go }
    where
      go : (at : ℕ) (s : List ℕ) → c.here at s → (a : Unit {0}) (at' : ℕ) (s' : List ℕ) → just x at s ≡ read a at' s' →
          Took (λ a n. n ≡ 1) at s a at' s'
      go at [] h a at' s' e = not-read e
      go at (b ∷ s) h a at' s' e =
          let k = pick-read (eqb b (code x)) e in
          took-is k.1 k.2 k.3 (took-front at 1 (b ∷ s) (omega arith) refl)

  pub yields-word : (w : String) → Yields c (word w) (λ a n. Unit {0})
  unfolding word
  yields-word S.[] = yields-done tt
  yields-word (S.◌∷◌ x w) = yields-bind (yields-just x) (λ a n q. yields-word w)

  pub yields-word-some : (x : Char) (w : String) → Yields c (word (S.◌∷◌ x w)) (λ a n. 1 ≤ n)
  unfolding word
  yields-word-some x w = yields-bind (yields-just x) (λ a n q. weaken (yields-word w) (λ b m _. omega arith))

-- A run takes no more than there is.
pub run-le : (p : ℕ → Bool) (k : ℕ) (s : List ℕ) → run_from p k s ≤ length s
unfolding run_from
run-le p k [] = omega arith
run-le p (suc k) (b ∷ s) = omega (arith, run-le p k s)
run-le p zero (b ∷ s) = go (width_if p (b ∷ s)) (λ k. run-le p k s)
  where
    go : (w : ℕ) → ((k : ℕ) → run_from p k s ≤ length s) → after_first w 0 (λ k. suc (run_from p k s)) ≤ suc (length s)
    go zero h = omega arith
    go (suc k) h = omega (arith, h k)

-- a property that more bytes keep
abbrev pub Grows : {A : Type 0} → (A → ℕ → Type 0) → Type 0
Grows {A} Q = (a : A) (n m : ℕ) → n ≤ m → Q a n → Q a m

module _ {c : Place} where
  pub yields-take_while : (p : ℕ → Bool) → Yields c (take_while p) (λ a n. a ≡ n)
  yields-take_while p = record {
    took = λ at s h a at' s' e.
        let k = pick-read true e in
        took-is k.1 k.2 k.3 (took-front at (run p s) s (run-le p 0 s) refl);
  }

  pub yields-whitespace : Yields c whitespace (λ a n. Unit {0})
  yields-whitespace = yields-bind {p = take_while white_space} {f = λ n. done tt} (yields-take_while white_space) (λ a n q. yields-done tt)

  pub yields-some_whitespace : Yields c some_whitespace (λ a n. 0 < n)
  yields-some_whitespace =
      yields-bind {p = take_while white_space} {f = λ n. pick (ltb 0 n) (done tt) fail} (yields-take_while white_space) (λ a n q. go a n q (ltb 0 a) refl)
    where
      go : (a n : ℕ) → a ≡ n → (t : Bool) → ltb 0 a ≡ t → Yields c (pick t (done {A = Unit {0}} tt) fail) (λ b m. 0 < n + m)
      go a n q true h = yields-done (omega (arith, ltb-true 0 a h))
      go a n q false h = yields-fail

  pub yields-padded : {A : Type 0} {p : Reader A} {Q : A → ℕ → Type 0} → Grows Q → Yields c p Q → Yields c (padded p) Q
  yields-padded {p} g y =
      yields-bind {p = whitespace} {f = λ _. ◌>>=◌ p (λ a. ◌>>◌ whitespace (done a))} yields-whitespace λ _ n _.
      yields-bind y λ a m q.
      yields-bind {p = whitespace} {f = λ _. done a} yields-whitespace λ _ k _.
      yields-done (g a m (n + (m + (k + 0))) (omega arith) q)

  pub yields-uint : (low high : ℕ) → Yields c (uint low high) (λ v n. (between low high v ≡ true) × (0 < n))
  unfolding uint
  yields-uint low high = record {
    took = λ at s h a at' s' e.
        let v = decimal 0 (take (digit_run s) s) in
        let k = pick-read (ltb 0 (digit_run s) && between low high v) e in
        took-is k.1 k.2 k.3
        (took-front at (digit_run s) s (digits_le s)
        (and_right (ltb 0 (digit_run s)) _ k.0, ltb-true 0 (digit_run s) (and_left _ (between low high v) k.0)));
  }

  pub yields-spanned : {A : Type 0} {p : Reader A} {Q : A → ℕ → Type 0} → Yields c p Q → Yields c (spanned p) (λ x n. x.size ≡ n)
  yields-spanned {A} {p} {Q} y = record { took = λ at s h x at'' s'' e. go at s h x at'' s'' (p at s) refl e }
    where
      go : (at : ℕ) (s : List ℕ) → c.here at s → (x : Span) (at'' : ℕ) (s'' : List ℕ) (r : Reading A) → p at s ≡ r →
          and_then r (λ a at'. done (span at (at' - at)) at') ≡ read x at'' s'' → Took (λ x n. x.size ≡ n) at s x at'' s''
      go at s h x at'' s'' rejected e₀ e = not-read e
      go at s h x at'' s'' (read a at' s') e₀ e =
          let t = y.took at s h a at' s' e₀ in
          took-is {a = span at (at' - at)} {at₁ = at'} {s₁ = s'} (cc) (cc) (cc)
          (record { part = t.part; splits = t.splits; moves = t.moves; holds = omega (arith, t.moves) })

  -- Lists whose separators count: Q is of the items after the first, each read with the separator before it, and R of the whole list.
  module _ {A L : Type 0} (add : A → L → L) (empty : L) {item : Reader A} (separator : Reader (Unit {0})) {P P' : A → ℕ → Type 0}
      (Q R : L → ℕ → Type 0) (None-more : Q empty 0) (None-first : R empty 0)
      (one_more : (a : A) (l : L) (n m : ℕ) → P' a n → Q l m → Q (add a l) (n + (m + 0)))
      (one-first : (a : A) (l : L) (n m : ℕ) → P a n → Q l m → R (add a l) (n + (m + 0)))
      (first : Yields c item P) (after : Yields c (◌>>◌ separator item) P') where
    took-collect : {T : L → ℕ → Type 0} {S : A → ℕ → Type 0} {more : Reader L} → T empty 0 →
        ((a : A) (l : L) (n m : ℕ) → S a n → Q l m → T (add a l) (n + (m + 0))) → Yields c more Q → (at : ℕ) (s : List ℕ) → c.here at s → (r : Reading A) →
        ((a : A) (at' : ℕ) (s' : List ℕ) → r ≡ read a at' s' → Took S at s a at' s') →
        (l : L) (at'' : ℕ) (s'' : List ℕ) → collect add empty r more at s ≡ read l at'' s'' → Took T at s l at'' s''
    took-collect none_left w y at s h rejected t l at'' s'' e = (yields-done {c = c} {a = empty} none_left).took at s h l at'' s'' e
    took-collect {T} {S} {more} none_left w y at s h (read a at' s') t l at'' s'' e =
        let u = t a at' s' refl in
        took-join u
        ((yields-bind {p = more} {f = λ l. done (add a l)} {Q = Q} {R = λ b m. T b (length u.part + m)} y
        (λ l m q. yields-done (w a l (length u.part) m u.holds q))
        ).took at' s' (there c u h) l at'' s'' e)

    yields_more : (k : ℕ) → Yields c (more_of add empty item separator k) Q
    unfolding more_of
    yields_more zero = yields-done None-more
    yields_more (suc k) = record {
      took = λ at s h l at'' s'' e.
          took-collect None-more one_more (yields_more k) at s h (and_then (separator at s) (λ _. item)) (λ a at' s'. after.took at s h a at' s') l at'' s'' e;
    }

    pub yields-counted : Yields c (separated_by add empty item separator) R
    yields-counted = record {
      took = λ at s h l at'' s'' e.
          took-collect None-first one-first (yields_more (length s)) at s h (item at s) (λ a at' s'. first.took at s h a at' s') l at'' s'' e;
    }

  -- Lists whose separators do not count: a property of the items, which more bytes keep, gives one of the list.
  pub yields-separated_by : {A L : Type 0} (add : A → L → L) (empty : L) {item : Reader A} {separator : Reader (Unit {0})}
      {P : A → ℕ → Type 0} (Q : L → ℕ → Type 0) → Q empty 0 → ((a : A) (l : L) (n m : ℕ) → P a n → Q l m → Q (add a l) (n + m)) →
      Grows Q → Yields c item P → Yields c separator (λ a n. Unit {0}) → Yields c (separated_by add empty item separator) Q
  yields-separated_by add empty {item} {separator} {P} Q none one grows items separators =
      yields-counted add empty separator {P' = λ a n. (m : ℕ) × (m ≤ n) × P a m} Q Q none none
      (λ a l n m p q. grows (add a l) (p.0 + m) (n + (m + 0)) (omega (arith, p.1)) (one a l p.0 m p.2 q))
      (λ a l n m p q. grows (add a l) (n + m) (n + (m + 0)) (omega arith) (one a l n m p q))
      items (yields-bind {p = separator} {f = λ _. item} separators (λ _ n _. weaken items (λ b m p. (m, (omega arith), p))))
