-- Texts without their white space: they are what constraint sets print as, and what the loop over a part writes. Assumes nothing.
use Prim.Native.Nat.{ℕ, zero, suc, ◌+◌, ◌≤◌, ◌<◌}
use Prim.Native.Char.{Char, code}
use Prim.Native.String as S
use Prim.Native.String.{String}
use mathlib.Core.Path.{◌≡◌, refl, sym, ap, ◌∙◌}
use mathlib.Core.Bool.{Bool, true, false, ◌&&◌}
use mathlib.Core.List.{List, [], ◌∷◌, ◌++◌, append_assoc}
use native.Mathlib.Numerals.{add-one}
use native.Mathlib.Omega.{arith}
use borrow.Author.Tests.{eq-eqb, le-leb, lt-leb}
use lib.Dec.{eqb, leb, ltb}
use lib.ListN.{length, get_or, take, drop, length-drop, drop_of_length-le, take-append-drop}
use lib.Seq.{length-take-le, drop-cons, drop-drop}
use Rattle.notation.specs.Basics.{pick, between, one_of, every}
use Rattle.notation.specs.Chars.{is_family_char, white_space}
use Rattle.notation.specs.Utf8.{byte_at, continuation, char_width, code_point, after_first, width_if, run_from, run}
use Rattle.notation.specs.Tree.{Constraint, from_to, swap, fix}
use Rattle.notation.specs.Grammar.{
  Reading,
  rejected,
  read,
  Reader,
  and_then,
  or_else,
  done,
  just,
  word,
  whitespace,
  padded,
  collect,
  more_of,
  separated_by,
  braces,
  family_text,
  constraint,
  constraint_set,
  at_end,
}
use Rattle.notation.specs.Meaning.{or_empty, constraints_in}
use Rattle.notation.specs.WellFormed.{is_some}
use Rattle.notation.specs.Print.{put, put_more, put_braces, put_constraint}
use Rattle.charsets.proofs.Bools.{between-low, between-high, below}
use Rattle.charsets.proofs.Runs.{width_if-length}
use Rattle.charsets.proofs.Widths.{two, three, four, starts-three, starts-four, rows}
use Rattle.laws.proofs.Bools.{false-true, and_left, and_right, pick_same}
use Rattle.laws.proofs.Readers.{not-read, pick-read, run-le}
use Rattle.laws.proofs.Runs.{run_alone}
use Rattle.laws.proofs.Braces.{just-read}
use Rattle.laws.proofs.ReadBack.Starts.{fails, no_run, Whole, end, skip, char, family-whole, name-no-white}
use Rattle.display.specs.Written.{Wrote}
use Rattle.display.specs.declared.write.Printer.{Printer}
use Rattle.display.specs.Squeezed.{squeezed_from, squeezed}
use Rattle.display.proofs.Writing.{wrote_none, wrote_then, wrote_as}

-- `{ Γ ->b , c }` with U+00A0, a tab and U+3000 in it
example : squeezed (123 ∷ 0xc2 ∷ 0xa0 ∷ 0xce ∷ 0x93 ∷ 32 ∷ 45 ∷ 62 ∷ 98 ∷ 9 ∷ 44 ∷ 0xe3 ∷ 0x80 ∷ 0x80 ∷ 99 ∷ 32 ∷ 125 ∷ [])
    ≡ 123 ∷ 0xce ∷ 0x93 ∷ 45 ∷ 62 ∷ 98 ∷ 44 ∷ 99 ∷ 125 ∷ []
unfolding squeezed_from char_width code_point white_space one_of
example = refl

-- Over white space, and over a byte at which none begins.
from-drop : (k : ℕ) (s : List ℕ) → squeezed_from k s ≡ squeezed (drop k s)
unfolding squeezed_from
from-drop zero s = refl
from-drop (suc k) [] = refl
from-drop (suc k) (b ∷ s) = from-drop k s

past-space : (s : List ℕ) (w : ℕ) → w ≡ width_if white_space s → 0 < w → squeezed s ≡ squeezed (drop w s)
unfolding squeezed_from
past-space s zero e h = absurd (omega arith)
past-space [] (suc k) e h = refl
past-space (b ∷ s) (suc k) e h = rw (← e) (from-drop k s)

past-byte : (b : ℕ) (s : List ℕ) → width_if white_space (b ∷ s) ≡ 0 → squeezed (b ∷ s) ≡ b ∷ squeezed s
unfolding squeezed_from
past-byte b s e = rw e

past-run : (k : ℕ) (s : List ℕ) → squeezed_from k s ≡ squeezed (drop (run_from white_space k s) s)
unfolding squeezed_from run_from
past-run k [] = refl
past-run (suc k) (b ∷ s) = past-run k s
past-run zero (b ∷ s) = go (width_if white_space (b ∷ s)) refl (λ k. past-run k s)
  where
    go : (w : ℕ) → width_if white_space (b ∷ s) ≡ w → ((k : ℕ) → squeezed_from k s ≡ squeezed (drop (run_from white_space k s) s)) →
        after_first w (b ∷ squeezed s) (λ k. squeezed_from k s) ≡ squeezed (drop (after_first w 0 (λ k. suc (run_from white_space k s))) (b ∷ s))
    go zero e f = sym (past-byte b s e)
    go (suc k) e f = f k

no-white : (b : ℕ) (s : List ℕ) → run white_space (b ∷ s) ≡ 0 → width_if white_space (b ∷ s) ≡ 0
unfolding run_from
no-white b s e = go (width_if white_space (b ∷ s)) e
  where
    go : (w : ℕ) → after_first w 0 (λ k. suc (run_from white_space k s)) ≡ 0 → w ≡ 0
    go zero h = refl
    go (suc k) h = absurd (omega arith)

-- The bytes of a character after the first begin none.
continues : (x : ℕ) → 0x80 ≤ x → x ≤ 0xbf → continuation x ≡ true
continues x l h = rw (le-leb 0x80 x l, le-leb x 0xbf h)

second : (t u : Bool) (m n x : ℕ) → 0x80 ≤ m → n ≤ 0xbf → between (pick t m 0x80) (pick u n 0xbf) x ≡ true → continuation x ≡ true
second true true m n x l h e = continues x (omega (arith, between-low m n x e)) (omega (arith, between-high m n x e))
second true false m n x l h e = continues x (omega (arith, between-low m 0xbf x e)) (between-high m 0xbf x e)
second false true m n x l h e = continues x (between-low 0x80 n x e) (omega (arith, between-high 0x80 n x e))
second false false m n x l h e = e

begins-none : (b : ℕ) (s : List ℕ) → continuation b ≡ true → width_if white_space (b ∷ s) ≡ 0
unfolding char_width
begins-none b s e =
    let l : 0x80 ≤ b = between-low 0x80 0xbf b e in
    let h : b ≤ 0xbf = between-high 0x80 0xbf b e in
    rw (lt-leb b 0x7f (omega arith), below 0xc2 0xdf b (omega arith), below 0xe0 0xef b (omega arith), below 0xf0 0xf4 b (omega arith))
    (pick_same (white_space (code_point (b ∷ s))) 0)

module _ (a : ℕ) (s : List ℕ) where
  by_rows : (t₁ t₂ t₃ t₄ : Bool) (k i : ℕ) → two a (byte_at s 0) ≡ t₂ → three a (byte_at s 0) (byte_at s 1) ≡ t₃ →
      four a (byte_at s 0) (byte_at s 1) (byte_at s 2) ≡ t₄ → rows t₁ t₂ t₃ t₄ ≡ suc k → i < k → continuation (byte_at s i) ≡ true
  by_rows true t₂ t₃ t₄ k i e₂ e₃ e₄ e h = absurd (omega arith)
  by_rows false true t₃ t₄ k zero e₂ e₃ e₄ e h = and_right (between 0xc2 0xdf a) _ e₂
  by_rows false true t₃ t₄ k (suc i) e₂ e₃ e₄ e h = absurd (omega arith)
  by_rows false false true t₄ k zero e₂ e₃ e₄ e h =
      second (eqb a 0xe0) (eqb a 0xed) 0xa0 0x9f (byte_at s 0) (omega arith) (omega arith)
      (and_right (between 0xe0 0xef a) _ (and_left (starts-three a (byte_at s 0)) _ e₃))
  by_rows false false true t₄ k (suc zero) e₂ e₃ e₄ e h = and_right (starts-three a (byte_at s 0)) _ e₃
  by_rows false false true t₄ k (suc (suc i)) e₂ e₃ e₄ e h = absurd (omega arith)
  by_rows false false false true k zero e₂ e₃ e₄ e h =
      second (eqb a 0xf0) (eqb a 0xf4) 0x90 0x8f (byte_at s 0) (omega arith) (omega arith)
      (and_right (between 0xf0 0xf4 a) _ (and_left (starts-four a (byte_at s 0)) _ (and_left (starts-four a (byte_at s 0) && continuation (byte_at s 1)) _ e₄)))
  by_rows false false false true k (suc zero) e₂ e₃ e₄ e h =
      and_right (starts-four a (byte_at s 0)) _ (and_left (starts-four a (byte_at s 0) && continuation (byte_at s 1)) _ e₄)
  by_rows false false false true k (suc (suc zero)) e₂ e₃ e₄ e h = and_right (starts-four a (byte_at s 0) && continuation (byte_at s 1)) _ e₄
  by_rows false false false true k (suc (suc (suc i))) e₂ e₃ e₄ e h = absurd (omega arith)
  by_rows false false false false k i e₂ e₃ e₄ e h = absurd (omega arith)

  goes_on : (k : ℕ) → char_width (a ∷ s) ≡ suc k → (i : ℕ) → i < k → continuation (byte_at s i) ≡ true
  unfolding char_width
  goes_on k e i h = by_rows (leb a 0x7f) _ _ _ k i refl refl refl e h

-- A family keeps its bytes.
keeps : {k : ℕ} {a : List ℕ} (s : List ℕ) → Whole is_family_char k a → ((i : ℕ) → i < k → continuation (byte_at a i) ≡ true) →
    squeezed (a ++ s) ≡ a ++ squeezed s
keeps s end h = refl
keeps s (skip {k} {b} {a} w) h =
    past-byte b (a ++ s) (begins-none b (a ++ s) (h 0 (omega arith)))
    ∙ ap (λ (l : List ℕ). b ∷ l) (keeps s w (λ i g. h (suc i) (omega arith)))
keeps s (char {k} {b} {a} e e' w) h =
    past-byte b (a ++ s) (no-white b (a ++ s) (name-no-white s (char e e' w) (omega arith)))
    ∙ ap (λ (l : List ℕ). b ∷ l) (keeps s w (goes_on b a k e'))

past-family : (s : List ℕ) → squeezed s ≡ take (run is_family_char s) s ++ squeezed (drop (run is_family_char s) s)
past-family s =
    let n = run is_family_char s in
    ap squeezed (sym (take-append-drop n s))
    ∙ keeps (drop n s)
    (family-whole (take n s) (eq-eqb (run is_family_char (take n s)) (length (take n s)) (run_alone is_family_char s ∙ sym (length-take-le n s (run-le is_family_char 0 s)))))
    (λ i h. absurd (omega arith))

-- What is printed up to a place, in front of the squeezed text from there on, stays the same along a reader. `tail` stands behind it.
record Prints (tail : List ℕ) {A : Type 0} (before : List ℕ → List ℕ) (p : Reader A) (after : A → List ℕ → List ℕ) : Type 0 where
  along : (at : ℕ) (s : List ℕ) (a : A) (at' : ℕ) (s' : List ℕ) → p at s ≡ read a at' s' → before (squeezed s ++ tail) ≡ after a (squeezed s' ++ tail)

module _ {tail : List ℕ} where
  prints-done : {A : Type 0} {before : List ℕ → List ℕ} {after : A → List ℕ → List ℕ} (a : A) → ((rest : List ℕ) → before rest ≡ after a rest) →
      Prints tail before (done a) after
  prints-done a h = record {
    along = λ at s b at' s' e.
        let i : a ≡ b = cc in
        let j : s ≡ s' = cc in
        rw (← i, ← j) (h (squeezed s ++ tail));
  }

  prints-then : {A B : Type 0} {before : List ℕ → List ℕ} {p : Reader A} {middle : A → List ℕ → List ℕ} {f : A → Reader B} {after : B → List ℕ → List ℕ} →
      Prints tail before p middle → ((a : A) → Prints tail (middle a) (f a) after) → Prints tail before (λ at s. and_then (p at s) f) after
  prints-then {A} {B} {before} {p} {middle} {f} {after} x y = record { along = λ at s b e t q. go at s (p at s) refl b e t q }
    where
      go : (at : ℕ) (s : List ℕ) (r : Reading A) → p at s ≡ r → (b : B) (e : ℕ) (t : List ℕ) → and_then r f ≡ read b e t →
          before (squeezed s ++ tail) ≡ after b (squeezed t ++ tail)
      go at s rejected w b e t q = not-read q
      go at s (read a i u) w b e t q = x.along at s a i u w ∙ (y a).along i u b e t q

  prints-or : {A : Type 0} {before : List ℕ → List ℕ} {p q : Reader A} {after : A → List ℕ → List ℕ} →
      Prints tail before p after → Prints tail before q after → Prints tail before (λ at s. or_else (p at s) q at s) after
  prints-or {A} {before} {p} {q} {after} x y = record { along = λ at s a e t w. go at s (p at s) refl a e t w }
    where
      go : (at : ℕ) (s : List ℕ) (r : Reading A) → p at s ≡ r → (a : A) (e : ℕ) (t : List ℕ) → or_else r q at s ≡ read a e t →
          before (squeezed s ++ tail) ≡ after a (squeezed t ++ tail)
      go at s rejected w a e t v = y.along at s a e t v
      go at s (read b i u) w a e t v = x.along at s a e t (w ∙ v)

  prints-just : (c : Char) → fails white_space (code c) ≡ true → {before : List ℕ → List ℕ} → Prints tail before (just c) (λ _ rest. before (code c ∷ rest))
  prints-just c h {before} = record {
    along = λ at s a at' s' e.
        ap (λ (l : List ℕ). before (squeezed l ++ tail)) (just-read c at s e).0
        ∙ ap (λ (l : List ℕ). before (l ++ tail)) (past-byte (code c) s' (no-white (code c) s' (no_run white_space (code c ∷ s') h)));
  }

  prints-word : (w : String) → every (fails white_space) (put w []) ≡ true → (before : List ℕ → List ℕ) → Prints tail before (word w) (λ _ rest. before (put w rest))
  unfolding word every
  prints-word S.[] h before = prints-done tt (λ rest. refl)
  prints-word (S.◌∷◌ c w) h before =
      prints-then (prints-just c (and_left (fails white_space (code c)) _ h))
      (λ _. prints-word w (and_right (fails white_space (code c)) _ h) (λ rest. before (code c ∷ rest)))

  prints-whitespace : {before : List ℕ → List ℕ} → Prints tail before whitespace (λ _. before)
  prints-whitespace {before} = record {
    along = λ at s a at' s' e.
        let j : drop (run white_space s) s ≡ s' = cc in
        ap (λ (l : List ℕ). before (l ++ tail)) (past-run 0 s) ∙ ap (λ (l : List ℕ). before (squeezed l ++ tail)) j;
  }

  prints-family : {before : List ℕ → List ℕ} → Prints tail before family_text (λ a rest. before (a ++ rest))
  prints-family {before} = record {
    along = λ at s a at' s' e.
        let n = run is_family_char s in
        let k = pick-read (ltb 0 n) e in
        ap (λ (l : List ℕ). before (l ++ tail)) (past-family s)
        ∙ ap before (append_assoc (take n s) (squeezed (drop n s)) tail)
        ∙ ap (λ (l : List ℕ). before (l ++ (squeezed (drop n s) ++ tail))) k.1
        ∙ ap (λ (l : List ℕ). before (a ++ (squeezed l ++ tail))) k.3;
  }

  prints-padded : {A : Type 0} {before : List ℕ → List ℕ} {p : Reader A} {after : A → List ℕ → List ℕ} → Prints tail before p after →
      Prints tail before (padded p) after
  prints-padded {after = after} x =
      prints-then prints-whitespace (λ _. prints-then x (λ a. prints-then {before = after a} prints-whitespace (λ _. prints-done a (λ rest. refl))))

  -- Lists in braces, of items that print as they are squeezed.
  module _ {A : Type 0} {item : Reader A} (f : A → List ℕ → List ℕ)
      (x : (before : List ℕ → List ℕ) → Prints tail before item (λ a rest. before (f a rest))) where
    -- the whole list prints as its first item and the others do
    prints-collect : (before : List ℕ → List ℕ) {p : Reader A} {more : Reader (List A)} (g : A → List ℕ → List ℕ) (all : List A → List ℕ → List ℕ) →
        ((rest : List ℕ) → rest ≡ all [] rest) → ((a : A) (l : List A) (rest : List ℕ) → g a (put_more f l rest) ≡ all (a ∷ l) rest) →
        Prints tail before p (λ a rest. before (g a rest)) →
        ((before : List ℕ → List ℕ) → Prints tail before more (λ l rest. before (put_more f l rest))) →
        Prints tail before (λ at s. collect ◌∷◌ [] (p at s) more at s) (λ l rest. before (all l rest))
    prints-collect before {p} {more} g all none some y z = record { along = λ at s l e t w. go at s (p at s) refl l e t w }
      where
        go : (at : ℕ) (s : List ℕ) (r : Reading A) → p at s ≡ r → (l : List A) (e : ℕ) (t : List ℕ) → collect ◌∷◌ [] r more at s ≡ read l e t →
            before (squeezed s ++ tail) ≡ before (all l (squeezed t ++ tail))
        go at s rejected w l e t v = (prints-done {after = λ l rest. before (all l rest)} [] (λ rest. ap before (none rest))).along at s l e t v
        go at s (read a i u) w l e t v =
            y.along at s a i u w
            ∙ (prints-then {f = λ l. done (a ∷ l)} {after = λ l rest. before (all l rest)} (z (λ rest. before (g a rest)))
            (λ l. prints-done (a ∷ l) (λ rest. ap before (some a l rest)))).along i u l e t v

    prints-more : (k : ℕ) (before : List ℕ → List ℕ) → Prints tail before (more_of ◌∷◌ [] item (padded (just ",")) k) (λ l rest. before (put_more f l rest))
    unfolding more_of put_more white_space one_of
    prints-more zero before = prints-done [] (λ rest. refl)
    prints-more (suc k) before =
        prints-collect before (λ a rest. 44 ∷ f a rest) (put_more f) (λ rest. refl) (λ a l rest. refl)
        (prints-then (prints-padded (prints-just "," refl)) (λ _. x (λ rest. before (44 ∷ rest)))) (prints-more k)

    abbrev items : List A → List ℕ → List ℕ
    items [] rest = rest
    items (a ∷ l) rest = f a (put_more f l rest)

    prints-items : (before : List ℕ → List ℕ) → Prints tail before (separated_by ◌∷◌ [] item (padded (just ","))) (λ l rest. before (items l rest))
    prints-items before = record {
      along = λ at s l e t w.
          (prints-collect before f items (λ rest. refl) (λ a l rest. refl) (x before) (prints-more (length s))).along at s l e t w;
    }

    in-braces : (l : List A) (rest : List ℕ) → 123 ∷ items l (125 ∷ rest) ≡ put_braces f l rest
    in-braces [] rest = refl
    in-braces (a ∷ l) rest = refl

    prints-braces : Prints tail (λ rest. rest) (braces item) (put_braces f)
    unfolding white_space one_of
    prints-braces =
        prints-then (prints-just "{" refl) (λ _. prints-then (prints-padded (prints-items (λ rest. 123 ∷ rest)))
        (λ l. prints-then {before = λ rest. 123 ∷ items l rest} (prints-just "}" refl) (λ _. prints-done l (in-braces l))))

  prints-constraint : (before : List ℕ → List ℕ) → Prints tail before constraint (λ c rest. before (put_constraint c rest))
  unfolding every white_space one_of
  prints-constraint before =
      prints-or (prints-then prints-family (λ a. prints-then (prints-padded (prints-word "->" refl (λ rest. before (a ++ rest))))
      (λ _. prints-then (prints-family {before = λ rest. before (a ++ put "->" rest)}) (λ b. prints-done (from_to a b) (λ rest. refl)))))
      (prints-or (prints-then prints-family (λ a. prints-then (prints-padded (prints-word "<>" refl (λ rest. before (a ++ rest))))
      (λ _. prints-then (prints-family {before = λ rest. before (a ++ put "<>" rest)}) (λ b. prints-done (swap a b) (λ rest. refl)))))
      (prints-then (prints-family {before = before}) (λ a. prints-done (fix a) (λ rest. refl))))

-- A part that is a constraint set.
pub set-squeezed : (part : List ℕ) → is_some (constraints_in part) ≡ true → (rest : List ℕ) → squeezed part ++ rest ≡ put_braces put_constraint (or_empty (constraints_in part)) rest
unfolding constraints_in constraint_set squeezed_from
set-squeezed part h rest = go (braces constraint 0 part) refl h
  where
    go : (r : Reading (List Constraint)) → braces constraint 0 part ≡ r → is_some (at_end r) ≡ true →
        squeezed part ++ rest ≡ put_braces put_constraint (or_empty (at_end r)) rest
    go rejected e t = absurd (false-true t)
    go (read l last []) e t = (prints-braces put_constraint prints-constraint).along 0 part l last [] e
    go (read l last (b ∷ s)) e t = absurd (false-true t)

-- The loop over a part: what is left of it from i on, and what printing that completes.
pub record Remaining (part : List ℕ) (i : ℕ) (old mid : Printer) : Type 0 where
  pub inside : i ≤ length part
  pub onward : (new : Printer) → Wrote mid new (λ rest. squeezed (drop i part) ++ rest) → Wrote old new (λ rest. squeezed part ++ rest)

module _ {part : List ℕ} {i : ℕ} {old mid : Printer} (w : Remaining part i old mid) where
  pub byte_put : {mid' : Printer} → i < length part → width_if white_space (drop i part) ≡ 0 →
      Wrote mid mid' (λ rest. get_or part i 0 ∷ rest) → Remaining part (i + 1) old mid'
  byte_put h z v =
      let e : drop i part ≡ get_or part i 0 ∷ drop (i + 1) part = rw (add-one i) (drop-cons part i 0 h) in
      let s : squeezed (drop i part) ≡ get_or part i 0 ∷ squeezed (drop (i + 1) part) = ap squeezed e ∙ past-byte (get_or part i 0) (drop (i + 1) part) (rw e at z) in
      record {
        inside = omega arith;
        onward = λ new u.
            w.onward new (wrote_as (λ rest. squeezed (drop i part) ++ rest) (λ rest. ap (λ (l : List ℕ). l ++ rest) (sym s)) (wrote_then v u));
      }

  pub space-fits : (k : ℕ) → k ≡ width_if white_space (drop i part) → i + k ≤ length part
  space-fits k e = omega (arith, w.inside, width_if-length white_space (drop i part), length-drop i part)

  pub space-passed : (k : ℕ) → k ≡ width_if white_space (drop i part) → (k ≡ 0 → ⊥) → Remaining part (i + k) old mid
  space-passed k e h =
      let s : squeezed (drop i part) ≡ squeezed (drop (i + k) part) = past-space (drop i part) k e (omega arith) ∙ ap squeezed (drop-drop k i part) in
      record {
        inside = space-fits k e;
        onward = λ new u. w.onward new (wrote_as (λ rest. squeezed (drop i part) ++ rest) (λ rest. ap (λ (l : List ℕ). l ++ rest) (sym s)) u);
      }

  pub none-remains : length part ≤ i → Wrote old mid (λ rest. squeezed part ++ rest)
  unfolding squeezed_from
  none-remains h =
      let e : drop i part ≡ [] = drop_of_length-le part h in
      w.onward mid (rw e (wrote_none mid))
