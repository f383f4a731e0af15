-- The start of a text: its first byte, and the characters that pass a test there. Assumes nothing.
use Prim.Native.Nat.{ℕ, zero, suc, ◌+◌, ◌≤◌, ◌<◌}
use Prim.Native.Char.{Char, code}
use mathlib.Core.Path.{◌≡◌, refl, sym, ap, ◌∙◌}
use mathlib.Core.Bool.{Bool, true, false, not, ◌&&◌, ◌||◌}
use mathlib.Core.List.{List, [], ◌∷◌, ◌++◌}
use lib.Dec.{leb, eqb}
use lib.ListN.{length}
use native.Mathlib.Omega.{arith}
use borrow.Author.Tests.{leb-true, eqb-true, eqb-false, not-false}
use Rattle.notation.specs.Basics.{pick, between, one_of, every}
use Rattle.notation.specs.Chars.{is_family_char, white_space, classify}
use Rattle.notation.specs.Utf8.{char_width, code_point, continuation, after_first, width_if, run_from, run, utf8_from, utf8}
use Rattle.notation.specs.Numbers.{is_digit, digit_run}
use Rattle.notation.specs.Grammar.{rejected, just}
use Rattle.laws.proofs.InRange.{family_in_range}
use Rattle.laws.proofs.Bools.{and_left, and_right, and-false, not-true, pick_same}

-- a test and its opposite do not both hold
pub clash : {B : Type 0} (b : Bool) → b ≡ true → b ≡ false → B
clash b p q = absurd (let z : ◌≡◌ {A = Bool} true false = cc in let n : ◌≡◌ {A = ℕ} 0 1 = cc in omega arith)

-- what holds of every number of a list holds of one that is listed
pub listed : (q : ℕ → Bool) (l : List ℕ) (b : ℕ) → every q l ≡ true → one_of l b ≡ true → q b ≡ true
unfolding every one_of
listed q [] b all h = clash true refl (sym h)
listed q (a ∷ l) b all h = go (eqb a b) refl (λ h'. listed q l b (and_right (q a) (every q l) all) h')
  where
    go : (t : Bool) → eqb a b ≡ t → (one_of l b ≡ true → q b ≡ true) → q b ≡ true
    go true e f = ap q (sym (eqb-true a b e)) ∙ and_left (q a) (every q l) all
    go false e f = f (ap (λ (t : Bool). t || one_of l b) (sym e) ∙ h)

-- the text is at its end, or its first byte passes the test
abbrev pub starts : (ℕ → Bool) → List ℕ → Bool
starts q [] = true
starts q (b ∷ s) = q b

-- a text that is not empty starts as it does before anything else
pub same_first : (q : ℕ → Bool) (a r r' : List ℕ) → 0 < length a → starts q (a ++ r) ≡ true → starts q (a ++ r') ≡ true
same_first q [] r r' h e = absurd (omega arith)
same_first q (b ∷ a) r r' h e = e

-- what holds of every listed byte holds of a first byte that is listed
pub starts-listed : (q : ℕ → Bool) (l : List ℕ) (s : List ℕ) → every q l ≡ true → starts (one_of l) s ≡ true → starts q s ≡ true
starts-listed q l [] all h = refl
starts-listed q l (b ∷ s) all h = listed q l b all h

-- a byte other than c
abbrev pub isnt : Char → ℕ → Bool
isnt c b = not (eqb b (code c))

-- a character, digits or a run that does not start there
pub not-just : (c : Char) (s : List ℕ) → starts (isnt c) s ≡ true → (at : ℕ) → just c at s ≡ rejected
unfolding just
not-just c [] h at = refl
not-just c (b ∷ s) h at = rw (not-true (eqb b (code c)) h)

abbrev pub not_digit : ℕ → Bool
not_digit b = not (is_digit b)

-- no digit
pub no-digits : (s : List ℕ) → starts not_digit s ≡ true → digit_run s ≡ 0
unfolding digit_run
no-digits [] h = refl
no-digits (b ∷ s) h = rw (not-true (is_digit b) h)

-- an ASCII byte that fails the test
abbrev pub fails : (ℕ → Bool) → ℕ → Bool
fails p b = leb b 0x7f && not (p b)

-- no character that passes
pub no-character : (p : ℕ → Bool) (s : List ℕ) → starts (fails p) s ≡ true → width_if p s ≡ 0
unfolding char_width code_point
no-character p [] h = pick_same (p (code_point [])) 0
no-character p (b ∷ s) h =
    rw (and_left (leb b 0x7f) (not (p b)) h, not-true (p b) (and_right (leb b 0x7f) (not (p b)) h))

pub no_run : (p : ℕ → Bool) (s : List ℕ) → starts (fails p) s ≡ true → run p s ≡ 0
unfolding run_from code_point
no_run p [] h = refl
no_run p (b ∷ s) h =
    rw (and_left (leb b 0x7f) (not (p b)) h, not-true (p b) (and_right (leb b 0x7f) (not (p b)) h))

-- A character at the start of a text is the same whatever follows the text.
pub record SameStart (a s : List ℕ) : Type 0 where
  pub width : char_width (a ++ s) ≡ char_width a
  pub point : code_point (a ++ s) ≡ code_point a
  pub inside : char_width a ≤ length a

-- no character is wider than four bytes
wide : (x y z w : Bool) (n : ℕ) → 4 ≤ n → pick x 1 (pick y 2 (pick z 3 (pick w 4 0))) ≤ n
wide true y z w n h = omega arith
wide false true z w n h = omega arith
wide false false true w n h = omega arith
wide false false false true n h = omega arith
wide false false false false n h = omega arith

no-width : {B : Type 0} (n : ℕ) → 0 < n → n ≡ 0 → B
no-width n h e = absurd (omega arith)

-- a two-byte character's first byte, and a three-byte one's
second : (x : ℕ) (c : Bool) → (between 0xc2 0xdf x && c) ≡ true → leb x 0xdf ≡ true
second x c e = and_right (leb 0xc2 x) (leb x 0xdf) (and_left (between 0xc2 0xdf x) c e)

third : (x : ℕ) (c d : Bool) → (between 0xe0 0xef x && c && d) ≡ true → leb x 0xef ≡ true
third x c d e = and_right (leb 0xe0 x) (leb x 0xef) (and_left (between 0xe0 0xef x) c (and_left (between 0xe0 0xef x && c) d e))

-- the same by the number of bytes that are there
one_byte : (x : ℕ) (s : List ℕ) (t : Bool) → leb x 0x7f ≡ t → 0 < char_width (x ∷ []) → SameStart (x ∷ []) s
unfolding char_width code_point
one_byte x s true e h = record { width = rw e; point = rw e; inside = rw e (omega arith) }
one_byte x s false e h = no-width (char_width (x ∷ [])) h (simp (e, and-false))

two_bytes : (x y : ℕ) (s : List ℕ) (t u : Bool) → leb x 0x7f ≡ t → (between 0xc2 0xdf x && continuation y) ≡ u →
    0 < char_width (x ∷ y ∷ []) → SameStart (x ∷ y ∷ []) s
unfolding char_width code_point
two_bytes x y s true u e e' h = record { width = rw e; point = rw e; inside = rw e (omega arith) }
two_bytes x y s false true e e' h =
    record { width = rw (e, e'); point = rw (e, second x (continuation y) e'); inside = rw (e, e') (omega arith) }
two_bytes x y s false false e e' h = no-width (char_width (x ∷ y ∷ [])) h (simp (e, e', and-false))

three-bytes : (x y z : ℕ) (s : List ℕ) (t u v : Bool) → leb x 0x7f ≡ t → (between 0xc2 0xdf x && continuation y) ≡ u →
    (between 0xe0 0xef x && between (pick (eqb x 0xe0) 0xa0 0x80) (pick (eqb x 0xed) 0x9f 0xbf) y && continuation z) ≡ v →
    0 < char_width (x ∷ y ∷ z ∷ []) → SameStart (x ∷ y ∷ z ∷ []) s
unfolding char_width code_point
three-bytes x y z s true u v e e' e'' h = record { width = rw e; point = rw e; inside = rw e (omega arith) }
three-bytes x y z s false true v e e' e'' h =
    record { width = rw (e, e'); point = rw (e, second x (continuation y) e'); inside = rw (e, e') (omega arith) }
three-bytes x y z s false false true e e' e'' h =
    record { width = rw (e, e', e''); point = rw (e, third x _ (continuation z) e''); inside = rw (e, e', e'') (omega arith) }
three-bytes x y z s false false false e e' e'' h = no-width (char_width (x ∷ y ∷ z ∷ [])) h (simp (e, e', e'', and-false))

-- whatever follows, the character is the same and lies inside
same_start : (a s : List ℕ) → 0 < char_width a → SameStart a s
unfolding char_width code_point
same_start [] s h = no-width 0 h refl
same_start (x ∷ []) s h = one_byte x s _ refl h
same_start (x ∷ y ∷ []) s h = two_bytes x y s _ _ refl refl h
same_start (x ∷ y ∷ z ∷ []) s h = three-bytes x y z s _ _ _ refl refl refl h
same_start (x ∷ y ∷ z ∷ w ∷ a) s h =
    record {
      width = refl;
      point = refl;
      inside = wide (leb x 0x7f) (between 0xc2 0xdf x && continuation y)
          (between 0xe0 0xef x && between (pick (eqb x 0xe0) 0xa0 0x80) (pick (eqb x 0xed) 0x9f 0xbf) y && continuation z)
          (between 0xf0 0xf4 x && between (pick (eqb x 0xf0) 0x90 0x80) (pick (eqb x 0xf4) 0x8f 0xbf) y && continuation z && continuation w)
          (length (x ∷ y ∷ z ∷ w ∷ a)) (omega arith);
    }

-- Whole characters that pass a test, after k bytes of one that was seen to.
pub data Whole (p : ℕ → Bool) : ℕ → List ℕ → Type 0 where
  end : Whole p 0 []
  skip : {k b : ℕ} {a : List ℕ} → Whole p k a → Whole p (suc k) (b ∷ a)
  char : {k b : ℕ} {a : List ℕ} → p (code_point (b ∷ a)) ≡ true → char_width (b ∷ a) ≡ suc k → Whole p k a → Whole p 0 (b ∷ a)

-- a run that takes all bytes is of whole characters
whole : (p : ℕ → Bool) (a : List ℕ) (k : ℕ) → k ≤ length a → run_from p k a ≡ length a → Whole p k a
unfolding run_from
whole p [] zero h e = end
whole p [] (suc k) h e = absurd (omega arith)
whole p (b ∷ a) (suc k) h e = skip (whole p a k (omega arith) (omega arith))
whole p (b ∷ a) zero h e = go (p (code_point (b ∷ a))) (char_width (b ∷ a)) refl refl e (λ k h e. whole p a k h e)
  where
    go : (t : Bool) (w : ℕ) → p (code_point (b ∷ a)) ≡ t → char_width (b ∷ a) ≡ w →
        after_first (pick t w 0) 0 (λ k. suc (run_from p k a)) ≡ suc (length a) →
        ((k : ℕ) → k ≤ length a → run_from p k a ≡ length a → Whole p k a) → Whole p 0 (b ∷ a)
    go true (suc w) e e' h f =
        let i : char_width (b ∷ a) ≤ suc (length a) = (same_start (b ∷ a) [] (omega arith)).inside in
        char e e' (f w (omega arith) (omega arith))
    go true zero e e' h f = absurd (omega arith)
    go false w e e' h f = absurd (omega arith)

-- A run goes on through whole characters.
pub run-append : {p : ℕ → Bool} {k : ℕ} {a : List ℕ} (s : List ℕ) → Whole p k a → run_from p k (a ++ s) ≡ length a + run p s
unfolding run_from
run-append s end = omega arith
run-append s (skip {k} {b} {a} w) = omega (arith, run-append s w)
run-append {p} s (char {k} {b} {a} e e' w) =
    let same : SameStart (b ∷ a) s = same_start (b ∷ a) s (omega arith) in
    rw (ap p same.point ∙ e, same.width ∙ e') (omega (arith, run-append s w))

-- UTF-8 goes on through whole characters.
pub utf8_append : {p : ℕ → Bool} {k : ℕ} {a : List ℕ} (s : List ℕ) → Whole p k a → utf8 s ≡ true → utf8_from k (a ++ s) ≡ true
unfolding utf8_from
utf8_append s end h = h
utf8_append s (skip w) h = utf8_append s w h
utf8_append s (char {k} {b} {a} e e' w) h =
    let same : SameStart (b ∷ a) s = same_start (b ∷ a) s (omega arith) in
    rw (same.width ∙ e') (utf8_append s w h)

-- n numbers from low on
unfoldable pub up_to : ℕ → ℕ → List ℕ
up_to zero low = []
up_to (suc n) low = low ∷ up_to n (suc low)

-- a number in that part is listed
in-up_to : (n low c : ℕ) → low ≤ c → c < low + n → one_of (up_to n low) c ≡ true
unfolding up_to one_of
in-up_to zero low c h h' = absurd (omega arith)
in-up_to (suc n) low c h h' = go (eqb low c) refl (λ g. in-up_to n (suc low) c g (omega arith))
  where
    go : (t : Bool) → eqb low c ≡ t → (suc low ≤ c → one_of (up_to n (suc low)) c ≡ true) → (eqb low c || one_of (up_to n (suc low)) c) ≡ true
    go true e f = rw e
    go false e f = rw e (f (omega (arith, eqb-false low c e)))

-- the numbers between two bounds, listed
in_between : (n low high c : ℕ) → high < low + n → between low high c ≡ true → one_of (up_to n low) c ≡ true
in_between n low high c h b =
    in-up_to n low c (leb-true low c (and_left (leb low c) (leb c high) b)) (omega (arith, leb-true c high (and_right (leb low c) (leb c high) b)))

abbrev no_family : ℕ → Bool
no_family c = not (is_family_char c)

-- White space is no part of a family.
pub white-no-family : (c : ℕ) → white_space c ≡ true → no_family c ≡ true
unfolding white_space every one_of up_to classify
white-no-family c h = go (between 0x9 0xd c) (between 0x2000 0x200a c) refl refl h
  where
    go : (t u : Bool) → between 0x9 0xd c ≡ t → between 0x2000 0x200a c ≡ u →
        (t || u || one_of (0x20 ∷ 0x85 ∷ 0xa0 ∷ 0x1680 ∷ 0x2028 ∷ 0x2029 ∷ 0x202f ∷ 0x205f ∷ 0x3000 ∷ []) c) ≡ true → no_family c ≡ true
    go true u e e' h = listed no_family (up_to 5 0x9) c refl (in_between 5 0x9 0xd c (omega arith) e)
    go false true e e' h = listed no_family (up_to 11 0x2000) c refl (in_between 11 0x2000 0x200a c (omega arith) e')
    go false false e e' h = listed no_family (0x20 ∷ 0x85 ∷ 0xa0 ∷ 0x1680 ∷ 0x2028 ∷ 0x2029 ∷ 0x202f ∷ 0x205f ∷ 0x3000 ∷ []) c refl h

-- Families.
pub family-whole : (a : List ℕ) → family_in_range a ≡ true → Whole is_family_char 0 a
family-whole a h = whole is_family_char a 0 (omega arith) (eqb-true (run is_family_char a) (length a) h)

-- the first byte of a family is no ASCII byte but of a family character
pub family-starts : (q : ℕ → Bool) → ((b : ℕ) → q b ≡ false → fails is_family_char b ≡ true) →
    {a : List ℕ} (s : List ℕ) → Whole is_family_char 0 a → starts q s ≡ true → starts q (a ++ s) ≡ true
unfolding code_point
family-starts q out s end h = h
family-starts q out s (char {k} {b} {a} e e' w) h = go (q b) refl
  where
    go : (t : Bool) → q b ≡ t → q b ≡ true
    go true g = g
    go false g =
        let f : fails is_family_char b ≡ true = out b g in
        clash (is_family_char b)
        (rw (and_left (leb b 0x7f) (no_family b) f) at e)
        (not-true (is_family_char b) (and_right (leb b 0x7f) (no_family b) f))

-- so a character of which that is so does not start a family
pub family-isnt : (c : Char) → fails is_family_char (code c) ≡ true →
    {a : List ℕ} (s : List ℕ) → Whole is_family_char 0 a → starts (isnt c) s ≡ true → starts (isnt c) (a ++ s) ≡ true
family-isnt c f = family-starts (isnt c) (λ b g. ap (fails is_family_char) (eqb-true b (code c) (not-false (eqb b (code c)) g)) ∙ f)

pub is_digit-listed : (b : ℕ) → is_digit b ≡ true → one_of (up_to 10 48) b ≡ true
is_digit-listed b h = in_between 10 48 57 b (omega arith) h

pub family-no-digit : {a : List ℕ} (s : List ℕ) → Whole is_family_char 0 a → starts not_digit s ≡ true → starts not_digit (a ++ s) ≡ true
unfolding every one_of up_to classify
family-no-digit =
    family-starts not_digit (λ b g. listed (fails is_family_char) (up_to 10 48) b refl (is_digit-listed b (not-false (is_digit b) g)))

-- no white space stands at the start of a name
pub name-no-white : {a : List ℕ} (s : List ℕ) → Whole is_family_char 0 a → 0 < length a → run white_space (a ++ s) ≡ 0
unfolding run_from
name-no-white s end h = absurd (omega arith)
name-no-white s (char {k} {b} {a} e e' w) h =
    let same : SameStart (b ∷ a) s = same_start (b ∷ a) s (omega arith) in
    go (white_space (code_point ((b ∷ a) ++ s))) refl same.point
  where
    c : ℕ
    c = code_point (b ∷ a)

    go : (t : Bool) → white_space (code_point ((b ∷ a) ++ s)) ≡ t → code_point ((b ∷ a) ++ s) ≡ c → run white_space ((b ∷ a) ++ s) ≡ 0
    go false g p = rw g
    go true g p = clash (is_family_char c) e (not-true (is_family_char c) (white-no-family c (ap white_space (sym p) ∙ g)))
