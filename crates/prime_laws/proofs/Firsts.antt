-- The character at the start of a text, in the text as given and in the straight text. Assumes nothing.
use Prim.Native.Nat.{ℕ, zero, suc, ◌+◌, ◌≤◌, ◌<◌}
use Prim.Native.Char.{code}
use mathlib.Core.Path.{◌≡◌, refl, sym, ap, ◌∙◌}
use mathlib.Core.Bool.{Bool, true, false}
use mathlib.Core.List.{List, [], ◌∷◌, ◌++◌}
use native.Mathlib.Omega.{arith}
use native.Mathlib.Nat.{suc-add}
use borrow.Author.Tests.{le-leb}
use lib.Dec.{eqb}
use lib.ListN.{length, take, drop, take-append-drop}
use Rattle.notation.specs.Basics.{pick, one_of}
use Rattle.notation.specs.Chars.{curly_prime_codes}
use Rattle.notation.specs.Utf8.{byte_at, continuation, char_width, code_point, utf8, width_if}
use Rattle.notation.specs.Primes.{curly_width, straight_from, straight, given_from, given}
use Rattle.charsets.proofs.Widths.{width-length}
use Rattle.charsets.proofs.Runs.{utf8-step, utf8-stop}
use Rattle.laws.proofs.Bools.{false-true}
use Rattle.laws.proofs.Runs.{width-cut}
use Rattle.laws.proofs.PlainBytes.{width-tail}
use Rattle.charsets.proofs.Points.{point}
use Rattle.charsets.proofs.Signs.{sign as written}
use Rattle.prime_laws.proofs.Plain.{Plain, kept_byte, kept-place, no_start, kept-tail}

contra : {X : Type 0} → false ≡ true → X
contra e = absurd (false-true e)

-- Behind the first k bytes of a sign both texts go on alike.
straight-from : (k : ℕ) (s : List ℕ) → straight_from k s ≡ straight (drop k s)
unfolding straight_from
straight-from zero s = refl
straight-from (suc k) [] = refl
straight-from (suc k) (b ∷ s) = straight-from k s

given-from : (k : ℕ) (s : List ℕ) (i : ℕ) → k ≤ length s → given_from k s i ≡ k + given (drop k s) i
unfolding given_from
given-from zero s i h = omega arith
given-from (suc k) [] i h = absurd (omega arith)
given-from (suc k) (b ∷ s) i h = ap suc (given-from k s i (omega arith)) ∙ sym (suc-add k (given (drop k s) i))

-- What follows a character is no continuation, in either text.
no-tail : (r : List ℕ) → utf8 r ≡ true → (continuation (byte_at r 0) ≡ false) × (continuation (byte_at (straight r) 0) ≡ false)
unfolding straight_from
no-tail [] e = (refl, refl)
no-tail (b ∷ r) e = (no (continuation b) refl, other (eqb (curly_width (b ∷ r)) 0))
  where
    no : (t : Bool) → continuation b ≡ t → t ≡ false
    no false f = refl
    no true f = contra (sym (utf8-stop (b ∷ r) (omega arith) (no_start (λ _. true) b r f)) ∙ e)

    other : (t : Bool) → continuation (pick t b (code "'")) ≡ false
    other true = no (continuation b) refl
    other false = refl

-- A sign that is replaced.
pub record Sign (s : List ℕ) : Type 0 where
  pub curly : one_of curly_prime_codes (code_point s) ≡ true
  pub width : char_width s ≡ 3
  pub high : 0x7f < byte_at s 0
  pub first : straight s ≡ 0x27 ∷ straight (drop 3 s)
  pub moves : (j : ℕ) → given s (suc j) ≡ 3 + given (drop 3 s) j
  pub well : utf8 (drop 3 s) ≡ true

-- Another character: it is the same in both texts.
pub record Other (s : List ℕ) (w : ℕ) : Type 0 where
  pub usual : one_of curly_prime_codes (code_point s) ≡ false
  pub width : char_width s ≡ w
  pub some : 0 < w
  pub plain : Plain w s
  pub alike : (p : ℕ → Bool) → width_if p (straight s) ≡ width_if p s

pub data First (s : List ℕ) : Type 0 where
  nothing : s ≡ [] → First s
  sign : Sign s → First s
  other : (w : ℕ) → Other s w → First s

pub first : (s : List ℕ) → utf8 s ≡ true → First s
unfolding straight_from given_from
first [] e = nothing refl
first (b ∷ s) e = go (char_width (b ∷ s)) refl (one_of curly_prime_codes (code_point (b ∷ s))) refl
  where
    inside : char_width (b ∷ s) ≤ suc (length s)
    inside = width-length (b ∷ s)

    a-sign : (k : ℕ) → char_width (b ∷ s) ≡ suc k → one_of curly_prime_codes (code_point (b ∷ s)) ≡ true → Sign (b ∷ s)
    a-sign k w c =
        let x = written (point (b ∷ s)) (omega (arith, w)) c in
        let three : char_width (b ∷ s) ≡ 3 = x.width in
        let curlies : curly_width (b ∷ s) ≡ 3 = rw c three in
        record {
          curly = c;
          width = three;
          high = omega (arith, x.first);
          first = rw curlies (ap (λ (l : List ℕ). 0x27 ∷ l) (straight-from 2 s));
          moves = λ j. rw curlies (ap suc (given-from 2 s j (omega (arith, inside, three))) ∙ sym (suc-add 2 (given (drop 2 s) j)));
          well = sym (utf8-step (b ∷ s) 3 (sym three) (omega arith)) ∙ e;
        }

    another : (k : ℕ) → char_width (b ∷ s) ≡ suc k → one_of curly_prime_codes (code_point (b ∷ s)) ≡ false → Other (b ∷ s) (suc k)
    another k w c =
        let none : curly_width (b ∷ s) ≡ 0 = rw c in
        let fits : k ≤ length s = omega (arith, inside, w) in
        let tail = kept-tail k s fits (width-tail b k s w) in
        let well : utf8 (drop k s) ≡ true = sym (utf8-step (b ∷ s) (suc k) (sym w) (omega arith)) ∙ e in
        let same : straight (b ∷ s) ≡ b ∷ (take k s ++ straight (drop k s)) = kept_byte b s none ∙ ap (λ (l : List ℕ). b ∷ l) tail.0 in
        record {
          usual = c;
          width = w;
          some = omega arith;
          plain = record {
            inside = omega arith;
            same = same;
            moves = λ j. ap (given (b ∷ s)) (suc-add k j) ∙ kept-place b s (k + j) none ∙ ap suc (tail.1 j) ∙ sym (suc-add k _);
            well = well;
          };
          alike = λ p.
              ap (width_if p) same ∙ width-cut p b (take k s) (straight (drop k s)) (no-tail (drop k s) well).1
              ∙ sym (width-cut p b (take k s) (drop k s) (no-tail (drop k s) well).0) ∙ ap (λ (l : List ℕ). width_if p (b ∷ l)) (take-append-drop k s);
        }

    go : (w : ℕ) → char_width (b ∷ s) ≡ w → (t : Bool) → one_of curly_prime_codes (code_point (b ∷ s)) ≡ t → First (b ∷ s)
    go zero w t c = contra (sym (utf8-stop (b ∷ s) (omega arith) w) ∙ e)
    go (suc k) w true c = sign (a-sign k w c)
    go (suc k) w false c = other (suc k) (another k w c)

-- An ASCII byte is a character, and is in both texts.
pub plain-ascii : (b : ℕ) (s : List ℕ) → b ≤ 0x7f → utf8 (b ∷ s) ≡ true → Plain 1 (b ∷ s)
unfolding char_width
plain-ascii b s h e = go (first (b ∷ s) e)
  where
    one : char_width (b ∷ s) ≡ 1
    one = rw (le-leb b 0x7f h)

    go : First (b ∷ s) → Plain 1 (b ∷ s)
    go (nothing i) = absurd (let n : ◌≡◌ {A = ℕ} 0 1 = cc in omega arith)
    go (sign g) = absurd (omega (arith, one, g.width))
    go (other w o) = let i : w ≡ 1 = sym o.width ∙ one in rw i at o.plain
