-- Parts of a text that its straight text has as they are, since no sign is replaced in them. Assumes nothing.
use Prim.Native.Nat.{ℕ, zero, suc, ◌+◌, ◌-◌, ◌≤◌}
use mathlib.Core.Path.{◌≡◌, refl, sym, ap, ◌∙◌}
use mathlib.Core.Bool.{Bool, true}
use mathlib.Core.List.{List, [], ◌∷◌, ◌++◌, append_assoc}
use native.Mathlib.Omega.{arith}
use native.Mathlib.Nat.{suc-add}
use borrow.Author.Tests.{leb-true, lt-leb}
use lib.Dec.{leb}
use lib.ListN.{length, take, drop, length-drop, length-append}
use lib.Seq.{drop-drop, take-add, length-take-le, take_at, drop_at}
use Rattle.notation.specs.Basics.{one_of, every}
use Rattle.notation.specs.Chars.{curly_prime_codes}
use Rattle.notation.specs.Utf8.{continuation, char_width, code_point, utf8, width_if}
use Rattle.notation.specs.Primes.{curly_width, straight_from, straight, given_from, given}
use Rattle.laws.proofs.Bools.{and_left, and_right, pick_same}

-- The first n bytes: no sign stands among them, and behind them a character begins or the text ends.
pub record Plain (n : ℕ) (s : List ℕ) : Type 0 where
  pub inside : n ≤ length s
  pub same : straight s ≡ take n s ++ straight (drop n s)
  pub moves : (j : ℕ) → given s (n + j) ≡ n + given (drop n s) j
  pub well : utf8 (drop n s) ≡ true

-- what stands at the start stands there in both texts
pub given-zero : (s : List ℕ) → given s 0 ≡ 0
unfolding given_from
given-zero [] = refl
given-zero (b ∷ s) = refl

-- the straight text is no longer
pub straight-length : (k : ℕ) (s : List ℕ) → length (straight_from k s) ≤ length s
unfolding straight_from
straight-length k [] = omega arith
straight-length (suc k) (b ∷ s) = omega (arith, straight-length k s)
straight-length zero (b ∷ s) = omega (arith, straight-length (curly_width (b ∷ s) - 1) s)

-- A byte at which no sign begins.
pub kept_byte : (b : ℕ) (s : List ℕ) → curly_width (b ∷ s) ≡ 0 → straight (b ∷ s) ≡ b ∷ straight s
unfolding straight_from
kept_byte b s e = rw e

pub kept-place : (b : ℕ) (s : List ℕ) (i : ℕ) → curly_width (b ∷ s) ≡ 0 → given (b ∷ s) (suc i) ≡ suc (given s i)
unfolding given_from
kept-place b s i e = rw e

-- no character begins with a continuation
pub no_start : (p : ℕ → Bool) (b : ℕ) (s : List ℕ) → continuation b ≡ true → width_if p (b ∷ s) ≡ 0
unfolding char_width
no_start p b s e =
    let l = leb-true 0x80 b (and_left (leb 0x80 b) _ e) in
    let h = leb-true b 0xbf (and_right (leb 0x80 b) _ e) in
    rw (lt-leb b 0x7f (omega arith), lt-leb 0xc2 b (omega arith), lt-leb 0xe0 b (omega arith), lt-leb 0xf0 b (omega arith))
    (pick_same (p (code_point (b ∷ s))) 0)

-- The bytes of a character after the first are kept.
pub kept-tail : (k : ℕ) (s : List ℕ) → k ≤ length s → every continuation (take k s) ≡ true →
    (straight s ≡ take k s ++ straight (drop k s)) × ((j : ℕ) → given s (k + j) ≡ k + given (drop k s) j)
unfolding every
kept-tail zero s h e = (refl, λ j. rw (zero-plus j) (sym (zero-plus (given s j))))
  where
    zero-plus : (j : ℕ) → 0 + j ≡ j
    zero-plus j = omega arith
kept-tail (suc k) [] h e = absurd (omega arith)
kept-tail (suc k) (b ∷ s) h e =
    let w = no_start (one_of curly_prime_codes) b s (and_left (continuation b) _ e) in
    let r = kept-tail k s (omega arith) (and_right (continuation b) _ e) in (
      kept_byte b s w ∙ ap (λ (l : List ℕ). b ∷ l) r.0,
      λ j. ap (given (b ∷ s)) (suc-add k j) ∙ kept-place b s (k + j) w ∙ ap suc (r.1 j) ∙ sym (suc-add k _),
    )

-- Nothing is plain, and plain parts join.
pub plain-none : (s : List ℕ) → utf8 s ≡ true → Plain 0 s
unfolding every
plain-none s e =
    let q = kept-tail 0 s (omega arith) refl in
    record { inside = omega arith; same = refl; moves = q.1; well = e }

pub plain-join : (m n : ℕ) (s : List ℕ) → Plain m s → Plain n (drop m s) → Plain (m + n) s
plain-join m n s a b =
    record {
      inside = omega (arith, a.inside, b.inside, length-drop m s);
      same =
          a.same ∙ ap (λ (l : List ℕ). take m s ++ l) b.same ∙ sym (append_assoc (take m s) (take n (drop m s)) (straight (drop n (drop m s))))
          ∙ rw (drop-drop n m s, take-add m n s);
      moves = λ j.
          let e : m + n + j ≡ m + (n + j) = omega arith in
          ap (given s) e ∙ a.moves (n + j) ∙ ap (λ (i : ℕ). m + i) (b.moves j) ∙ rw (drop-drop n m s) (omega arith);
      well = rw (drop-drop n m s) at b.well;
    }

-- what stands in both texts, and what is left of them
pub plain-inside : (n : ℕ) (s : List ℕ) → Plain n s → n ≤ length (straight s)
plain-inside n s a =
    omega (arith, ap length a.same, length-append (take n s) (straight (drop n s)), length-take-le n s a.inside)

pub plain-part : (n : ℕ) (s : List ℕ) → Plain n s → take n (straight s) ≡ take n s
plain-part n s a = rw a.same (take_at (take n s) (straight (drop n s)) n (length-take-le n s a.inside))

pub plain-rest : (n : ℕ) (s : List ℕ) → Plain n s → drop n (straight s) ≡ straight (drop n s)
plain-rest n s a = rw a.same (drop_at (take n s) (straight (drop n s)) n (length-take-le n s a.inside))
