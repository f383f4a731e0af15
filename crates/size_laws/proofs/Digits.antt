-- Numbers: printed, one has no more digits than it was read from, and no more than ten. Assumes nothing.
use Prim.Native.Nat.{ℕ, zero, suc, ◌+◌, ◌-◌, ◌*◌, ◌/◌, ◌%◌, ◌≤◌, ◌<◌}
use mathlib.Core.Path.{◌≡◌, refl, ap, ◌∙◌}
use mathlib.Core.Bool.{Bool, true, false, ◌&&◌}
use mathlib.Core.List.{List, [], ◌∷◌}
use native.Mathlib.Omega.{arith}
use borrow.Author.Tests.{leb-true, ltb-true, lt-ltb}
use lib.Dec.{leb, ltb, eqb}
use lib.IntN.{ℤ, pos, negsuc, neg_ℤ, nat_abs}
use lib.ListN.{length, take, length-append}
use Rattle.notation.specs.Basics.{pick, choose, between}
use Rattle.notation.specs.Numbers.{is_digit, digit_run, decimal, show_from, show, show_signed}
use Rattle.notation.specs.Grammar.{uint, sint, multiplier, MAX-I32}
use Rattle.notation.specs.Print.{put_prime, put_multiplier}
use Rattle.laws.proofs.Bools.{and_left, and_right}
use Rattle.laws.proofs.Characters.{yields-prime}
use Rattle.notation.specs.declared.features.Features.{Features}
use Rattle.laws.proofs.Readers.{
  Place,
  Yields,
  pick-read,
  took-front,
  took-is,
  weaken,
  yields-done,
  yields-bind,
  yields-or,
  yields-just,
}
use Rattle.numbers.proofs.Bounds.{digits_le}
use Rattle.numbers.proofs.TwosComplement.{nat_abs-neg}
use Rattle.laws.proofs.ReadBack.Numbers.{show-apart}

-- how many digits a number has
abbrev pub digits : ℕ → ℕ
digits n = length (show n [])

pub show-long : (n : ℕ) (rest : List ℕ) → length (show n rest) ≡ digits n + length rest
show-long n rest = ap length (show-apart 10 n rest) ∙ length-append (show n []) rest

-- one more digit is allowed: no more are left out
allowed-more : (k n : ℕ) (rest : List ℕ) → length (show_from k n rest) ≤ length (show_from (suc k) n rest)
unfolding show_from
allowed-more zero n rest = go (ltb n 10)
  where
    go : (t : Bool) → length rest ≤ length (pick t ((48 + n) ∷ rest) ((48 + n % 10) ∷ rest))
    go true = omega arith
    go false = omega arith
allowed-more (suc k) n rest = go (ltb n 10) (allowed-more k (n / 10) ((48 + n % 10) ∷ rest))
  where
    go : (t : Bool) → length (show_from k (n / 10) ((48 + n % 10) ∷ rest)) ≤ length (show_from (suc k) (n / 10) ((48 + n % 10) ∷ rest)) →
        length (pick t ((48 + n) ∷ rest) (show_from k (n / 10) ((48 + n % 10) ∷ rest)))
        ≤ length (pick t ((48 + n) ∷ rest) (show_from (suc k) (n / 10) ((48 + n % 10) ∷ rest)))
    go true h = omega arith
    go false h = h

at_most : (k n : ℕ) (rest : List ℕ) → length (show_from k n rest) ≤ k + length rest
unfolding show_from
at_most zero n rest = omega arith
at_most (suc k) n rest = go (ltb n 10) (at_most k (n / 10) ((48 + n % 10) ∷ rest))
  where
    go : (t : Bool) → length (show_from k (n / 10) ((48 + n % 10) ∷ rest)) ≤ k + length ((48 + n % 10) ∷ rest) →
        length (pick t ((48 + n) ∷ rest) (show_from k (n / 10) ((48 + n % 10) ∷ rest))) ≤ suc k + length rest
    go true h = omega arith
    go false h = omega arith

at_least : (k n : ℕ) (rest : List ℕ) → length rest ≤ length (show_from k n rest)
unfolding show_from
at_least zero n rest = omega arith
at_least (suc k) n rest = omega (arith, at_least k n rest, allowed-more k n rest)

-- at least one digit, and at most ten
pub some-digit : (n : ℕ) → 1 ≤ digits n
unfolding show_from
some-digit n = go (ltb n 10)
  where
    go : (t : Bool) → 1 ≤ length (pick t ((48 + n) ∷ []) (show_from 9 (n / 10) ((48 + n % 10) ∷ [])))
    go true = omega arith
    go false = omega (arith, at_least 9 (n / 10) ((48 + n % 10) ∷ []))

pub ten-digits : (n : ℕ) → digits n ≤ 10
ten-digits n = omega (arith, at_most 10 n [])

one-digit : (n : ℕ) → n < 10 → digits n ≡ 1
unfolding show_from
one-digit n h = rw (lt-ltb n 10 h)

-- a digit after those of a number
next-digit : (a d : ℕ) → d < 10 → digits (a * 10 + d) ≤ suc (digits a)
unfolding show_from
next-digit a d h = go (ltb (a * 10 + d) 10)
  where
    go : (t : Bool) → length (pick t ((48 + (a * 10 + d)) ∷ []) (show_from 9 ((a * 10 + d) / 10) ((48 + (a * 10 + d) % 10) ∷ []))) ≤ suc (digits a)
    go true = omega arith
    go false =
        let e : (a * 10 + d) / 10 ≡ a = omega arith in
        rw e (omega (arith, allowed-more 9 a ((48 + (a * 10 + d) % 10) ∷ []), show-long a ((48 + (a * 10 + d) % 10) ∷ [])))

digit-small : (b : ℕ) → is_digit b ≡ true → b - 48 < 10
digit-small b h = omega (arith, leb-true b 57 (and_right (leb 48 b) _ h))

-- the digits that stand at the start, after those of a number
more-digits : (a : ℕ) (s : List ℕ) → digits (decimal a (take (digit_run s) s)) ≤ digits a + digit_run s
unfolding digit_run decimal
more-digits a [] = omega arith
more-digits a (b ∷ s) = go (is_digit b) refl (more-digits (a * 10 + (b - 48)) s)
  where
    go : (t : Bool) → is_digit b ≡ t → digits (decimal (a * 10 + (b - 48)) (take (digit_run s) s)) ≤ digits (a * 10 + (b - 48)) + digit_run s →
        digits (decimal a (take (choose t (λ _. suc (digit_run s)) (λ _. 0)) (b ∷ s))) ≤ digits a + choose t (λ _. suc (digit_run s)) (λ _. 0)
    go true e h = omega (arith, next-digit a (b - 48) (digit-small b e))
    go false e h = omega arith

all_digits : (s : List ℕ) → 0 < digit_run s → digits (decimal 0 (take (digit_run s) s)) ≤ digit_run s
unfolding digit_run decimal
all_digits [] h = absurd (omega arith)
all_digits (b ∷ s) h = go (is_digit b) refl h
  where
    go : (t : Bool) → is_digit b ≡ t → 0 < choose t (λ _. suc (digit_run s)) (λ _. 0) →
        digits (decimal 0 (take (choose t (λ _. suc (digit_run s)) (λ _. 0)) (b ∷ s))) ≤ choose t (λ _. suc (digit_run s)) (λ _. 0)
    go true e h = omega (arith, more-digits (0 * 10 + (b - 48)) s, one-digit (0 * 10 + (b - 48)) (omega (arith, digit-small b e)))
    go false e h = absurd (omega arith)

-- Reading.
pub record Number (v n : ℕ) : Type 0 where
  pub fewer : digits v ≤ n
  pub some : 0 < n

-- a multiplier's digits: none where it is 1
abbrev pub repeats : ℕ → ℕ
repeats n = pick (eqb n 1) 0 (digits n)

repeats-most : (n : ℕ) → repeats n ≤ digits n
repeats-most n = go (eqb n 1)
  where
    go : (t : Bool) → pick t 0 (digits n) ≤ digits n
    go true = omega arith
    go false = omega arith

abbrev pub signed_digits : ℤ → ℕ
signed_digits z = length (show_signed z [])

negative-digits : (v : ℕ) → signed_digits (neg_ℤ (pos v)) ≤ 1 + digits v
negative-digits zero = omega arith
negative-digits (suc v) = omega arith

module _ {c : Place} where
  pub yields-uint : (low high : ℕ) → Yields c (uint low high) Number
  unfolding uint
  yields-uint low high = record {
    took = λ at s h a at' s' e.
        let v = decimal 0 (take (digit_run s) s) in
        let k = pick-read (ltb 0 (digit_run s) && between low high v) e in
        let some = ltb-true 0 (digit_run s) (and_left _ (between low high v) k.0) in
        took-is k.1 k.2 k.3 (took-front at (digit_run s) s (digits_le s) (record { fewer = all_digits s some; some = some }));
  }

  pub yields-sint : (low high high_negative : ℕ) → Yields c (sint low high high_negative) (λ z n. signed_digits z ≤ n)
  yields-sint low high high_negative =
      yields-or
      (yields-bind (yields-just "-") λ _ k i. yields-bind (yields-uint low high_negative) λ v n h.
      yields-done (omega (arith, negative-digits v)))
      (yields-bind (yields-uint low high) λ v n h. yields-done (omega arith))

  pub yields-multiplier : (f : Features) → Yields c (multiplier f) (λ m n. repeats (nat_abs m) ≤ n)
  yields-multiplier f =
      yields-bind {Q = λ v n. repeats v ≤ n}
      (yields-or (weaken (yields-uint 0 MAX-I32) (λ v n h. omega (arith, repeats-most v))) (yields-done (omega arith)))
      λ v n h.
      yields-or (yields-bind (yields-prime f) λ _ k _. yields-done (rw (nat_abs-neg (pos v)) (omega arith))) (yields-done (omega arith))

-- Printing.
pub signed-long : (z : ℤ) (rest : List ℕ) → length (show_signed z rest) ≡ signed_digits z + length rest
signed-long (pos n) rest = show-long n rest
signed-long (negsuc n) rest = omega (arith, show-long (suc n) rest)

-- a sign more than the digits
pub signed-most : (z : ℤ) → signed_digits z ≤ 1 + digits (nat_abs z)
signed-most (pos n) = omega arith
signed-most (negsuc n) = omega arith

pub signed-least : (z : ℤ) → digits (nat_abs z) ≤ signed_digits z
signed-least (pos n) = omega arith
signed-least (negsuc n) = omega arith

pub prime-most : (m : ℤ) (rest : List ℕ) → length (put_prime m rest) ≤ 1 + length rest
prime-most (pos n) rest = omega arith
prime-most (negsuc n) rest = omega arith

pub multiplier-most : (m : ℤ) (rest : List ℕ) → length (put_multiplier m rest) ≤ repeats (nat_abs m) + (1 + length rest)
multiplier-most m rest = go (eqb (nat_abs m) 1)
  where
    go : (t : Bool) → length (pick t (put_prime m rest) (show (nat_abs m) (put_prime m rest))) ≤ pick t 0 (digits (nat_abs m)) + (1 + length rest)
    go true = omega (arith, prime-most m rest)
    go false = omega (arith, prime-most m rest, show-long (nat_abs m) (put_prime m rest))
