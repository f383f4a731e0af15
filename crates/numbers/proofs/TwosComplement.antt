-- Two's complement in w bits: the bits of a number and the number of some bits undo each other.
use Rattle.std.proofs.Common.{◌≡◌, ℕ, zero, suc, ◌+◌, ◌-◌, ◌%◌, ◌^◌, ◌<◌, ◌≤◌, Bool, true, false, ltb, ℤ, pos, negsuc, neg_ℤ, nat_abs, refl, sub-one, arith, pow_pos, ltb-false, ltb-true, le-ltb, lt-ltb}
use native.Mathlib.Nat.{two-pow-succ}
use Rattle.notation.specs.Basics.{pick}
use Rattle.notation.specs.Numbers.{to_bits, from_bits, fits_bits}

-- the highest bit is one half of the range
halves : (w : ℕ) → 0 < w → 2 ^ w ≡ 2 ^ (w - 1) + 2 ^ (w - 1)
halves zero h = elim h [ ]
halves (suc w) h = rw (sub-one, two-pow-succ)

pub to_bits_lt : (w : ℕ) (z : ℤ) → 0 < w → fits_bits w z ≡ true → to_bits w z < 2 ^ w
to_bits_lt w (pos n) h f = omega (arith, halves w h, ltb-true n (2 ^ (w - 1)) f)
to_bits_lt w (negsuc n) h f = omega (arith, halves w h, ltb-true n (2 ^ (w - 1)) f)

pub from_bits-to_bits : (w : ℕ) (z : ℤ) → 0 < w → fits_bits w z ≡ true → from_bits w (to_bits w z) ≡ z
from_bits-to_bits w (pos n) h f = rw f
from_bits-to_bits w (negsuc n) h f =
    let k : n < 2 ^ (w - 1) = ltb-true n (2 ^ (w - 1)) f in
    let high : ltb (2 ^ w - suc n) (2 ^ (w - 1)) ≡ false = le-ltb (2 ^ w - suc n) (2 ^ (w - 1)) (omega (arith, halves w h)) in
    let back : 2 ^ w - suc (2 ^ w - suc n) ≡ n = omega (arith, halves w h) in
    rw (high, back)

pub to_bits-from_bits : (w n : ℕ) → n < 2 ^ w → to_bits w (from_bits w n) ≡ n
to_bits-from_bits w n h = go (ltb n (2 ^ (w - 1)))
  where
    go : (t : Bool) → to_bits w (pick t (pos n) (negsuc (2 ^ w - suc n))) ≡ n
    go true = refl
    go false = omega arith

-- a number and its opposite
pub nat_abs-neg : (z : ℤ) → nat_abs (neg_ℤ z) ≡ nat_abs z
nat_abs-neg (pos zero) = refl
nat_abs-neg (pos (suc n)) = refl
nat_abs-neg (negsuc n) = refl

-- below 0 a number of w bits reaches one further than above
pub opposite-fits : (w m : ℕ) → m ≤ 2 ^ (w - 1) → fits_bits w (neg_ℤ (pos m)) ≡ true
opposite-fits w zero h = lt-ltb 0 (2 ^ (w - 1)) (pow_pos (w - 1))
opposite-fits w (suc m) h = lt-ltb m (2 ^ (w - 1)) (omega arith)

-- the difference from 0, wrapped, is the opposite
pub opposite : (n r : ℕ) → n < 2 ^ 32 → r < 2 ^ 32 → (r + n) % 2 ^ 32 ≡ 0 → r ≡ to_bits 32 (neg_ℤ (from_bits 32 n))
opposite n r n-fits r-fits wraps = go (ltb n 2147483648) refl
  where
    positive : (m : ℕ) → m ≡ n → r ≡ to_bits 32 (neg_ℤ (pos m))
    positive zero e = omega arith
    positive (suc m) e = omega arith

    go : (t : Bool) → ltb n 2147483648 ≡ t → r ≡ to_bits 32 (neg_ℤ (pick t (pos n) (negsuc (2 ^ 32 - suc n))))
    go true e = positive n refl
    go false e = omega (arith, ltb-false n 2147483648 e)

-- the opposite of −2147483648 is read as it stands
pub opposite-magnitude : (m : ℕ) → m < 2147483648 + 1 → to_bits 32 (neg_ℤ (from_bits 32 m)) ≡ to_bits 32 (neg_ℤ (pos m))
opposite-magnitude m h = go (ltb m 2147483648) refl
  where
    go : (t : Bool) → ltb m 2147483648 ≡ t → to_bits 32 (neg_ℤ (pick t (pos m) (negsuc (2 ^ 32 - suc m)))) ≡ to_bits 32 (neg_ℤ (pos m))
    go true e = refl
    go false e =
        let last : m ≡ 2147483648 = omega (arith, ltb-false m 2147483648 e) in
        rw last
