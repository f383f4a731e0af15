-- Numbers: digits in a base, big-endian fields, two's complement, decimal reading and printing.
use Rattle.std.specs.Prelude.{ℕ, zero, suc, ◌+◌, ◌-◌, ◌*◌, ◌/◌, ◌%◌, ◌^◌, Bool, List, [], ◌∷◌, ltb, ℤ, pos, negsuc}
use Rattle.notation.specs.Basics.{pick, choose, between}

-- the number that the digits write after those that gave n, most significant digit first
unfoldable pub positional : ℕ → ℕ → List ℕ → ℕ
positional base n [] = n
positional base n (d ∷ ds) = positional base (n * base + d) ds

-- the last w digits of n, most significant first, in front of what follows
unfoldable pub digits : ℕ → ℕ → ℕ → List ℕ → List ℕ
digits base zero n rest = rest
digits base (suc w) n rest = digits base w (n / base) ((n % base) ∷ rest)

-- a field of w bytes, and the number in one
abbrev pub big_endian : ℕ → ℕ → List ℕ
big_endian w n = digits 256 w n []

abbrev pub from_big_endian : List ℕ → ℕ
from_big_endian bs = positional 256 0 bs

-- two's complement in w bits: the bits of a number, and the number of some bits
abbrev pub to_bits : ℕ → ℤ → ℕ
to_bits w (pos n) = n
to_bits w (negsuc n) = 2 ^ w - suc n

abbrev pub from_bits : ℕ → ℕ → ℤ
from_bits w n = pick (ltb n (2 ^ (w - 1))) (pos n) (negsuc (2 ^ w - suc n))

-- the 32 bits of −2147483648, which has no negative in 32 bits
abbrev pub MIN-BITS : ℕ
MIN-BITS = 2147483648

-- z fits w bits
abbrev pub fits_bits : ℕ → ℤ → Bool
fits_bits w (pos n) = ltb n (2 ^ (w - 1))
fits_bits w (negsuc n) = ltb n (2 ^ (w - 1))

-- decimal digits as bytes: how many stand at the start, and the number that they write after those that gave n
abbrev pub is_digit : ℕ → Bool
is_digit b = between 48 57 b

unfoldable pub digit_run : List ℕ → ℕ
digit_run [] = 0
digit_run (b ∷ s) = choose (is_digit b) (λ _. suc (digit_run s)) (λ _. 0)

unfoldable pub decimal : ℕ → List ℕ → ℕ
decimal n [] = n
decimal n (b ∷ s) = decimal (n * 10 + (b - 48)) s

-- n in decimal without leading zeros, in front of what follows; k is more than enough digits
unfoldable pub show_from : ℕ → ℕ → List ℕ → List ℕ
show_from zero n rest = rest
show_from (suc k) n rest = pick (ltb n 10) ((48 + n) ∷ rest) (show_from k (n / 10) ((48 + n % 10) ∷ rest))

-- no number here has more than ten digits
abbrev pub show : ℕ → List ℕ → List ℕ
show n rest = show_from 10 n rest

abbrev pub show_signed : ℤ → List ℕ → List ℕ
show_signed (pos n) rest = show n rest
show_signed (negsuc n) rest = 45 ∷ show (suc n) rest
