-- Characters: each class at its ends, the letters left out, the primes, White_Space, and widths of UTF-8 characters.
use Prim.Native.Nat.{ℕ}
use mathlib.Core.Path.{◌≡◌, refl}
use mathlib.Core.Bool.{true, false}
use mathlib.Core.List.{List, [], ◌∷◌, map}
use lib.ListN.{replicate}
use Rattle.notation.specs.Chars.{classify, class_number, is_family_char, is_prime, white_space}
use Rattle.notation.specs.Utf8.{char_width, code_point}
use Rattle.notation.specs.Numbers.{digit_run, big_endian, show}
use Rattle.notation.proofs.Opened.{opened}
use Rattle.notation.proofs.Examples.Text.{bytes}

-- ` a z { @ A Z [ _ 0, then Γ Δ Θ Ω β δ ξ ε ω, then Α α σ ς and U+0400
classes : map (λ c. class_number (classify c))
    (0x60 ∷ 0x61 ∷ 0x7a ∷ 0x7b ∷ 0x40 ∷ 0x41 ∷ 0x5a ∷ 0x5b ∷ 0x5f ∷ 0x30
    ∷ 0x393 ∷ 0x394 ∷ 0x398 ∷ 0x3a9 ∷ 0x3b2 ∷ 0x3b4 ∷ 0x3be ∷ 0x3b5 ∷ 0x3c9
    ∷ 0x391 ∷ 0x3b1 ∷ 0x3c3 ∷ 0x3c2 ∷ 0x400 ∷ [])
    ≡ 0 ∷ 1 ∷ 1 ∷ 0 ∷ 0 ∷ 2 ∷ 2 ∷ 0 ∷ 6 ∷ 0 ∷ 3 ∷ 3 ∷ 3 ∷ 3 ∷ 4 ∷ 4 ∷ 4 ∷ 5 ∷ 5 ∷ 0 ∷ 0 ∷ 0 ∷ 0 ∷ 0 ∷ []
unfolding opened
classes = refl

-- the apostrophe, U+2019 and U+2032 are primes, and what stands beside them is none: ` ´ ʹ ʼ ‘ ‚ ‛ ‱ '' ‵
abbrev signs : List ℕ
signs = 0x27 ∷ 0x2019 ∷ 0x2032 ∷ 0x26 ∷ 0x28 ∷ 0x60 ∷ 0xb4 ∷ 0x2b9 ∷ 0x2bc ∷ 0x2018 ∷ 0x201a ∷ 0x201b ∷ 0x2031 ∷ 0x2033 ∷ 0x2035 ∷ []

primes : (map (λ c. class_number (classify c)) signs ≡ 7 ∷ 7 ∷ 7 ∷ replicate 12 0)
    × (map is_prime signs ≡ true ∷ true ∷ true ∷ replicate 12 false) × (map is_family_char signs ≡ replicate 15 false)
unfolding opened
primes = (refl, refl, refl)

-- U+0008, 0009, 000D, 000E, space, 0085, 00A0, 1680, 180E, 2000, 200A, 200B, 2028, 2029, 202F, 205F, 2060, 3000, FEFF
white : map white_space
    (0x8 ∷ 0x9 ∷ 0xd ∷ 0xe ∷ 0x20 ∷ 0x85 ∷ 0xa0 ∷ 0x1680 ∷ 0x180e ∷ 0x2000 ∷ 0x200a ∷ 0x200b ∷ 0x2028 ∷ 0x2029 ∷ 0x202f ∷ 0x205f ∷ 0x2060 ∷ 0x3000 ∷ 0xfeff ∷ [])
    ≡ false ∷ true ∷ true ∷ false ∷ true ∷ true ∷ true ∷ true ∷ false ∷ true ∷ true ∷ false ∷ true ∷ true ∷ true ∷ true ∷ false ∷ true ∷ false ∷ []
unfolding opened
white = refl

-- U+007F, 0080, 07FF, 0800, D7FF, E000, FFFF, 10000, 10FFFF; then what lies beside: C1 BF, E0 9F BF, ED A0 80, F0 8F BF BF, F4 90 80 80, F5 80 80 80, a lone 80, C2 cut off, nothing
widths : map char_width
    ((0x7f ∷ []) ∷ (0xc2 ∷ 0x80 ∷ []) ∷ (0xdf ∷ 0xbf ∷ []) ∷ (0xe0 ∷ 0xa0 ∷ 0x80 ∷ []) ∷ (0xed ∷ 0x9f ∷ 0xbf ∷ []) ∷ (0xee ∷ 0x80 ∷ 0x80 ∷ []) ∷ (0xef ∷ 0xbf ∷ 0xbf ∷ [])
    ∷ (0xf0 ∷ 0x90 ∷ 0x80 ∷ 0x80 ∷ []) ∷ (0xf4 ∷ 0x8f ∷ 0xbf ∷ 0xbf ∷ [])
    ∷ (0xc1 ∷ 0xbf ∷ []) ∷ (0xe0 ∷ 0x9f ∷ 0xbf ∷ []) ∷ (0xed ∷ 0xa0 ∷ 0x80 ∷ []) ∷ (0xf0 ∷ 0x8f ∷ 0xbf ∷ 0xbf ∷ []) ∷ (0xf4 ∷ 0x90 ∷ 0x80 ∷ 0x80 ∷ [])
    ∷ (0xf5 ∷ 0x80 ∷ 0x80 ∷ 0x80 ∷ []) ∷ (0x80 ∷ []) ∷ (0xc2 ∷ []) ∷ [] ∷ [])
    ≡ 1 ∷ 2 ∷ 2 ∷ 3 ∷ 3 ∷ 3 ∷ 3 ∷ 4 ∷ 4 ∷ 0 ∷ 0 ∷ 0 ∷ 0 ∷ 0 ∷ 0 ∷ 0 ∷ 0 ∷ 0 ∷ []
unfolding opened
widths = refl

points : map code_point
    ((0x7f ∷ []) ∷ (0xc2 ∷ 0x80 ∷ []) ∷ (0xdf ∷ 0xbf ∷ []) ∷ (0xe0 ∷ 0xa0 ∷ 0x80 ∷ []) ∷ (0xef ∷ 0xbf ∷ 0xbf ∷ []) ∷ (0xf0 ∷ 0x90 ∷ 0x80 ∷ 0x80 ∷ []) ∷ (0xf4 ∷ 0x8f ∷ 0xbf ∷ 0xbf ∷ []) ∷ [])
    ≡ 0x7f ∷ 0x80 ∷ 0x7ff ∷ 0x800 ∷ 0xffff ∷ 0x10000 ∷ 0x10ffff ∷ []
unfolding opened
points = refl

numbers : (show 0 [] ≡ bytes "0") × (show 4294967295 [] ≡ bytes "4294967295") × (big_endian 4 258 ≡ 0 ∷ 0 ∷ 1 ∷ 2 ∷ []) × (digit_run (bytes "007R") ≡ 3)
unfolding opened bytes
numbers = (refl, refl, refl, refl)
