-- Characters (charsets.rs): the six classes of family characters, the class of primes (document 02, request 6), and White_Space.
-- A character is its code point.
use Rattle.std.specs.Prelude.{ℕ, ◌+◌, Bool, true, false, ◌||◌, List, [], ◌∷◌, map, eqb}
use Rattle.notation.specs.Basics.{pick, between, one_of}
use Rattle.notation.specs.declared.char_set.CharSet.{CharSet}
use Rattle.notation.specs.declared.char_set.CharSet.TheVariants.{
  LowercaseLatin,
  UppercaseLatin,
  UppercaseGreek,
  TallLowercaseGreek,
  ShortLowercaseGreek,
  Underscore,
  Prime,
}
use Rattle.std.specs.Prelude.{Option, Some, None}

-- Γ Δ Θ Λ Ξ Π Σ Φ Ψ Ω
abbrev pub uppercase_greek : List ℕ
uppercase_greek = map (λ n. 0x300 + n) (0x93 ∷ 0x94 ∷ 0x98 ∷ 0x9b ∷ 0x9e ∷ 0xa0 ∷ 0xa3 ∷ 0xa6 ∷ 0xa8 ∷ 0xa9 ∷ [])

-- β δ ζ θ λ ξ
abbrev pub tall_lowercase_greek : List ℕ
tall_lowercase_greek = map (λ n. 0x300 + n) (0xb2 ∷ 0xb4 ∷ 0xb6 ∷ 0xb8 ∷ 0xbb ∷ 0xbe ∷ [])

-- ε η κ μ π τ φ ψ ω
abbrev pub short_lowercase_greek : List ℕ
short_lowercase_greek = map (λ n. 0x300 + n) (0xb5 ∷ 0xb7 ∷ 0xba ∷ 0xbc ∷ 0xc0 ∷ 0xc4 ∷ 0xc6 ∷ 0xc8 ∷ 0xc9 ∷ [])

-- the right single quotation mark and the prime, as word processors write them for an apostrophe
abbrev pub curly_prime_codes : List ℕ
curly_prime_codes = 0x2019 ∷ 0x2032 ∷ []

unfoldable pub classify : ℕ → Option CharSet
classify c =
    pick (between 0x61 0x7a c) (Some LowercaseLatin)
    (pick (between 0x41 0x5a c) (Some UppercaseLatin)
    (pick (one_of uppercase_greek c) (Some UppercaseGreek)
    (pick (one_of tall_lowercase_greek c) (Some TallLowercaseGreek)
    (pick (one_of short_lowercase_greek c) (Some ShortLowercaseGreek)
    (pick (eqb c 0x5f) (Some Underscore)
    (pick (one_of (0x27 ∷ curly_prime_codes) c) (Some Prime) None))))))

-- how the table of 1,024 entries writes a class
abbrev pub set_number : CharSet → ℕ
set_number LowercaseLatin = 1
set_number UppercaseLatin = 2
set_number UppercaseGreek = 3
set_number TallLowercaseGreek = 4
set_number ShortLowercaseGreek = 5
set_number Underscore = 6
set_number Prime = 7

abbrev pub class_number : Option CharSet → ℕ
class_number None = 0
class_number (Some s) = set_number s

-- the classes of which a family name is made: all but the primes
abbrev pub family_set : CharSet → Bool
family_set LowercaseLatin = true
family_set UppercaseLatin = true
family_set UppercaseGreek = true
family_set TallLowercaseGreek = true
family_set ShortLowercaseGreek = true
family_set Underscore = true
family_set Prime = false

abbrev pub is_family_class : Option CharSet → Bool
is_family_class None = false
is_family_class (Some s) = family_set s

abbrev pub is_family_char : ℕ → Bool
is_family_char c = is_family_class (classify c)

abbrev pub prime_set : CharSet → Bool
prime_set LowercaseLatin = false
prime_set UppercaseLatin = false
prime_set UppercaseGreek = false
prime_set TallLowercaseGreek = false
prime_set ShortLowercaseGreek = false
prime_set Underscore = false
prime_set Prime = true

abbrev pub is_prime_class : Option CharSet → Bool
is_prime_class None = false
is_prime_class (Some s) = prime_set s

abbrev pub is_prime : ℕ → Bool
is_prime c = is_prime_class (classify c)

abbrev pub is_latin_letter : ℕ → Bool
is_latin_letter c = between 0x61 0x7a c || between 0x41 0x5a c

abbrev pub is_greek_letter : ℕ → Bool
is_greek_letter c = one_of uppercase_greek c || one_of tall_lowercase_greek c || one_of short_lowercase_greek c

-- Unicode's White_Space: U+0009 to U+000D, space, U+0085, U+00A0, U+1680, U+2000 to U+200A, U+2028, U+2029, U+202F, U+205F, U+3000
unfoldable pub white_space : ℕ → Bool
white_space c =
    between 0x9 0xd c || between 0x2000 0x200a c
    || one_of (0x20 ∷ 0x85 ∷ 0xa0 ∷ 0x1680 ∷ 0x2028 ∷ 0x2029 ∷ 0x202f ∷ 0x205f ∷ 0x3000 ∷ []) c
