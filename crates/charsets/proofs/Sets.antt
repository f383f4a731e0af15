-- A character's class, its number in the table, and what the sets of characters have to do with each other.
use mathlib.Core.Path.{◌≡◌, refl, ap}
use mathlib.Core.Bool.{Bool, true, false, not, ◌||◌}
use mathlib.Core.List.{◌∷◌}
use Prim.Native.Nat.{ℕ, ◌≤◌}
use borrow.Author.Tests.{le-leb, ne_eqb}
use lib.Dec.{eqb, leb}
use Rattle.notation.specs.declared.char_set.CharSet.TheVariants.{LowercaseLatin, UppercaseLatin, UppercaseGreek, TallLowercaseGreek, ShortLowercaseGreek, Underscore, Prime}
use Rattle.std.specs.Prelude.{Some, None}
use Rattle.notation.specs.Basics.{pick, between, one_of, every}
use Rattle.notation.specs.Chars.{classify, class_number, is_family_class, is_family_char, is_prime_class, is_prime, is_latin_letter, uppercase_greek, tall_lowercase_greek, short_lowercase_greek, curly_prime_codes}
use Rattle.charsets.proofs.Bools.{contra}
use Rattle.charsets.proofs.Among.{apart}

-- the primes are three
pub prime-is : (c : ℕ) → one_of (0x27 ∷ curly_prime_codes) c ≡ is_prime c
unfolding classify one_of every
prime-is c = go (is_prime c) refl
  where
    one : (l u x y z e p : Bool) →
        is_prime_class
        (pick l (Some LowercaseLatin) (pick u (Some UppercaseLatin) (pick x (Some UppercaseGreek) (pick y (Some TallLowercaseGreek)
        (pick z (Some ShortLowercaseGreek) (pick e (Some Underscore) (pick p (Some Prime) None))))))) ≡ true → p ≡ true
    one true u x y z e p h = contra h
    one false true x y z e p h = contra h
    one false false true y z e p h = contra h
    one false false false true z e p h = contra h
    one false false false false true e p h = contra h
    one false false false false false true p h = contra h
    one false false false false false false true h = refl
    one false false false false false false false h = contra h

    go : (t : Bool) → is_prime c ≡ t → one_of (0x27 ∷ curly_prime_codes) c ≡ t
    go true h =
        one (between 0x61 0x7a c) (between 0x41 0x5a c) (one_of uppercase_greek c) (one_of tall_lowercase_greek c) (one_of short_lowercase_greek c) (eqb c 0x5f)
        (one_of (0x27 ∷ curly_prime_codes) c) h
    go false h = apart (λ x. not (is_prime x)) (0x27 ∷ curly_prime_codes) c refl (ap not h)

-- No letter: a test that fails at every Greek letter passes, and it is neither Latin nor the underscore. Then it is a prime or nothing.
pub no-letter : (p : ℕ → Bool) (c : ℕ) → every (λ a. not (p a)) uppercase_greek ≡ true → every (λ a. not (p a)) tall_lowercase_greek ≡ true → every (λ a. not (p a)) short_lowercase_greek ≡ true → p c ≡ true →
    between 0x61 0x7a c ≡ false → between 0x41 0x5a c ≡ false → (c ≡ 0x5f → ⊥) →
    class_number (classify c) ≡ pick (one_of (0x27 ∷ curly_prime_codes) c) 7 0
unfolding classify
no-letter p c u t s h l m n =
    rw (l, m, apart p uppercase_greek c u h, apart p tall_lowercase_greek c t h, apart p short_lowercase_greek c s h, ne_eqb c 0x5f n)
    (go (one_of (0x27 ∷ curly_prime_codes) c))
  where
    go : (t : Bool) → class_number (pick t (Some Prime) None) ≡ pick t 7 0
    go true = refl
    go false = refl

-- in ASCII a family character is a Latin letter or the underscore
pub ascii_family : (c : ℕ) → c ≤ 0x7f → is_family_char c ≡ (is_latin_letter c || eqb c 0x5f)
unfolding classify every
ascii_family c h =
    let a : leb c 0x7f ≡ true = le-leb c 0x7f h in
    rw (apart (λ x. leb x 0x7f) uppercase_greek c refl a, apart (λ x. leb x 0x7f) tall_lowercase_greek c refl a, apart (λ x. leb x 0x7f) short_lowercase_greek c refl a)
    (go (between 0x61 0x7a c) (between 0x41 0x5a c) (eqb c 0x5f) (one_of (0x27 ∷ curly_prime_codes) c))
  where
    go : (l u e p : Bool) → is_family_class (pick l (Some LowercaseLatin) (pick u (Some UppercaseLatin) (pick e (Some Underscore) (pick p (Some Prime) None)))) ≡ (l || u || e)
    go true u e p = refl
    go false true e p = refl
    go false false true p = refl
    go false false false true = refl
    go false false false false = refl
