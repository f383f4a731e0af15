-- With the flag off readings are unchanged. Assumes nothing.
use Prim.Native.Nat.{ℕ}
use mathlib.Core.Path.{◌≡◌, refl, sym, ap}
use mathlib.Core.Bool.{Bool, true, false, ◌||◌}
use mathlib.Core.List.{List, ◌∷◌}
use lib.Dec.{eqb}
use Rattle.notation.specs.Basics.{pick, between, one_of}
use Rattle.notation.specs.Chars.{classify, is_family_class, is_family_char, is_prime, is_latin_letter, is_greek_letter, uppercase_greek, tall_lowercase_greek, short_lowercase_greek, curly_prime_codes}
use Rattle.notation.specs.Grammar.{Reading, rejected, read, Reader, or_else, when, just, character, prime, notation_by}
use Rattle.notation.specs.Primes.{Unchanged}
use Rattle.notation.specs.declared.features.Features.{Features}
use Rattle.notation.specs.declared.char_set.CharSet.TheVariants.{LowercaseLatin, UppercaseLatin, UppercaseGreek, TallLowercaseGreek, ShortLowercaseGreek, Underscore, Prime}
use Rattle.std.specs.Prelude.{Some, None}
use Rattle.laws.proofs.Bools.{false-true}

-- families hold letters and the underscore, as before there was a class of primes
same-families : (c : ℕ) → is_family_char c ≡ (is_latin_letter c || eqb c 0x5f || is_greek_letter c)
unfolding classify
same-families c =
    go (between 0x61 0x7a c) (between 0x41 0x5a c) (one_of uppercase_greek c) (one_of tall_lowercase_greek c) (one_of short_lowercase_greek c) (eqb c 0x5f)
    (one_of (0x27 ∷ curly_prime_codes) c)
  where
    go : (l u x y z e p : Bool) →
        is_family_class
        (pick l (Some LowercaseLatin) (pick u (Some UppercaseLatin) (pick x (Some UppercaseGreek) (pick y (Some TallLowercaseGreek)
        (pick z (Some ShortLowercaseGreek) (pick e (Some Underscore) (pick p (Some Prime) None)))))))
        ≡ (l || u || e || (x || y || z))
    go true u x y z e p = refl
    go false true x y z e p = refl
    go false false x y z true p = of x y z
      where
        of : (x y z : Bool) →
            is_family_class (pick x (Some UppercaseGreek) (pick y (Some TallLowercaseGreek) (pick z (Some ShortLowercaseGreek) (Some Underscore)))) ≡ true
        of true y z = refl
        of false true z = refl
        of false false true = refl
        of false false false = refl
    go false false true y z false p = refl
    go false false false true z false p = refl
    go false false false false true false p = refl
    go false false false false false false true = refl
    go false false false false false false false = refl

-- the sign that negates is the apostrophe alone
apostrophe : (f : Features) → f.curly_primes ≡ false → prime f ≡ just "'"
apostrophe f e = λ i at s. same at s i
  where
    alone : (b : Bool) (r : Reading (Unit {0})) (at : ℕ) (s : List ℕ) → b ≡ false → or_else r (when b (character is_prime)) at s ≡ r
    alone b (read a at' s') at s e = refl
    alone true rejected at s e = absurd (false-true (sym e))
    alone false rejected at s e = refl

    same : (at : ℕ) (s : List ℕ) → prime f at s ≡ just "'" at s
    same at s = alone f.curly_primes (just "'" at s) at s e

pub unchanged : Unchanged
unchanged = record { families = same-families; readings = λ f e text. ap (λ (sign : Reader (Unit {0})). notation_by sign f text) (apostrophe f e) }
