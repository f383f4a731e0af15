-- The rules for single characters and words, by the bytes that stand at a place of a text. Assumes nothing.
use Prim.Native.Nat.{ℕ, ◌+◌, ◌≤◌, ◌<◌}
use Prim.Native.Char.{Char, code}
use Prim.Native.String as S
use mathlib.Core.Path.{◌≡◌, refl, sym, ap, ◌∙◌}
use mathlib.Core.Bool.{Bool, true, false, ◌&&◌}
use mathlib.Core.List.{List, [], ◌∷◌}
use native.Mathlib.Omega.{arith}
use borrow.Author.Tests.{eqb-true, ne_eqb}
use lib.Dec.{eqb}
use lib.ListN.{length, drop}
use Rattle.notation.specs.Utf8.{byte_at}
use Rattle.notation.specs.Grammar.{rejected, read, and_then, done, just, word}
use Rattle.numbers.proofs.Bounds.{just-byte}
use Rattle.charsets.proofs.Texts.{in-text, is_byte, first_byte}
use Rattle.charsets.proofs.Bools.{and_left, and_right}

-- a byte that was seen stands within the text
pub seen : (s : List ℕ) (at b : ℕ) → b < 256 → eqb (byte_at s at) b ≡ true → at < length s
seen s at b h e = is_byte s at (omega (arith, eqb-true (byte_at s at) b e))

-- where one byte stands, another does not
pub other : (x a b : ℕ) → (a ≡ b → ⊥) → eqb x a ≡ true → eqb x b ≡ false
other x a b h e = ne_eqb x b (λ p. h (sym (eqb-true x a e) ∙ p))

pub just-is : (c : Char) (s : List ℕ) (at : ℕ) → code c < 256 → eqb (byte_at s at) (code c) ≡ true → just c at (drop at s) ≡ read tt (at + 1) (drop (at + 1) s)
just-is c s at h e =
    let l : at < length s = seen s at (code c) h e in
    just-byte c s at l (in-text s at l ∙ eqb-true (byte_at s at) (code c) e)

pub just-not : (c : Char) (s : List ℕ) (at : ℕ) → eqb (byte_at s at) (code c) ≡ false → just c at (drop at s) ≡ rejected
unfolding just
just-not c s at e = go (drop at s) (ap (λ (x : ℕ). eqb x (code c)) (first_byte s at) ∙ e)
  where
    go : (t : List ℕ) → eqb (byte_at t 0) (code c) ≡ false → just c at t ≡ rejected
    go [] q = refl
    go (b ∷ t) q = rw q

-- two characters
abbrev pub two : List ℕ → ℕ → ℕ → ℕ → Bool
two s at a b = eqb (byte_at s at) a && eqb (byte_at s (at + 1)) b

module _ (c d : Char) (s : List ℕ) (at : ℕ) where
  pub word-is : code c < 256 → code d < 256 → two s at (code c) (code d) ≡ true →
      word (S.◌∷◌ c (S.◌∷◌ d S.[])) at (drop at s) ≡ read tt (at + 2) (drop (at + 2) s)
  unfolding word
  word-is h k e =
      rw (just-is c s at h (and_left _ _ e), just-is d s (at + 1) k (and_right (eqb (byte_at s at) (code c)) _ e))
      (ap (λ (n : ℕ). read tt n (drop n s)) (omega arith))

  pub word-not : code c < 256 → two s at (code c) (code d) ≡ false → word (S.◌∷◌ c (S.◌∷◌ d S.[])) at (drop at s) ≡ rejected
  unfolding word
  word-not h e = go (eqb (byte_at s at) (code c)) refl e
    where
      go : (t : Bool) → eqb (byte_at s at) (code c) ≡ t → (t && eqb (byte_at s (at + 1)) (code d)) ≡ false →
          and_then (just c at (drop at s)) (λ _ at s. and_then (just d at s) (λ _. done (tt {0}))) ≡ rejected
      go true p q = rw (just-is c s at h p, just-not d s (at + 1) q)
      go false p q = rw (just-not c s at p)

  -- the text is long enough for both
  pub two-inside : code c < 256 → code d < 256 → two s at (code c) (code d) ≡ true → at + 2 ≤ length s
  two-inside h k e = omega (arith, seen s (at + 1) (code d) k (and_right (eqb (byte_at s at) (code c)) _ e))

-- two characters do not stand where the first is another
pub two-other : (x y a b c : ℕ) → (a ≡ b → ⊥) → (eqb x a && eqb y c) ≡ true → (eqb x b && eqb y c) ≡ false
two-other x y a b c h e = rw (other x a b h (and_left _ _ e))
