-- The primes by their bytes. Assumes nothing.
use Prim.Native.Nat.{ℕ, zero, suc, ◌≤◌, ◌<◌}
use mathlib.Core.Path.{◌≡◌, refl, sym, ◌∙◌}
use mathlib.Core.Logic.{◌⊎◌, inl, inr, ⊎_elim}
use mathlib.Core.Bool.{Bool, true, false, ◌&&◌, ◌||◌}
use mathlib.Core.List.{List, [], ◌∷◌}
use native.Mathlib.Omega.{arith}
use borrow.Author.Tests.{eq-eqb, eqb-true, ne_eqb}
use lib.Dec.{eqb}
use lib.ListN.{length, get_or}
use Rattle.notation.specs.Basics.{pick, one_of}
use Rattle.notation.specs.Chars.{curly_prime_codes, is_prime}
use Rattle.notation.specs.Utf8.{byte_at, char_width, code_point, width_if}
use Rattle.charsets.proofs.Bools.{contra, and_left, and_right}
use Rattle.notation.proofs.Bools.{and_both, pick_same}
use Rattle.charsets.proofs.Texts.{in-text, is_byte}
use Rattle.charsets.proofs.Points.{Point, no-point, one_byte, two_bytes, three-bytes, four_bytes, point}
use Rattle.charsets.proofs.Sets.{prime-is}

-- one of two
either : (x y c : ℕ) → one_of (x ∷ y ∷ []) c ≡ true → (c ≡ x) ⊎ (c ≡ y)
unfolding one_of
either x y c e = go (eqb x c) (eqb y c) refl refl e
  where
    go : (t u : Bool) → eqb x c ≡ t → eqb y c ≡ u → (t || (u || false)) ≡ true → (c ≡ x) ⊎ (c ≡ y)
    go true u f g h = inl (sym (eqb-true x c f))
    go false true f g h = inr (sym (eqb-true y c g))
    go false false f g h = contra h

-- U+2019 and U+2032 have three bytes, and these are they.
pub record Sign (a b c w : ℕ) : Type 0 where
  pub width : w ≡ 3
  pub first : a ≡ 0xe2
  pub second : b ≡ 0x80
  pub third : one_of (0x99 ∷ 0xb2 ∷ []) c ≡ true

pub sign : {a b c p w : ℕ} → Point a b c p w → 0 < w → one_of curly_prime_codes p ≡ true → Sign a b c w
unfolding one_of
sign no-point h e = absurd (omega arith)
sign {p = p} (one_byte l i) h e = ⊎_elim (λ j. absurd (omega arith)) (λ j. absurd (omega arith)) (either 0x2019 0x2032 p e)
sign {p = p} (two_bytes l i k) h e = ⊎_elim (λ j. absurd (omega arith)) (λ j. absurd (omega arith)) (either 0x2019 0x2032 p e)
sign {p = p} (four_bytes l i) h e = ⊎_elim (λ j. absurd (omega arith)) (λ j. absurd (omega arith)) (either 0x2019 0x2032 p e)
sign {a} {b} {c} {p} (three-bytes t) h e =
    record {
      width = refl;
      first = ⊎_elim (λ j. omega (arith, t.first.0, t.first.1, t.is)) (λ j. omega (arith, t.first.0, t.first.1, t.is)) which;
      second = ⊎_elim (λ j. omega (arith, t.second.0, t.second.1, t.is)) (λ j. omega (arith, t.second.0, t.second.1, t.is)) which;
      third = ⊎_elim
          (λ j. let i : c ≡ 0x99 = omega (arith, t.third.0, t.third.1, t.is) in rw i)
          (λ j. let i : c ≡ 0xb2 = omega (arith, t.third.0, t.third.1, t.is) in rw i) which;
    }
  where
    which : (p ≡ 0x2019) ⊎ (p ≡ 0x2032)
    which = either 0x2019 0x2032 p e

-- only the byte 27 (hex) writes an apostrophe
pub apostrophe : {a b c p w : ℕ} → Point a b c p w → 0 < w → p ≡ 0x27 → a ≡ 0x27
apostrophe no-point h e = absurd (omega arith)
apostrophe (one_byte l i) h e = sym i ∙ e
apostrophe (two_bytes l i j) h e = absurd (omega arith)
apostrophe (three-bytes t) h e = absurd (omega (arith, t.many))
apostrophe (four_bytes l i) h e = absurd (omega arith)

-- where no apostrophe stands, a prime is a curly one
pub other-prime : (s : List ℕ) → (byte_at s 0 ≡ 0x27 → ⊥) → width_if is_prime s ≡ width_if (one_of curly_prime_codes) s
unfolding one_of
other-prime s n = rw (sym (prime-is (code_point s))) (go (char_width s) refl)
  where
    p : ℕ
    p = code_point s

    go : (w : ℕ) → char_width s ≡ w → pick (eqb 0x27 p || one_of curly_prime_codes p) w 0 ≡ pick (one_of curly_prime_codes p) w 0
    go zero e = pick_same (eqb 0x27 p || one_of curly_prime_codes p) 0 ∙ sym (pick_same (one_of curly_prime_codes p) 0)
    go (suc k) e = rw (ne_eqb 0x27 p (λ i. n (apostrophe (point s) (omega (arith, e)) (sym i))))

-- The test of three bytes.
abbrev pub bytes : ℕ → ℕ → ℕ → Bool
bytes a b c = eqb a 0xe2 && eqb b 0x80 && one_of (0x99 ∷ 0xb2 ∷ []) c

are-sign : (s : List ℕ) (c : ℕ) → byte_at s 0 ≡ 0xe2 → byte_at s 1 ≡ 0x80 → byte_at s 2 ≡ c → (c ≡ 0x99) ⊎ (c ≡ 0xb2) → 3 ≡ width_if (one_of curly_prime_codes) s
unfolding char_width code_point one_of
are-sign s c i j k = ⊎_elim (λ e. rw (i, j, k, e)) (λ e. rw (i, j, k, e))

pub curly-is : (s : List ℕ) (r : Bool) → r ≡ bytes (byte_at s 0) (byte_at s 1) (byte_at s 2) → pick r 3 0 ≡ width_if (one_of curly_prime_codes) s
curly-is s true e =
    let ab = and_left (eqb (byte_at s 0) 0xe2 && eqb (byte_at s 1) 0x80) _ (sym e) in
    let c = and_right (eqb (byte_at s 0) 0xe2 && eqb (byte_at s 1) 0x80) _ (sym e) in
    are-sign s (byte_at s 2) (eqb-true _ _ (and_left (eqb (byte_at s 0) 0xe2) _ ab)) (eqb-true _ _ (and_right (eqb (byte_at s 0) 0xe2) _ ab)) refl
    (either 0x99 0xb2 (byte_at s 2) c)
curly-is s false e = go (one_of curly_prime_codes (code_point s)) refl (char_width s) refl
  where
    go : (t : Bool) → one_of curly_prime_codes (code_point s) ≡ t → (w : ℕ) → char_width s ≡ w → ◌≡◌ {A = ℕ} 0 (pick t w 0)
    go false f w g = refl
    go true f zero g = refl
    go true f (suc k) g =
        let x = sign (point s) (omega (arith, g)) f in
        contra (e ∙ and_both _ _ (and_both _ _ (eq-eqb _ 0xe2 x.first) (eq-eqb _ 0x80 x.second)) x.third)

-- too few bytes
pub curly-short : (s : List ℕ) → length s < 3 → false ≡ bytes (byte_at s 0) (byte_at s 1) (byte_at s 2)
curly-short s h = go (bytes (byte_at s 0) (byte_at s 1) (byte_at s 2)) refl
  where
    low : (c : ℕ) → one_of (0x99 ∷ 0xb2 ∷ []) c ≡ true → c < 256
    low c e = ⊎_elim (λ i. omega arith) (λ i. omega arith) (either 0x99 0xb2 c e)

    go : (t : Bool) → bytes (byte_at s 0) (byte_at s 1) (byte_at s 2) ≡ t → false ≡ t
    go false e = refl
    go true e = absurd (omega (arith, is_byte s 2 (low (byte_at s 2) (and_right (eqb (byte_at s 0) 0xe2 && eqb (byte_at s 1) 0x80) _ e))))

-- enough of them
pub curly-at : (s : List ℕ) (r : Bool) → 3 ≤ length s → r ≡ bytes (get_or s 0 0) (get_or s 1 0) (get_or s 2 0) → pick r 3 0 ≡ width_if (one_of curly_prime_codes) s
curly-at s r h e = curly-is s r (rw (in-text s 0 (omega arith), in-text s 1 (omega arith), in-text s 2 (omega arith)) at e)
