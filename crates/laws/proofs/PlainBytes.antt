-- Nesting byte by byte: an opening byte opens one more, a closing byte one less, and plain bytes, which are none of the four, change
-- nothing. Runs of family characters, of whitespace and of digits are plain. Assumes nothing.
use Prim.Native.Nat.{ℕ, zero, suc, ◌+◌, ◌≤◌}
use mathlib.Core.Path.{◌≡◌, refl, sym, ap, subst, ◌∙◌}
use mathlib.Core.Bool.{Bool, true, false, not, ◌&&◌, ◌||◌}
use mathlib.Core.List.{List, [], ◌∷◌, ◌++◌}
use native.Mathlib.Nat.{add-zero}
use native.Mathlib.Omega.{arith}
use lib.Dec.{leb, eqb, leb-suc-suc}
use lib.ListN.{take, drop, take-append-drop}
use borrow.Author.Tests.{eqb-true, leb-true, leb-false, le-leb}
use Rattle.notation.specs.Basics.{pick, choose, between, one_of, every}
use Rattle.notation.specs.Chars.{is_family_char, is_prime, classify, white_space}
use Rattle.notation.specs.Utf8.{byte_at, continuation, char_width, code_point, after_first, width_if, run_from, run}
use Rattle.notation.specs.Numbers.{is_digit, digit_run}
use Rattle.notation.specs.WellFormed.{MAX-NESTING}
use Rattle.notation.specs.Entries.{opens, closes, nesting_ok}
use Rattle.laws.proofs.Bools.{and_left, and_right, and_both}
use Rattle.laws.proofs.Runs.{second}

-- none of ( [ ) ]
abbrev pub plain : ℕ → Bool
plain b = not ((eqb b 40 || eqb b 91) || (eqb b 41 || eqb b 93))

never : {A : Type 0} → ◌≡◌ {A = Bool} false true → A
never e = absurd (let n : ◌≡◌ {A = ℕ} 0 1 = cc in omega arith)

-- A test that none of the four passes is passed by plain bytes alone: the tests of family characters, whitespace, digits, high bytes.
passes-plain : (p : ℕ → Bool) → p 40 ≡ false → p 91 ≡ false → p 41 ≡ false → p 93 ≡ false → (b : ℕ) → p b ≡ true → plain b ≡ true
passes-plain p e₁ e₂ e₃ e₄ b e = go (eqb b 40) (eqb b 91) (eqb b 41) (eqb b 93) refl refl refl refl
  where
    no : (a : ℕ) → p a ≡ false → eqb b a ≡ true → {A : Type 0} → A
    no a f h = never (sym f ∙ ap p (sym (eqb-true b a h)) ∙ e)

    go : (t₁ t₂ t₃ t₄ : Bool) → eqb b 40 ≡ t₁ → eqb b 91 ≡ t₂ → eqb b 41 ≡ t₃ → eqb b 93 ≡ t₄ → not ((t₁ || t₂) || (t₃ || t₄)) ≡ true
    go true t₂ t₃ t₄ h₁ h₂ h₃ h₄ = no 40 e₁ h₁
    go false true t₃ t₄ h₁ h₂ h₃ h₄ = no 91 e₂ h₂
    go false false true t₄ h₁ h₂ h₃ h₄ = no 41 e₃ h₃
    go false false false true h₁ h₂ h₃ h₄ = no 93 e₄ h₄
    go false false false false h₁ h₂ h₃ h₄ = refl

plain-family : (b : ℕ) → is_family_char b ≡ true → plain b ≡ true
unfolding classify one_of
plain-family b e = passes-plain is_family_char refl refl refl refl b e

plain-white : (b : ℕ) → white_space b ≡ true → plain b ≡ true
unfolding white_space one_of
plain-white b e = passes-plain white_space refl refl refl refl b e

plain-prime : (b : ℕ) → is_prime b ≡ true → plain b ≡ true
unfolding classify one_of
plain-prime b e = passes-plain is_prime refl refl refl refl b e

pub plain-digit : (b : ℕ) → is_digit b ≡ true → plain b ≡ true
plain-digit b e = passes-plain is_digit refl refl refl refl b e

-- no ASCII byte
abbrev high : ℕ → Bool
high b = leb 0x80 b

plain-high : (b : ℕ) → high b ≡ true → plain b ≡ true
plain-high b e = passes-plain high refl refl refl refl b e

plain-continuation : (b : ℕ) → continuation b ≡ true → plain b ≡ true
plain-continuation b e = passes-plain continuation refl refl refl refl b e

-- Small facts of tests.
unmarked : (s t : Bool) → not (s || t) ≡ true → (s ≡ false) × (t ≡ false)
unmarked true t e = never e
unmarked false true e = never e
unmarked false false e = (refl, refl)

implied : (s t : Bool) → (t ≡ true → s ≡ true) → (s && t) ≡ t
implied s true h = rw (h refl)
implied true false h = refl
implied false false h = refl

-- o parentheses are open, and with what follows never over 64
pub record Ok (o : ℕ) (s : List ℕ) : Type 0 where
  pub passes : nesting_ok o 0 s ≡ true

pub along : {o o' : ℕ} {s s' : List ℕ} → nesting_ok o' 0 s' ≡ nesting_ok o 0 s → Ok o s → Ok o' s'
along p e = record { passes = p ∙ e.passes }

-- Those that are open now are at most 64.
pub room : (o : ℕ) (s : List ℕ) → nesting_ok o 0 s ≡ true → o ≤ MAX-NESTING
unfolding nesting_ok
room o [] e = leb-true o MAX-NESTING e
room o (b ∷ s) e = leb-true o MAX-NESTING (and_left _ _ e)

-- Plain bytes change nothing: one, a list of them, and those at the start of a text.
pub over_plain : (o b : ℕ) (s : List ℕ) → plain b ≡ true → nesting_ok o 0 (b ∷ s) ≡ nesting_ok o 0 s
unfolding nesting_ok
over_plain o b s e =
    let h = unmarked (eqb b 40 || eqb b 91) (eqb b 41 || eqb b 93) e in
    rw (h.0, h.1, add-zero o) (implied _ _ (λ g. le-leb o MAX-NESTING (room o s g)))

pub over-plains : (o : ℕ) (l s : List ℕ) → every plain l ≡ true → nesting_ok o 0 (l ++ s) ≡ nesting_ok o 0 s
unfolding every
over-plains o [] s e = refl
over-plains o (b ∷ l) s e = over_plain o b (l ++ s) (and_left _ _ e) ∙ over-plains o l s (and_right (plain b) _ e)

pub drop-plains : (o n : ℕ) (s : List ℕ) → every plain (take n s) ≡ true → nesting_ok o 0 (drop n s) ≡ nesting_ok o 0 s
drop-plains o n s e = sym (over-plains o (take n s) (drop n s) e) ∙ ap (nesting_ok o 0) (take-append-drop n s)

shifted_test : (o c : ℕ) → leb (suc o) (suc c + MAX-NESTING) ≡ leb o (c + MAX-NESTING)
shifted_test o c =
    let p : suc c + MAX-NESTING ≡ suc (c + MAX-NESTING) = omega arith in
    rw p (leb-suc-suc o (c + MAX-NESTING))

-- Nesting goes by the difference of both numbers.
shifted : (o c : ℕ) (s : List ℕ) → nesting_ok (suc o) (suc c) s ≡ nesting_ok o c s
unfolding nesting_ok
shifted o c [] = shifted_test o c
shifted o c (b ∷ s) =
    let p : suc o + opens b ≡ suc (o + opens b) = omega arith in
    let q : suc c + closes b ≡ suc (c + closes b) = omega arith in
    rw (shifted_test o c, p, q, shifted (o + opens b) (c + closes b) s)

-- An opening and a closing byte.
pub opening : (o b : ℕ) (s : List ℕ) → opens b ≡ 1 → closes b ≡ 0 → nesting_ok o 0 (b ∷ s) ≡ nesting_ok (suc o) 0 s
unfolding nesting_ok
opening o b s e f =
    let p : o + 1 ≡ suc o = omega arith in
    rw (e, f, p) (implied _ _ (λ g. le-leb o MAX-NESTING (omega (arith, room (suc o) s g))))

pub closing : (o b : ℕ) (s : List ℕ) → opens b ≡ 0 → closes b ≡ 1 →
    nesting_ok (suc o) 0 (b ∷ s) ≡ (leb (suc o) MAX-NESTING && nesting_ok o 0 s)
unfolding nesting_ok
closing o b s e f = rw (e, f, add-zero (suc o), shifted o 0 s)

-- A run of digits is plain.
pub plain-digits : (s : List ℕ) → every plain (take (digit_run s) s) ≡ true
unfolding digit_run every
plain-digits [] = refl
plain-digits (b ∷ s) = go (is_digit b) refl (plain-digits s)
  where
    go : (t : Bool) → is_digit b ≡ t → every plain (take (digit_run s) s) ≡ true →
        every plain (take (choose t (λ _. suc (digit_run s)) (λ _. 0)) (b ∷ s)) ≡ true
    go true e h = and_both (plain b) _ (plain-digit b e) h
    go false e h = refl

-- The bytes of a character after the first are continuations.
tail-1 : (s : List ℕ) → continuation (byte_at s 0) ≡ true → every continuation (take 1 s) ≡ true
unfolding every
tail-1 [] e = refl
tail-1 (b ∷ s) e = and_both (continuation b) true e refl

tail-2 : (s : List ℕ) → continuation (byte_at s 0) ≡ true → continuation (byte_at s 1) ≡ true → every continuation (take 2 s) ≡ true
unfolding every
tail-2 [] e₀ e₁ = refl
tail-2 (b ∷ s) e₀ e₁ = and_both (continuation b) _ e₀ (tail-1 s e₁)

tail-3 : (s : List ℕ) → continuation (byte_at s 0) ≡ true → continuation (byte_at s 1) ≡ true → continuation (byte_at s 2) ≡ true →
    every continuation (take 3 s) ≡ true
unfolding every
tail-3 [] e₀ e₁ e₂ = refl
tail-3 (b ∷ s) e₀ e₁ e₂ = and_both (continuation b) _ e₀ (tail-2 s e₁ e₂)

-- so is a second byte between narrower bounds
narrow : (t u : Bool) (m n x : ℕ) → 0x80 ≤ m → n ≤ 0xbf → between (pick t m 0x80) (pick u n 0xbf) x ≡ true → continuation x ≡ true
narrow t u m n x h k e = go (continuation x) refl
  where
    go : (c : Bool) → continuation x ≡ c → c ≡ true
    go true f = refl
    go false f = never (sym (second t u m n x h k f) ∙ e)

-- the four widths, told apart by the tests of `char_width`
widths : (t₁ t₂ t₃ t₄ : Bool) (k : ℕ) (Q : ℕ → Type 0) → Q 0 → (t₂ ≡ true → Q 1) → (t₃ ≡ true → Q 2) → (t₄ ≡ true → Q 3) →
    pick t₁ 1 (pick t₂ 2 (pick t₃ 3 (pick t₄ 4 0))) ≡ suc k → Q k
widths true t₂ t₃ t₄ k Q q₀ q₁ q₂ q₃ e = subst Q (omega arith) q₀
widths false true t₃ t₄ k Q q₀ q₁ q₂ q₃ e = subst Q (omega arith) (q₁ refl)
widths false false true t₄ k Q q₀ q₁ q₂ q₃ e = subst Q (omega arith) (q₂ refl)
widths false false false true k Q q₀ q₁ q₂ q₃ e = subst Q (omega arith) (q₃ refl)
widths false false false false k Q q₀ q₁ q₂ q₃ e = absurd (omega arith)

pub width-tail : (b k : ℕ) (s : List ℕ) → char_width (b ∷ s) ≡ suc k → every continuation (take k s) ≡ true
unfolding char_width every
width-tail b k s e =
    let b₁ = byte_at s 0 in
    let c₁ = continuation b₁ in
    let c₂ = continuation (byte_at s 1) in
    let c₃ = continuation (byte_at s 2) in
    let r₂ = between 0xc2 0xdf b in
    let r₃ = between 0xe0 0xef b in
    let r₄ = between 0xf0 0xf4 b in
    let s₃ = between (pick (eqb b 0xe0) 0xa0 0x80) (pick (eqb b 0xed) 0x9f 0xbf) b₁ in
    let s₄ = between (pick (eqb b 0xf0) 0x90 0x80) (pick (eqb b 0xf4) 0x8f 0xbf) b₁ in
    widths (leb b 0x7f) (r₂ && c₁) (r₃ && s₃ && c₂) (r₄ && s₄ && c₂ && c₃) k (λ (j : ℕ). every continuation (take j s) ≡ true)
    refl
    (λ h. tail-1 s (and_right r₂ c₁ h))
    (λ h. tail-2 s
    (narrow (eqb b 0xe0) (eqb b 0xed) 0xa0 0x9f b₁ (omega arith) (omega arith) (and_right r₃ s₃ (and_left (r₃ && s₃) c₂ h)))
    (and_right (r₃ && s₃) c₂ h))
    (λ h. let g = and_left (r₄ && s₄ && c₂) c₃ h in tail-3 s
    (narrow (eqb b 0xf0) (eqb b 0xf4) 0x90 0x8f b₁ (omega arith) (omega arith) (and_right r₄ s₄ (and_left (r₄ && s₄) c₂ g)))
    (and_right (r₄ && s₄) c₂ g)
    (and_right (r₄ && s₄ && c₂) c₃ h))
    e

-- An ASCII byte is its character.
low-point : (b : ℕ) (s : List ℕ) → leb b 0x7f ≡ true → code_point (b ∷ s) ≡ b
unfolding code_point
low-point b s e = rw e

tail-plain : (l : List ℕ) → every continuation l ≡ true → every plain l ≡ true
unfolding every
tail-plain [] e = refl
tail-plain (b ∷ l) e = and_both (plain b) _ (plain-continuation b (and_left _ _ e)) (tail-plain l (and_right (continuation b) _ e))

-- A run of characters that pass a test of plain bytes is plain.
module _ (p : ℕ → Bool) (q : (b : ℕ) → p b ≡ true → plain b ≡ true) where
  first_plain : (b : ℕ) (s : List ℕ) → p (code_point (b ∷ s)) ≡ true → plain b ≡ true
  first_plain b s h = go (leb b 0x7f) refl
    where
      go : (t : Bool) → leb b 0x7f ≡ t → plain b ≡ true
      go true e = q b (ap p (sym (low-point b s e)) ∙ h)
      go false e = plain-high b (le-leb 0x80 b (omega (arith, leb-false b 0x7f e)))

  width-plain : (b k : ℕ) (s : List ℕ) → width_if p (b ∷ s) ≡ suc k → (plain b ≡ true) × (every continuation (take k s) ≡ true)
  width-plain b k s = go (p (code_point (b ∷ s))) refl
    where
      go : (t : Bool) → p (code_point (b ∷ s)) ≡ t → pick t (char_width (b ∷ s)) 0 ≡ suc k → (plain b ≡ true) × (every continuation (take k s) ≡ true)
      go true e w = (first_plain b s e, width-tail b k s w)
      go false e w = absurd (omega arith)

  -- a character
  plain-character : (s : List ℕ) → every plain (take (width_if p s) s) ≡ true
  unfolding every
  plain-character [] = go (width_if p [])
    where
      go : (n : ℕ) → every plain (take n []) ≡ true
      go zero = refl
      go (suc n) = refl
  plain-character (b ∷ s) = go (width_if p (b ∷ s)) refl
    where
      go : (n : ℕ) → width_if p (b ∷ s) ≡ n → every plain (take n (b ∷ s)) ≡ true
      go zero e = refl
      go (suc k) e = let w = width-plain b k s e in and_both (plain b) _ w.0 (tail-plain (take k s) w.1)

  plain-run : (k : ℕ) (s : List ℕ) → every continuation (take k s) ≡ true → every plain (take (run_from p k s) s) ≡ true
  unfolding run_from every
  plain-run k [] e = refl
  plain-run (suc k) (b ∷ s) e = and_both (plain b) _ (plain-continuation b (and_left _ _ e)) (plain-run k s (and_right (continuation b) _ e))
  plain-run zero (b ∷ s) e = go (width_if p (b ∷ s)) refl (λ k h. plain-run k s h)
    where
      go : (w : ℕ) → width_if p (b ∷ s) ≡ w → ((k : ℕ) → every continuation (take k s) ≡ true → every plain (take (run_from p k s) s) ≡ true) →
          every plain (take (after_first w 0 (λ k. suc (run_from p k s))) (b ∷ s)) ≡ true
      go zero f h = refl
      go (suc k) f h = let w = width-plain b k s f in and_both (plain b) _ w.0 (h k w.1)

pub plain-families : (s : List ℕ) → every plain (take (run is_family_char s) s) ≡ true
unfolding every
plain-families s = plain-run is_family_char plain-family 0 s refl

pub plain-whites : (s : List ℕ) → every plain (take (run white_space s) s) ≡ true
unfolding every
plain-whites s = plain-run white_space plain-white 0 s refl

pub plain-primes : (s : List ℕ) → every plain (take (width_if is_prime s) s) ≡ true
plain-primes s = plain-character is_prime plain-prime s
