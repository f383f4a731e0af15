-- The width of the character at the start of a text, by its first four bytes.
use mathlib.Core.Path.{◌≡◌, refl, sym, ◌∙◌}
use mathlib.Core.Bool.{Bool, true, false, ◌&&◌}
use mathlib.Core.List.{List}
use Prim.Native.Nat.{ℕ, ◌+◌, ◌*◌, ◌%◌, ◌≤◌, ◌<◌}
use native.Mathlib.Nat.{add-zero}
use native.Mathlib.Omega.{arith}
use borrow.Author.Tests.{le-leb, leb-true}
use lib.Dec.{leb, eqb}
use lib.ListN.{length, get_or, drop}
use Rattle.notation.specs.Basics.{pick, between}
use Rattle.notation.specs.Utf8.{byte_at, continuation, char_width, code_point, width_if}
use Rattle.charsets.proofs.Bools.{and_left, and_right, between-high}
use Rattle.notation.proofs.Bools.{pick_same}
use Rattle.charsets.proofs.Texts.{in-text, is_byte, byte-drop, first_byte, is-byte-drop}

-- the rows of table 3-7
abbrev pub two : ℕ → ℕ → Bool
two a b = between 0xc2 0xdf a && continuation b

abbrev pub starts-three : ℕ → ℕ → Bool
starts-three a b = between 0xe0 0xef a && between (pick (eqb a 0xe0) 0xa0 0x80) (pick (eqb a 0xed) 0x9f 0xbf) b

abbrev pub three : ℕ → ℕ → ℕ → Bool
three a b c = starts-three a b && continuation c

abbrev pub starts-four : ℕ → ℕ → Bool
starts-four a b = between 0xf0 0xf4 a && between (pick (eqb a 0xf0) 0x90 0x80) (pick (eqb a 0xf4) 0x8f 0xbf) b

abbrev pub four : ℕ → ℕ → ℕ → ℕ → Bool
four a b c d = starts-four a b && continuation c && continuation d

abbrev pub rows : Bool → Bool → Bool → Bool → ℕ
rows one two three four = pick one 1 (pick two 2 (pick three 3 (pick four 4 0)))

-- the width at a place, from what each row says of the bytes there
pub width-at : (s : List ℕ) (at a b c d : ℕ) {t₁ t₂ t₃ t₄ : Bool} → a ≡ byte_at s at → b ≡ byte_at s (at + 1) → c ≡ byte_at s (at + 2) → d ≡ byte_at s (at + 3) →
    leb a 0x7f ≡ t₁ → two a b ≡ t₂ → three a b c ≡ t₃ → four a b c d ≡ t₄ → rows t₁ t₂ t₃ t₄ ≡ char_width (drop at s)
unfolding char_width
width-at s at a b c d pa pb pc pd e₁ e₂ e₃ e₄ =
    rw (first_byte s at, byte-drop s at 1, byte-drop s at 2, byte-drop s at 3, ← pa, ← pb, ← pc, ← pd, e₁, e₂, e₃, e₄)

pub width_one : (s : List ℕ) (at : ℕ) → at < length s → get_or s at 0 ≤ 0x7f → 1 ≡ char_width (drop at s)
width_one s at h l = width-at s at (get_or s at 0) _ _ _ (in-text s at h) refl refl refl (le-leb _ _ l) refl refl refl

-- what each width says of the bytes
data Form (a b c d : ℕ) : ℕ → Type 0 where
  no-form : Form a b c d 0
  one_byte : a ≤ 0x7f → Form a b c d 1
  two_bytes : a ≤ 0xdf → b ≤ 0xbf → Form a b c d 2
  three-bytes : a ≤ 0xef → b ≤ 0xbf → c ≤ 0xbf → Form a b c d 3
  four_bytes : a ≤ 0xf4 → b ≤ 0xbf → c ≤ 0xbf → d ≤ 0xbf → Form a b c d 4

capped : (t : Bool) (m n b : ℕ) → m ≤ n → b ≤ pick t m n → b ≤ n
capped true m n b h p = omega arith
capped false m n b h p = p

module _ (a b c d : ℕ) where
  by_rows : (t₁ t₂ t₃ t₄ : Bool) → leb a 0x7f ≡ t₁ → two a b ≡ t₂ → three a b c ≡ t₃ → four a b c d ≡ t₄ → Form a b c d (rows t₁ t₂ t₃ t₄)
  by_rows true t₂ t₃ t₄ e₁ e₂ e₃ e₄ = one_byte (leb-true a 0x7f e₁)
  by_rows false true t₃ t₄ e₁ e₂ e₃ e₄ =
      two_bytes (between-high 0xc2 0xdf a (and_left (between 0xc2 0xdf a) (continuation b) e₂))
      (between-high 0x80 0xbf b (and_right (between 0xc2 0xdf a) (continuation b) e₂))
  by_rows false false true t₄ e₁ e₂ e₃ e₄ =
      let p = and_left (starts-three a b) (continuation c) e₃ in
      three-bytes (between-high 0xe0 0xef a (and_left (between 0xe0 0xef a) _ p))
      (capped (eqb a 0xed) 0x9f 0xbf b (omega arith) (between-high _ _ b (and_right (between 0xe0 0xef a) _ p)))
      (between-high 0x80 0xbf c (and_right (starts-three a b) (continuation c) e₃))
  by_rows false false false true e₁ e₂ e₃ e₄ =
      let q = and_left (starts-four a b && continuation c) (continuation d) e₄ in
      let p = and_left (starts-four a b) (continuation c) q in
      four_bytes (between-high 0xf0 0xf4 a (and_left (between 0xf0 0xf4 a) _ p))
      (capped (eqb a 0xf4) 0x8f 0xbf b (omega arith) (between-high _ _ b (and_right (between 0xf0 0xf4 a) _ p)))
      (between-high 0x80 0xbf c (and_right (starts-four a b) (continuation c) q))
      (between-high 0x80 0xbf d (and_right (starts-four a b && continuation c) (continuation d) e₄))
  by_rows false false false false e₁ e₂ e₃ e₄ = no-form

form : (s : List ℕ) → Form (byte_at s 0) (byte_at s 1) (byte_at s 2) (byte_at s 3) (char_width s)
unfolding char_width
form s =
    by_rows (byte_at s 0) (byte_at s 1) (byte_at s 2) (byte_at s 3) (leb (byte_at s 0) 0x7f) (two (byte_at s 0) (byte_at s 1))
    (three (byte_at s 0) (byte_at s 1) (byte_at s 2)) (four (byte_at s 0) (byte_at s 1) (byte_at s 2) (byte_at s 3)) refl refl refl refl

-- and lies within the text
pub width-length : (s : List ℕ) → char_width s ≤ length s
width-length s = of (form s) where
  of : {w : ℕ} → Form (byte_at s 0) (byte_at s 1) (byte_at s 2) (byte_at s 3) w → w ≤ length s
  of no-form = omega arith
  of (one_byte p) = is_byte s 0 (omega arith)
  of (two_bytes p q) = is_byte s 1 (omega arith)
  of (three-bytes p q r) = is_byte s 2 (omega arith)
  of (four_bytes p q r t) = is_byte s 3 (omega arith)

-- which bytes stand at a place where a character does, by its first byte
pub record Stands (s : List ℕ) (at : ℕ) : Type 0 where
  pub first : at < length s
  pub second : 0x7f < get_or s at 0 → at + 1 < length s
  pub third : 0xdf < get_or s at 0 → at + 2 < length s
  pub fourth : 0xef < get_or s at 0 → at + 3 < length s

pub stands : (s : List ℕ) (at : ℕ) → 0 < char_width (drop at s) → Stands s at
stands s at h = of (form (drop at s)) h where
  made : byte_at (drop at s) 0 < 256 → (0x7f < byte_at (drop at s) 0 → byte_at (drop at s) 1 < 256) → (0xdf < byte_at (drop at s) 0 → byte_at (drop at s) 2 < 256) → (0xef < byte_at (drop at s) 0 → byte_at (drop at s) 3 < 256) → Stands s at
  made n p q r =
      let f : at < length s = rw add-zero at (is-byte-drop s at 0 n) in
      let e : get_or s at 0 ≡ byte_at (drop at s) 0 = in-text s at f ∙ sym (first_byte s at) in
      record {
        first = f;
        second = λ l. is-byte-drop s at 1 (p (rw e at l));
        third = λ l. is-byte-drop s at 2 (q (rw e at l));
        fourth = λ l. is-byte-drop s at 3 (r (rw e at l));
      }

  of : {w : ℕ} → Form (byte_at (drop at s) 0) (byte_at (drop at s) 1) (byte_at (drop at s) 2) (byte_at (drop at s) 3) w → 0 < w → Stands s at
  of no-form l = absurd (omega arith)
  of (one_byte p) l = made (omega arith) (λ x. omega arith) (λ x. omega arith) (λ x. omega arith)
  of (two_bytes p q) l = made (omega arith) (λ x. omega arith) (λ x. omega arith) (λ x. omega arith)
  of (three-bytes p q r) l = made (omega arith) (λ x. omega arith) (λ x. omega arith) (λ x. omega arith)
  of (four_bytes p q r t) l = made (omega arith) (λ x. omega arith) (λ x. omega arith) (λ x. omega arith)

-- the code point at a place, from the bytes there
pub point_at : (s : List ℕ) (at a b c d : ℕ) {t₁ t₂ t₃ : Bool} → a ≡ byte_at s at → b ≡ byte_at s (at + 1) → c ≡ byte_at s (at + 2) → d ≡ byte_at s (at + 3) →
    leb a 0x7f ≡ t₁ → leb a 0xdf ≡ t₂ → leb a 0xef ≡ t₃ →
    pick t₁ a (pick t₂ (a % 32 * 64 + b % 64) (pick t₃ (a % 16 * 4096 + b % 64 * 64 + c % 64) (a % 8 * 262144 + b % 64 * 4096 + c % 64 * 64 + d % 64))) ≡ code_point (drop at s)
unfolding code_point
point_at s at a b c d pa pb pc pd e₁ e₂ e₃ =
    rw (first_byte s at, byte-drop s at 1, byte-drop s at 2, byte-drop s at 3, ← pa, ← pb, ← pc, ← pd, e₁, e₂, e₃)

-- the width r of a character that passes a test: an ASCII one, any, and where there is none
module _ (p : ℕ → Bool) (s : List ℕ) (at : ℕ) where
  pub width-ascii : {a r : ℕ} {t : Bool} → a ≡ byte_at s at → a ≤ 0x7f → t ≡ p a → r ≡ pick t 1 0 → r ≡ width_if p (drop at s)
  width-ascii {a} e h q f =
      rw (f, q, ← width-at s at a _ _ _ e refl refl refl (le-leb a 0x7f h) refl refl refl, ← point_at s at a _ _ _ e refl refl refl (le-leb a 0x7f h) refl refl)

  pub width-wide : {w c r : ℕ} {t : Bool} → w ≡ char_width (drop at s) → c ≡ code_point (drop at s) → t ≡ p c → r ≡ pick t w 0 → r ≡ width_if p (drop at s)
  width-wide e g q f = rw (f, q, g, e)

  pub width-none : {w : ℕ} → w ≡ char_width (drop at s) → w ≡ 0 → 0 ≡ width_if p (drop at s)
  width-none e z = rw (← e, z) (sym (pick_same (p (code_point (drop at s))) 0))
