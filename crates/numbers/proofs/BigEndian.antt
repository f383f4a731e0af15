-- Big-endian fields: the laws of digits in base 256, and fields read and written in place.
use Rattle.std.proofs.Common.{◌≡◌, ℕ, suc, ◌+◌, ◌*◌, ◌/◌, ◌%◌, ◌^◌, ◌<◌, ◌≤◌, List, [], ◌∷◌, ◌++◌, length, get_or, take, drop, set, sym, ap, ap₂, refl, zero, ◌-◌, ◌∙◌, subst, append-nil, append_assoc, add-zero, zero-add, add-suc, suc-add, add-one, arith, lit<, length-drop, length-take-le, drop-drop, take-add, take_all, w8, Fits}
use native.Mathlib.Nat.{pow-le-pow_right, lt_of_lt_of_le, pow-succ', div-div-eq-div-mul}
use lib.Arith.{digits_div, digits_mod}
use lib.Seq.{take-suc, sets-eq}
use borrow.Rule.Slice.PartMut.{put_mid}
use lib.ListN.{length-take}
use Rattle.std.specs.Int.{byte_at, bytes_high_first}
use lib.Seq.{sets}
use Rattle.notation.specs.Numbers.{positional, digits, from_big_endian, big_endian}
use Rattle.numbers.proofs.Positional.{Below, below-nil, below-take, below-drop, length_digits, digits-below, digits_append, digits-split, digits-positional, positional-lt, positional-from, positional-append, positional-digits}

-- the bytes of a slice
pub slice-below : (bs : List ℕ) → ((i : ℕ) → Fits w8 (get_or bs i 0)) → Below 256 bs
slice-below bs f = record { at = λ i. (f i).fits }

pub length-big_endian : (w n : ℕ) → length (big_endian w n) ≡ w
length-big_endian w n = length_digits 256 w n [] ∙ add-zero w

pub big_endian-below : (w n : ℕ) → Below 256 (big_endian w n)
big_endian-below w n = digits-below 256 w n [] (lit< tt) (below-nil 256 (lit< tt))

pub from_big_endian-lt : (bs : List ℕ) → Below 256 bs → from_big_endian bs < 256 ^ length bs
from_big_endian-lt bs h = positional-lt 256 bs h

pub from_big_endian-big_endian : (w n : ℕ) → n < 256 ^ w → from_big_endian (big_endian w n) ≡ n
unfolding positional
from_big_endian-big_endian w n h = positional-digits 256 w 0 n [] (lit< tt) h ∙ omega arith

pub big_endian-from_big_endian : (bs : List ℕ) → Below 256 bs → big_endian (length bs) (from_big_endian bs) ≡ bs
big_endian-from_big_endian bs h = digits-positional 256 0 bs [] h ∙ append-nil bs

-- one run of stores after another
pub sets-append : {A : Type 0} (l : List A) (i : ℕ) (xs ys : List A) → sets (sets l i xs) (i + length xs) ys ≡ sets l i (xs ++ ys)
sets-append l i [] ys = rw add-zero
sets-append l i (x ∷ xs) ys = rw (add-suc, ← suc-add) (sets-append (set l i x) (suc i) xs ys)

-- a field is read byte by byte: what the bytes so far give is small enough in a field of eight, and one more byte
pub so_far-lt : (bs : List ℕ) (i : ℕ) → Below 256 bs → i < length bs → length bs ≤ 8 → from_big_endian (take i bs) < 256 ^ 7
so_far-lt bs i b h short =
    let few : length (take i bs) ≤ 7 = simp length-take (omega arith) in
    lt_of_lt_of_le (from_big_endian-lt (take i bs) (below-take 256 i bs (lit< tt) b)) (pow-le-pow_right (lit< tt) few)

pub one_more : (bs : List ℕ) (i : ℕ) → i < length bs → from_big_endian (take i bs) * 256 + get_or bs i 0 ≡ from_big_endian (take (i + 1) bs)
unfolding positional
one_more bs i h = rw add-one (sym (ap from_big_endian (take-suc bs i 0 h) ∙ positional-append 256 0 (take i bs) (get_or bs i 0 ∷ [])))

pub no_bytes : 0 ≡ from_big_endian []
unfolding positional
no_bytes = refl

-- the bytes that the code cuts out for a field of w bytes
module _ (s : List ℕ) (at w : ℕ) (b : Below 256 s) (room : at + w ≤ length s) where
  abbrev bytes : List ℕ
  bytes = take (at + w - at) (drop at s)

  pub field-is : bytes ≡ take w (drop at s)
  field-is = ap (λ (k : ℕ). take k (drop at s)) (omega arith)

  pub field-long : length bytes ≡ w
  field-long = ap length field-is ∙ length-take-le w (drop at s) (simp length-drop (omega arith))

  pub field-below : Below 256 bytes
  field-below = below-take 256 (at + w - at) (drop at s) (lit< tt) (below-drop 256 at s b)

  pub whole-field : (n i : ℕ) → n ≡ from_big_endian (take i bytes) → i ≤ length bytes → (i < length bytes → ⊥) → n ≡ from_big_endian (take w (drop at s))
  whole-field n i e most end =
      e ∙ ap from_big_endian (take_all i bytes (omega (arith, end)) ∙ field-is)

-- reading a field of two parts
pub two-parts : (s : List ℕ) (at u w : ℕ) → at + (u + w) ≤ length s
    → from_big_endian (take (u + w) (drop at s)) ≡ from_big_endian (take u (drop at s)) * 256 ^ w + from_big_endian (take w (drop (at + u) s))
two-parts s at u w h =
    let long : length (take w (drop u (drop at s))) ≡ w =
    length-take-le w (drop u (drop at s)) (simp length-drop (omega arith))
    in
    ap from_big_endian (take-add u w (drop at s))
    ∙ positional-append 256 0 (take u (drop at s)) (take w (drop u (drop at s)))
    ∙ positional-from 256 (from_big_endian (take u (drop at s))) (take w (drop u (drop at s)))
    ∙ rw (long, drop-drop)

-- a part of a field alone: its bound, the first part and the last
pub part-lt : (s : List ℕ) (at w : ℕ) → Below 256 s → at + w ≤ length s → from_big_endian (take w (drop at s)) < 256 ^ w
part-lt s at w b h =
    subst (λ (n : ℕ). from_big_endian (take w (drop at s)) < 256 ^ n)
    (length-take-le w (drop at s) (simp length-drop (omega arith)))
    (from_big_endian-lt (take w (drop at s)) (below-take 256 w (drop at s) (lit< tt) (below-drop 256 at s b)))

pub first_part : (s : List ℕ) (at u w : ℕ) → Below 256 s → at + (u + w) ≤ length s
    → from_big_endian (take (u + w) (drop at s)) / 256 ^ w ≡ from_big_endian (take u (drop at s))
first_part s at u w b h =
    ap (λ (n : ℕ). n / 256 ^ w) (two-parts s at u w h)
    ∙ digits_div (from_big_endian (take u (drop at s))) (part-lt s (at + u) w b (omega arith))

pub last-part : (s : List ℕ) (at u w : ℕ) → Below 256 s → at + (u + w) ≤ length s
    → from_big_endian (take (u + w) (drop at s)) % 256 ^ w ≡ from_big_endian (take w (drop (at + u) s))
last-part s at u w b h =
    ap (λ (n : ℕ). n % 256 ^ w) (two-parts s at u w h)
    ∙ digits_mod (from_big_endian (take u (drop at s))) (part-lt s (at + u) w b (omega arith))

-- and writing one
pub store-parts : (l : List ℕ) (at u w n : ℕ) → sets (sets l at (big_endian u (n / 256 ^ w))) (at + u) (big_endian w (n % 256 ^ w)) ≡ sets l at (big_endian (u + w) n)
store-parts l at u w n =
    let high : List ℕ = big_endian u (n / 256 ^ w) in
    let low : List ℕ = big_endian w (n % 256 ^ w) in
    ap (λ (k : ℕ). sets (sets l at high) (at + k) low) (sym (length-big_endian u (n / 256 ^ w)))
    ∙ sets-append l at high low
    ∙ ap (sets l at) (sym (digits_append 256 u (n / 256 ^ w) [] low) ∙ digits-split 256 u w n [] (lit< tt))

-- A field is written from the library's eight bytes of the number, which are its last eight digits in base 256.
byte-shifted : (k n : ℕ) → byte_at (suc k) n ≡ byte_at k (n / 256)
byte-shifted zero n = refl
byte-shifted (suc k) n = ap (λ (m : ℕ). m % 256) (rw pow-succ' refl ∙ sym (div-div-eq-div-mul n 256 (256 ^ suc k)))

bytes-shifted : (k n : ℕ) → bytes_high_first (suc k) n ≡ bytes_high_first k (n / 256) ++ (n % 256 ∷ [])
bytes-shifted zero n = refl
bytes-shifted (suc k) n = ap₂ (λ (b : ℕ) (bs : List ℕ). b ∷ bs) (byte-shifted k n) (bytes-shifted k n)

bytes-digits : (k n : ℕ) → bytes_high_first k n ≡ big_endian k n
unfolding digits
bytes-digits zero n = refl
bytes-digits (suc k) n =
    bytes-shifted k n
    ∙ ap (λ (bs : List ℕ). bs ++ (n % 256 ∷ [])) (bytes-digits k (n / 256))
    ∙ sym (digits_append 256 k (n / 256) [] (n % 256 ∷ []))

last_bytes : (k w n : ℕ) → drop k (bytes_high_first (k + w) n) ≡ bytes_high_first w n
last_bytes zero w n = rw zero-add
last_bytes (suc k) w n = rw suc-add (last_bytes k w n)

-- the slice of them that the code cuts out
last_of_eight : (w n : ℕ) → w ≤ 8 → take (8 - (8 - w)) (drop (8 - w) (bytes_high_first 8 n)) ≡ big_endian w n
last_of_eight w n h =
    let whole : 8 - w + w ≡ 8 = omega arith in
    let size : length (big_endian w n) ≤ 8 - (8 - w) = omega (arith, length-big_endian w n) in
    ap (λ (k : ℕ). take (8 - (8 - w)) (drop (8 - w) (bytes_high_first k n))) (sym whole)
    ∙ ap (take (8 - (8 - w))) (last_bytes (8 - w) w n ∙ bytes-digits w n)
    ∙ take_all (8 - (8 - w)) (big_endian w n) size

-- and put in the middle of others, where w bytes stood
pub stored-field : (l : List ℕ) (at w n : ℕ) → at + w ≤ length l → w ≤ 8 → (eight bs : List ℕ) → eight ≡ bytes_high_first 8 n → bs ≡ take (8 - (8 - w)) (drop (8 - w) eight)
    → put_mid at (at + w - at) l bs ≡ sets l at (big_endian w n)
stored-field l at w n room short eight bs e f =
    let size : at + w - at ≡ w = omega arith in
    let end : at + length (big_endian w n) ≡ at + w = ap (λ (k : ℕ). at + k) (length-big_endian w n) in
    ap (put_mid at (at + w - at) l) (f ∙ ap (λ (b : List ℕ). take (8 - (8 - w)) (drop (8 - w) b)) e ∙ last_of_eight w n short)
    ∙ ap (λ (k : ℕ). put_mid at k l (big_endian w n)) size
    ∙ ap (λ (r : List ℕ). take at l ++ (big_endian w n ++ r)) (drop-drop w at l)
    ∙ sym (sets-eq (big_endian w n) l at (omega arith) ∙ append_assoc (take at l) (big_endian w n) _ ∙ ap (λ (k : ℕ). take at l ++ (big_endian w n ++ drop k l)) end)
