-- Fields of given widths laid out one after the other, and cut apart again. The widths are any list.
use Prim.Native.Nat.{ℕ, zero, suc, ◌+◌, ◌-◌, ◌^◌, ◌<◌, ◌≤◌}
use mathlib.Core.Path.{◌≡◌, refl, sym, ◌∙◌, ap, ap₂}
use mathlib.Core.List.{List, [], ◌∷◌, ◌++◌, append_assoc}
use native.Mathlib.Nat.{suc-add, zero-add}
use native.Mathlib.Omega.{arith}
use lib.Dec.{lit<}
use lib.ListN.{length, get_or, take, drop, length-append, length-drop, take-append-drop}
use lib.Seq.{sets, take_at, drop_at, drop-drop, take-take, length-take-le}
use Rattle.notation.specs.Numbers.{big_endian, from_big_endian}
use Rattle.notation.specs.Packed.{lay_out, cut}
use Rattle.record.specs.Meaning.{total, start}
use Rattle.numbers.proofs.Positional.{Below, below-nil, below-append, below-take, below-drop}
use Rattle.numbers.proofs.BigEndian.{length-big_endian, big_endian-below, sets-append, from_big_endian-big_endian, big_endian-from_big_endian}

-- each field is a number of its width
pub data Fits : List ℕ → List ℕ → Type 0 where
  none : Fits [] []
  one : {w f : ℕ} {ws fs : List ℕ} → f < 256 ^ w → Fits ws fs → Fits (w ∷ ws) (f ∷ fs)

-- a field ends where the next one starts, and none after the whole
pub next_start : (ws : List ℕ) (i : ℕ) → i < length ws → start ws i + get_or ws i 0 ≡ start ws (suc i)
next_start [] i h = absurd (omega arith)
next_start (w ∷ ws) zero h = omega arith
next_start (w ∷ ws) (suc i) h = omega (arith, next_start ws i (omega arith))

pub field-ends : (ws : List ℕ) (i : ℕ) → i < length ws → start ws i + get_or ws i 0 ≤ total ws
field-ends [] i h = absurd (omega arith)
field-ends (w ∷ ws) zero h = omega arith
field-ends (w ∷ ws) (suc i) h = omega (arith, field-ends ws i (omega arith))

pub length-lay_out : (ws fs : List ℕ) → length fs ≡ length ws → length (lay_out ws fs) ≡ total ws
unfolding lay_out
length-lay_out [] [] h = refl
length-lay_out [] (f ∷ fs) h = refl
length-lay_out (w ∷ ws) [] h = absurd (omega arith)
length-lay_out (w ∷ ws) (f ∷ fs) h =
    length-append (big_endian w f) (lay_out ws fs)
    ∙ ap₂ (λ (m n : ℕ). m + n) (length-big_endian w f) (length-lay_out ws fs (omega arith))

pub lay_out-below : (ws fs : List ℕ) → Below 256 (lay_out ws fs)
unfolding lay_out
lay_out-below [] fs = below-nil 256 (lit< tt)
lay_out-below (w ∷ ws) [] = below-nil 256 (lit< tt)
lay_out-below (w ∷ ws) (f ∷ fs) =
    below-append 256 (big_endian w f) (lay_out ws fs) (big_endian-below w f) (lay_out-below ws fs)

-- cutting what was laid out, whatever follows
pub cut-lay_out : {ws fs : List ℕ} (rest : List ℕ) → Fits ws fs → cut ws (lay_out ws fs ++ rest) ≡ fs
unfolding lay_out cut
cut-lay_out rest none = refl
cut-lay_out rest (one {w = w} {f = f} {ws = ws} {fs = fs} h k) =
    let here = big_endian w f in
    let after = lay_out ws fs ++ rest in
    rw (
      append_assoc,
      take_at here after w (length-big_endian w f),
      drop_at here after w (length-big_endian w f),
      from_big_endian-big_endian w f h,
      cut-lay_out rest k,
    )

-- laying out what was cut
pub lay_out-cut : (ws bs : List ℕ) → Below 256 bs → length bs ≡ total ws → lay_out ws (cut ws bs) ≡ bs
unfolding lay_out cut
lay_out-cut [] [] h e = refl
lay_out-cut [] (b ∷ bs) h e = absurd (omega arith)
lay_out-cut (w ∷ ws) bs h e =
    let size : length (take w bs) ≡ w = length-take-le w bs (omega arith) in
    let here : big_endian w (from_big_endian (take w bs)) ≡ take w bs =
    ap (λ (k : ℕ). big_endian k (from_big_endian (take w bs))) (sym size)
    ∙ big_endian-from_big_endian (take w bs) (below-take 256 w bs (lit< tt) h)
    in
    let after : lay_out ws (cut ws (drop w bs)) ≡ drop w bs =
    lay_out-cut ws (drop w bs) (below-drop 256 w bs h) (length-drop w bs ∙ omega arith)
    in
    ap₂ (λ (x y : List ℕ). x ++ y) here after ∙ take-append-drop w bs

-- one field of a list that is cut
cut_at : (ws bs : List ℕ) (i : ℕ) → i < length ws → get_or (cut ws bs) i 0 ≡ from_big_endian (take (get_or ws i 0) (drop (start ws i) bs))
unfolding cut
cut_at [] bs i h = absurd (omega arith)
cut_at (w ∷ ws) bs zero h = refl
cut_at (w ∷ ws) bs (suc i) h = cut_at ws (drop w bs) i (omega arith) ∙ rw drop-drop

drop-take : (m n : ℕ) (l : List ℕ) → drop m (take (m + n) l) ≡ take n (drop m l)
drop-take zero n l = rw zero-add
drop-take (suc m) n [] = rw suc-add (take-empty n)
  where
    take-empty : (n : ℕ) → ◌≡◌ {A = List ℕ} [] (take n [])
    take-empty zero = refl
    take-empty (suc n) = refl
drop-take (suc m) n (x ∷ l) = rw suc-add (drop-take m n l)

-- the same of the first n bytes, which hold the field
pub cut-front : (ws bs : List ℕ) (n i : ℕ) → i < length ws → start ws i + get_or ws i 0 ≤ n
    → get_or (cut ws (take n bs)) i 0 ≡ from_big_endian (take (get_or ws i 0) (drop (start ws i) bs))
cut-front ws bs n i h k =
    let w = get_or ws i 0 in
    let at = start ws i in
    let whole : n ≡ at + (n - at) = omega arith in
    let part : take w (drop at (take n bs)) ≡ take w (drop at bs) =
    ap (λ (m : ℕ). take w (drop at (take m bs))) whole
    ∙ ap (take w) (drop-take at (n - at) bs)
    ∙ take-take w (n - at) (drop at bs) (omega arith)
    in
    cut_at ws (take n bs) i h ∙ ap from_big_endian part

-- the fields stored one after the other from `at` on
abbrev pub stores : List ℕ → ℕ → List ℕ → List ℕ → List ℕ
stores l at [] fs = l
stores l at (w ∷ ws) [] = l
stores l at (w ∷ ws) (f ∷ fs) = stores (sets l at (big_endian w f)) (at + w) ws fs

pub stores-lay_out : (l : List ℕ) (at : ℕ) (ws fs : List ℕ) → stores l at ws fs ≡ sets l at (lay_out ws fs)
unfolding lay_out
stores-lay_out l at [] fs = refl
stores-lay_out l at (w ∷ ws) [] = refl
stores-lay_out l at (w ∷ ws) (f ∷ fs) =
    stores-lay_out (sets l at (big_endian w f)) (at + w) ws fs
    ∙ ap (λ (n : ℕ). sets (sets l at (big_endian w f)) (at + n) (lay_out ws fs)) (sym (length-big_endian w f))
    ∙ sets-append l at (big_endian w f) (lay_out ws fs)
