-- A field stored in what was laid out: the same fields with this one changed, and those after it kept. The widths are any list, then
-- those of a record. Assumes nothing.
use Prim.Native.Nat.{ℕ, zero, suc, ◌+◌, ◌<◌, ◌≤◌}
use mathlib.Core.Path.{◌≡◌, refl, sym, ◌∙◌, ap}
use mathlib.Core.List.{List, [], ◌∷◌, ◌++◌, append_assoc}
use native.Mathlib.Nat.{suc-add, zero-add}
use native.Mathlib.Omega.{arith}
use lib.Dec.{lit<}
use lib.IntN.{ℤ}
use lib.ListN.{length, get_or, take, drop, set, length-append}
use lib.Seq.{sets, sets-eq, drop_at, length-take-le}
use Rattle.notation.specs.Numbers.{big_endian, from_big_endian}
use Rattle.notation.specs.Packed.{RECORD, widths, lay_out, binary_head, head_fields, head_record}
use Rattle.notation.specs.declared.common.BinaryGroupKind.{BinaryGroupKind}
use Rattle.numbers.proofs.BigEndian.{length-big_endian}
use Rattle.record.specs.Meaning.{start, field, with_field, with_lists, SECOND}
use Rattle.record.proofs.Cut.{next_start, field-ends}
use Rattle.record.proofs.Packed.{field_at}

sets-cons : (x : ℕ) (l : List ℕ) (i : ℕ) (vs : List ℕ) → sets (x ∷ l) (suc i) vs ≡ x ∷ sets l i vs
sets-cons x l i [] = refl
sets-cons x l i (v ∷ vs) = sets-cons x (set l i v) (suc i) vs

-- what stands before the stores is kept
sets-past : (p l : List ℕ) (i : ℕ) (vs : List ℕ) → sets (p ++ l) (length p + i) vs ≡ p ++ sets l i vs
sets-past [] l i vs = ap (λ (k : ℕ). sets l k vs) (zero-add i)
sets-past (x ∷ p) l i vs =
    ap (λ (k : ℕ). sets (x ∷ (p ++ l)) k vs) (suc-add (length p) i)
    ∙ sets-cons x (p ++ l) (length p + i) vs
    ∙ ap (λ (s : List ℕ). x ∷ s) (sets-past p l i vs)

sets-front : (p q l : List ℕ) → length p ≡ length q → sets (p ++ l) 0 q ≡ q ++ l
sets-front p q l e =
    let z : 0 + length q ≡ length p = omega arith in
    sets-eq q (p ++ l) 0 (omega (arith, length-append p l))
    ∙ ap (λ (k : ℕ). q ++ drop k (p ++ l)) z
    ∙ ap (λ (s : List ℕ). q ++ s) (drop_at p l (length p) refl)

-- and what stands after them
drop-sets : (l : List ℕ) (i : ℕ) (vs : List ℕ) → i + length vs ≤ length l → drop (i + length vs) (sets l i vs) ≡ drop (i + length vs) l
drop-sets l i vs h =
    ap (drop (i + length vs)) (sets-eq vs l i h)
    ∙ drop_at (take i l ++ vs) (drop (i + length vs) l) (i + length vs)
    (length-append (take i l) vs ∙ ap (λ (k : ℕ). k + length vs) (length-take-le i l (omega arith)))

pub store-field : (ws fs rest : List ℕ) (i n : ℕ) → i < length ws → length fs ≡ length ws
    → sets (lay_out ws fs ++ rest) (start ws i) (big_endian (get_or ws i 0) n) ≡ lay_out ws (set fs i n) ++ rest
unfolding lay_out
store-field [] fs rest i n h e = absurd (omega arith)
store-field (w ∷ ws) [] rest i n h e = absurd (omega arith)
store-field (w ∷ ws) (f ∷ fs) rest zero n h e =
    ap (λ (s : List ℕ). sets s 0 (big_endian w n)) (append_assoc (big_endian w f) (lay_out ws fs) rest)
    ∙ sets-front (big_endian w f) (big_endian w n) (lay_out ws fs ++ rest) (length-big_endian w f ∙ sym (length-big_endian w n))
    ∙ sym (append_assoc (big_endian w n) (lay_out ws fs) rest)
store-field (w ∷ ws) (f ∷ fs) rest (suc i) n h e =
    ap (λ (s : List ℕ). sets s (w + start ws i) (big_endian (get_or ws i 0) n)) (append_assoc (big_endian w f) (lay_out ws fs) rest)
    ∙ ap (λ (k : ℕ). sets (big_endian w f ++ (lay_out ws fs ++ rest)) (k + start ws i) (big_endian (get_or ws i 0) n)) (sym (length-big_endian w f))
    ∙ sets-past (big_endian w f) (lay_out ws fs ++ rest) (start ws i) (big_endian (get_or ws i 0) n)
    ∙ ap (λ (s : List ℕ). big_endian w f ++ s) (store-field ws fs rest i n (omega arith) (omega arith))
    ∙ sym (append_assoc (big_endian w f) (lay_out ws (set fs i n)) rest)

-- the field after the one that is set
pub next-kept : (bs : List ℕ) (i n : ℕ) → suc i < length widths → RECORD ≤ length bs → field (suc i) (with_field i n bs) ≡ field (suc i) bs
next-kept bs i n h long =
    let w = get_or widths i 0 in
    let end : start widths i + length (big_endian w n) ≡ start widths (suc i) =
    ap (λ (k : ℕ). start widths i + k) (length-big_endian w n) ∙ next_start widths i (omega arith)
    in
    let room : start widths i + length (big_endian w n) ≤ length bs =
    omega (arith, field-ends widths i (omega arith), length-big_endian w n)
    in
    let after : drop (start widths (suc i)) (with_field i n bs) ≡ drop (start widths (suc i)) bs =
    rw end at (drop-sets bs (start widths i) (big_endian w n) room)
    in
    field_at (with_field i n bs) (suc i) h
    ∙ ap (λ (l : List ℕ). from_big_endian (take (get_or widths (suc i) 0) l)) after
    ∙ sym (field_at bs (suc i) h)

-- the sizes of a group's two lists
pub lists-set : (k : BinaryGroupKind) (n n' a a' : ℕ) (m : ℤ) (c : ℕ) (rest : List ℕ)
    → with_lists a a' (head_record (binary_head k n n' m c) ++ rest) ≡ head_record (binary_head k a a' m c) ++ rest
unfolding head_record
lists-set k n n' a a' m c rest =
    let fs = head_fields (binary_head k n n' m c) in
    ap (with_field SECOND a') (store-field widths fs rest 1 a (lit< tt) refl)
    ∙ store-field widths (set fs 1 a) rest 2 a' (lit< tt) refl
