-- The fields of records one after the other: those of a part of the bytes are the part of them. Assumes nothing.
use Prim.Native.Nat.{ℕ, zero, suc, ◌+◌, ◌*◌, ◌≤◌}
use mathlib.Core.Path.{◌≡◌, refl, sym, ap, ap₂, ◌∙◌}
use mathlib.Core.List.{List, ◌∷◌, ◌++◌}
use native.Mathlib.Omega.{arith}
use lib.ListN.{length, take, drop, length-drop, take-append-drop}
use lib.Seq.{take-append-le, drop-append-le, drop-drop}
use Rattle.notation.specs.Packed.{RECORD, widths, cut}
use Rattle.notation.specs.Clauses.{Fields, fields_of}

pub fields-length : (n : ℕ) (bs : List ℕ) → length (fields_of n bs) ≡ n
unfolding fields_of
fields-length zero bs = refl
fields-length (suc n) bs = ap suc (fields-length n (drop RECORD bs))

-- the first m records
fewer : (m n : ℕ) (bs : List ℕ) → m ≤ n → take m (fields_of n bs) ≡ fields_of m bs
unfolding fields_of
fewer zero n bs h = refl
fewer (suc m) zero bs h = absurd (omega arith)
fewer (suc m) (suc n) bs h = ap (λ (l : List Fields). cut widths (take RECORD bs) ∷ l) (fewer m n (drop RECORD bs) (omega arith))

front : (m : ℕ) (p q : List ℕ) → RECORD * m ≤ length p → fields_of m (p ++ q) ≡ fields_of m p
unfolding fields_of
front zero p q h = refl
front (suc m) p q h =
    ap₂ (λ (l : List ℕ) (k : List Fields). cut widths l ∷ k)
    (take-append-le RECORD p q (omega arith))
    (ap (fields_of m) (drop-append-le RECORD p q (omega arith)) ∙ front m (drop RECORD p) q (rw length-drop (omega arith)))

pub fields-take : (m n : ℕ) (bs : List ℕ) → m ≤ n → RECORD * m ≤ length (take (RECORD * m) bs) → fields_of m (take (RECORD * m) bs) ≡ take m (fields_of n bs)
fields-take m n bs h l =
    sym (fewer m n bs h
    ∙ ap (fields_of m) (sym (take-append-drop (RECORD * m) bs))
    ∙ front m (take (RECORD * m) bs) (drop (RECORD * m) bs) l)

-- those after the first m
pub fields-drop : (m n j : ℕ) (bs : List ℕ) → n ≡ m + j → fields_of j (drop (RECORD * m) bs) ≡ drop m (fields_of n bs)
unfolding fields_of
fields-drop zero n j bs e =
    let z : j ≡ n = omega arith in
    ap (λ (k : ℕ). fields_of k bs) z
fields-drop (suc m) zero j bs e = absurd (omega arith)
fields-drop (suc m) (suc n) j bs e =
    let s : RECORD * suc m ≡ RECORD + RECORD * m = omega arith in
    ap (λ (k : ℕ). fields_of j (drop k bs)) s
    ∙ ap (fields_of j) (sym (drop-drop (RECORD * m) RECORD bs))
    ∙ fields-drop m n j (drop RECORD bs) (omega arith)
