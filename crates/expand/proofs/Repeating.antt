-- Repeats made by copying each byte from one period before. Assumes nothing.
use Prim.Native.Nat.{ℕ, zero, suc, ◌+◌, ◌-◌, ◌*◌, ◌≤◌, ◌<◌}
use mathlib.Core.Path.{◌≡◌, refl, sym, ap, ap₂, ◌∙◌}
use mathlib.Core.List.{List, [], ◌∷◌, ◌++◌, append_assoc, append-nil}
use native.Mathlib.Nat.{zero-mul, mul-zero}
use native.Mathlib.Numerals.{add-one}
use native.Mathlib.Omega.{arith}
use lib.ListN.{length, get_or, take, drop, set, length-set, take-append-drop, get_or-append}
use lib.Seq.{take_at, take-suc, drop-cons, set_at, get_or-take, get_or-append-add, length-take-le}
use Rattle.notation.specs.Unroll.{copies}
use Rattle.notation.proofs.Marked.{length-copies}

copies-last : (n : ℕ) (u : List ℕ) → copies (suc n) u ≡ copies n u ++ u
unfolding copies
copies-last zero u = append-nil u
copies-last (suc n) u = ap (λ (s : List ℕ). u ++ s) (copies-last n u) ∙ sym (append_assoc u (copies n u) u)

-- one period on stands the same
period : (n : ℕ) (u : List ℕ) (j : ℕ) → length u + j < n * length u → get_or (copies n u) (length u + j) 0 ≡ get_or (copies n u) j 0
unfolding copies
period zero u j h = absurd (omega (arith, zero-mul (length u)))
period (suc n) u j h =
    get_or-append-add u (copies n u) j 0
    ∙ sym (get_or-append (copies n u) u 0 j (omega (arith, length-copies n u)))
    ∙ ap (λ (s : List ℕ). get_or s j 0) (sym (copies-last n u))

positive : (n s : ℕ) → 0 < n * s → 0 < s
positive n zero h = absurd (omega (arith, mul-zero n))
positive n (suc s) h = omega arith

pub record Repeating (before : List ℕ) (size total : ℕ) (out : List ℕ) (i : ℕ) : Type 0 where
  pub least : size ≤ i
  pub most : i ≤ total
  pub long : length out ≡ length before
  pub bytes : (n : ℕ) → total ≤ n * size → out ≡ take i (copies n (take size before)) ++ drop i before

pub repeating-starts : (before : List ℕ) (size total : ℕ) → size ≤ total → total ≤ length before → Repeating before size total before size
unfolding copies
repeating-starts before size total h l = record { least = omega arith; most = h; long = refl; bytes = start }
  where
    start : (n : ℕ) → total ≤ n * size → before ≡ take size (copies n (take size before)) ++ drop size before
    start zero k =
        let z : size ≡ 0 = omega (arith, zero-mul size) in
        rw z
    start (suc n) k =
        sym (ap (λ (s : List ℕ). s ++ drop size before) (take_at (take size before) (copies n (take size before)) size (length-take-le size before (omega arith)))
        ∙ take-append-drop size before)

pub repeating-goes-on : (before : List ℕ) (size total : ℕ) (out : List ℕ) (i : ℕ) → total ≤ length before → Repeating before size total out i → i < total →
    Repeating before size total (set out i (get_or out (i - size) 0)) (i + 1)
repeating-goes-on before size total out i l r h =
    record { least = omega (arith, r.least); most = omega arith; long = length-set out i (get_or out (i - size) 0) ∙ r.long; bytes = next }
  where
    next : (n : ℕ) → total ≤ n * size → set out i (get_or out (i - size) 0) ≡ take (i + 1) (copies n (take size before)) ++ drop (i + 1) before
    next n k =
        let u = take size before in
        let w = copies n u in
        let lu : length u ≡ size = length-take-le size before (omega (arith, r.least)) in
        let lw : length w ≡ n * size = length-copies n u ∙ ap (λ (m : ℕ). n * m) lu in
        let lt : length (take i w) ≡ i = length-take-le i w (omega arith) in
        let e = r.bytes n k in
        let j : i - size < length (take i w) = omega (arith, positive n size (omega arith), r.least) in
        let back : length u + (i - size) ≡ i = omega (arith, r.least) in
        let g : get_or out (i - size) 0 ≡ get_or w i 0 =
        (ap (λ (s : List ℕ). get_or s (i - size) 0) e ∙ get_or-append (take i w) (drop i before) 0 (i - size) j
        ∙ get_or-take i w (i - size) 0 (omega arith)
        ∙ sym (period n u (i - size) (omega (arith, ap (λ (m : ℕ). n * m) lu)))
        ∙ ap (λ (m : ℕ). get_or w m 0) back) in
        ap₂ (λ (s : List ℕ) (v : ℕ). set s i v) (e ∙ ap (λ (s : List ℕ). take i w ++ s) (drop-cons before i 0 (omega arith))) g
        ∙ set_at (take i w) (get_or before i 0) (drop (suc i) before) (get_or w i 0) i lt
        ∙ sym (append_assoc (take i w) (get_or w i 0 ∷ []) (drop (suc i) before))
        ∙ ap (λ (s : List ℕ). s ++ drop (suc i) before) (sym (take-suc w i 0 (omega arith)))
        ∙ ap (λ (m : ℕ). take m w ++ drop m before) (sym (add-one i))
