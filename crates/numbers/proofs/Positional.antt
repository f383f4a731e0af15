-- Digits in a base b: writing w digits and reading them back, either way round. Big-endian fields are the case b = 256.
use Rattle.std.proofs.Common.{◌≡◌, ℕ, zero, suc, ◌+◌, ◌*◌, ◌/◌, ◌%◌, ◌^◌, ◌<◌, List, [], ◌∷◌, ◌++◌, length, get_or, take, drop, sym, refl, ap, ◌∙◌, ap₂, add-zero, add-suc, mod-lt, div-lt_iff_lt-mul, pow-suc, div-add-mod', zero-add, div-one, arith, get_or-drop}
use native.Mathlib.Nat.{pow-zero, pow-succ', div-div-eq-div-mul, one-le-pow}
use lib.Arith.{digits_div, digits_mod, digits_lt, mod-mul}
use Rattle.notation.specs.Numbers.{positional, digits}

-- every digit is below the base; past the end stands 0, which is too
pub record Below (b : ℕ) (ds : List ℕ) : Type 0 where
  pub at : (i : ℕ) → get_or ds i 0 < b

pub below-nil : (b : ℕ) → 0 < b → Below b []
below-nil b h = record { at = λ i. h }

pub below-cons : (b d : ℕ) (ds : List ℕ) → d < b → Below b ds → Below b (d ∷ ds)
below-cons b d ds h k = record { at = each }
  where
    each : (i : ℕ) → get_or (d ∷ ds) i 0 < b
    each zero = h
    each (suc i) = k.at i

pub below-tail : {b d : ℕ} {ds : List ℕ} → Below b (d ∷ ds) → Below b ds
below-tail k = record { at = λ i. k.at (suc i) }

pub below-append : (b : ℕ) (xs ys : List ℕ) → Below b xs → Below b ys → Below b (xs ++ ys)
below-append b [] ys h k = k
below-append b (x ∷ xs) ys h k = below-cons b x (xs ++ ys) (h.at 0) (below-append b xs ys (below-tail h) k)

pub below-take : (b n : ℕ) (ds : List ℕ) → 0 < b → Below b ds → Below b (take n ds)
below-take b zero ds z h = below-nil b z
below-take b (suc n) [] z h = below-nil b z
below-take b (suc n) (d ∷ ds) z h = below-cons b d (take n ds) (h.at 0) (below-take b n ds z (below-tail h))

pub below-drop : (b n : ℕ) (ds : List ℕ) → Below b ds → Below b (drop n ds)
below-drop b n ds h = record { at = λ i. rw (get_or-drop n ds i 0) (h.at (n + i)) }

-- what the digits before it gave counts b to the length
pub positional-from : (b n : ℕ) (ds : List ℕ) → positional b n ds ≡ n * b ^ length ds + positional b 0 ds
unfolding positional
positional-from b n [] = rw pow-zero (omega arith)
positional-from b n (d ∷ ds) =
    omega (
      arith,
      positional-from b (n * b + d) ds,
      positional-from b (0 * b + d) ds,
      ap (λ (p : ℕ). n * p) (pow-succ' b (length ds)),
    )

pub positional-lt : (b : ℕ) (ds : List ℕ) → Below b ds → positional b 0 ds < b ^ length ds
unfolding positional
positional-lt b [] h = rw pow-zero (omega arith)
positional-lt b (d ∷ ds) h =
    omega (
      arith,
      positional-from b (0 * b + d) ds,
      pow-succ' b (length ds),
      digits_lt {q = d} {m = b} (h.at 0) (positional-lt b ds (below-tail h)),
    )

pub length_digits : (b w n : ℕ) (rest : List ℕ) → length (digits b w n rest) ≡ w + length rest
unfolding digits
length_digits b zero n rest = sym (zero-add (length rest))
length_digits b (suc w) n rest = length_digits b w (n / b) ((n % b) ∷ rest) ∙ omega arith

pub digits_append : (b w n : ℕ) (xs ys : List ℕ) → digits b w n (xs ++ ys) ≡ digits b w n xs ++ ys
unfolding digits
digits_append b zero n xs ys = refl
digits_append b (suc w) n xs ys = digits_append b w (n / b) ((n % b) ∷ xs) ys

pub digits-below : (b w n : ℕ) (rest : List ℕ) → 0 < b → Below b rest → Below b (digits b w n rest)
unfolding digits
digits-below b zero n rest h k = k
digits-below b (suc w) n rest h k =
    digits-below b w (n / b) ((n % b) ∷ rest) h (below-cons b (n % b) rest (mod-lt n h) k)

-- the digits of a number's two parts
pub positional-append : (b n : ℕ) (xs ys : List ℕ) → positional b n (xs ++ ys) ≡ positional b (positional b n xs) ys
unfolding positional
positional-append b n [] ys = refl
positional-append b n (x ∷ xs) ys = positional-append b (n * b + x) xs ys

digits-mod-pow : (b w n : ℕ) (rest : List ℕ) → 0 < b → digits b w (n % b ^ w) rest ≡ digits b w n rest
unfolding digits
digits-mod-pow b zero n rest h = refl
digits-mod-pow b (suc w) n rest h =
    let parts : n % b ^ suc w ≡ n / b % b ^ w * b + n % b = ap (λ (p : ℕ). n % p) (pow-suc b w) ∙ mod-mul n (one-le-pow w b h) h in
    let high : n % b ^ suc w / b ≡ n / b % b ^ w = rw (parts, digits_div (n / b % b ^ w) (mod-lt n h)) in
    let low : n % b ^ suc w % b ≡ n % b = rw (parts, digits_mod (n / b % b ^ w) (mod-lt n h)) in
    rw (high, low) (digits-mod-pow b w (n / b) ((n % b) ∷ rest) h)

pub digits-split : (b u w n : ℕ) (rest : List ℕ) → 0 < b → digits b u (n / b ^ w) (digits b w (n % b ^ w) rest) ≡ digits b (u + w) n rest
unfolding digits
digits-split b u w n rest h = rw (digits-mod-pow b w n rest h) (go w n rest)
  where
    go : (w n : ℕ) (rest : List ℕ) → digits b u (n / b ^ w) (digits b w n rest) ≡ digits b (u + w) n rest
    go zero n rest = rw (pow-zero, div-one, add-zero)
    go (suc w) n rest = rw (pow-succ', ← div-div-eq-div-mul, add-suc) (go w (n / b) ((n % b) ∷ rest))

-- reading back what was written
pub positional-digits : (b w m n : ℕ) (rest : List ℕ) → 0 < b → n < b ^ w → positional b m (digits b w n rest) ≡ positional b (m * b ^ w + n) rest
unfolding positional digits
positional-digits b zero m n rest h k =
    let k' : n < 1 = rw pow-zero at k in
    let e : m * b ^ 0 + n ≡ m = rw pow-zero (omega arith) in
    rw e
positional-digits b (suc w) m n rest h k =
    let k' : n < b ^ w * b = rw pow-suc at k in
    let e : (m * b ^ w + n / b) * b + n % b ≡ m * b ^ suc w + n =
    omega (arith, div-add-mod' n b, ap (λ (p : ℕ). m * p) (pow-suc b w))
    in
    positional-digits b w m (n / b) ((n % b) ∷ rest) h ((div-lt_iff_lt-mul h).1 k') ∙ ap (λ (x : ℕ). positional b x rest) e

-- the first digit, where `digits` starts from the last
digits-first : (b w n : ℕ) (rest : List ℕ) → digits b (suc w) n rest ≡ (n / b ^ w % b) ∷ digits b w n rest
unfolding digits
digits-first b zero n rest = rw (pow-zero, div-one)
digits-first b (suc w) n rest =
    digits-first b w (n / b) ((n % b) ∷ rest) ∙ rw (pow-succ', ← div-div-eq-div-mul)

-- writing what was read, whatever was read before it
pub digits-positional : (b n : ℕ) (ds rest : List ℕ) → Below b ds → digits b (length ds) (positional b n ds) rest ≡ ds ++ rest
unfolding positional digits
digits-positional b n [] rest h = refl
digits-positional b n (d ∷ ds) rest h =
    let high : positional b (n * b + d) ds / b ^ length ds % b ≡ d =
    rw (positional-from, digits_div (n * b + d) (positional-lt b ds (below-tail h)), digits_mod n (h.at 0))
    in
    digits-first b (length ds) (positional b (n * b + d) ds) rest
    ∙ ap₂ (λ (x : ℕ) (l : List ℕ). x ∷ l) high (digits-positional b (n * b + d) ds rest (below-tail h))
