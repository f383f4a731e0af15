-- Numbers: what is printed is read back. Assumes nothing.
use Prim.Native.Nat.{ℕ, zero, suc, ◌+◌, ◌-◌, ◌*◌, ◌/◌, ◌%◌, ◌^◌, ◌≤◌, ◌<◌}
use mathlib.Core.Path.{◌≡◌, refl, sym, ap, ◌∙◌}
use mathlib.Core.Bool.{Bool, true, false}
use mathlib.Core.List.{List, [], ◌∷◌, ◌++◌, append_assoc, append-nil}
use lib.Dec.{leb, ltb}
use lib.IntN.{ℤ, pos, negsuc}
use lib.ListN.{length, length-append}
use lib.Seq.{drop-append_seam, take-append_seam}
use native.Mathlib.Omega.{arith}
use native.Mathlib.Nat.{pow-suc}
use borrow.Author.Tests.{le-leb, lt-ltb, ltb-true, leb-true}
use Rattle.notation.specs.Basics.{pick, between, every}
use Rattle.notation.specs.Numbers.{is_digit, digit_run, decimal, show_from, show, show_signed}
use Rattle.notation.specs.Grammar.{uint, sint}
use Rattle.laws.proofs.Bools.{and_left, and_right, and_both}
use Rattle.laws.proofs.ReadBack.Starts.{same_first, not_digit, listed, starts, isnt, no-digits, up_to, is_digit-listed}
use Rattle.laws.proofs.ReadBack.Reads.{
  Reads,
  Rejects,
  reads-done,
  reads-bind,
  reads-next,
  reads-left,
  reads-right,
  rejects-bind,
  reads-just,
  rejects-just,
  reads-part,
}

-- a digit stands for what is left over
digit-is : (n : ℕ) → n < 10 → is_digit (48 + n) ≡ true
digit-is n h = and_both (leb 48 (48 + n)) (leb (48 + n) 57) (le-leb 48 (48 + n) (omega arith)) (le-leb (48 + n) 57 (omega arith))

-- the digits stand in front of what follows
pub show-apart : (k n : ℕ) (rest : List ℕ) → show_from k n rest ≡ show_from k n [] ++ rest
unfolding show_from
show-apart zero n rest = refl
show-apart (suc k) n rest = go (ltb n 10) (λ m s. show-apart k m s)
  where
    d : ℕ
    d = 48 + n % 10

    go : (t : Bool) → ((m : ℕ) (s : List ℕ) → show_from k m s ≡ show_from k m [] ++ s) →
        pick t ((48 + n) ∷ rest) (show_from k (n / 10) (d ∷ rest)) ≡ pick t ((48 + n) ∷ []) (show_from k (n / 10) (d ∷ [])) ++ rest
    go true f = refl
    go false f =
        f (n / 10) (d ∷ rest)
        ∙ sym (ap (λ (l : List ℕ). l ++ rest) (f (n / 10) (d ∷ [])) ∙ append_assoc (show_from k (n / 10) []) (d ∷ []) rest)

digit-run : (b : ℕ) (s : List ℕ) → is_digit b ≡ true → digit_run (b ∷ s) ≡ suc (digit_run s)
unfolding digit_run
digit-run b s h = rw h

-- they are all the digits there
show-run : (k n : ℕ) (rest : List ℕ) → digit_run (show_from k n rest) ≡ length (show_from k n []) + digit_run rest
unfolding show_from
show-run zero n rest = omega arith
show-run (suc k) n rest = go (ltb n 10) refl (λ m s. show-run k m s)
  where
    go : (t : Bool) → ltb n 10 ≡ t → ((m : ℕ) (s : List ℕ) → digit_run (show_from k m s) ≡ length (show_from k m []) + digit_run s) →
        digit_run (pick t ((48 + n) ∷ rest) (show_from k (n / 10) ((48 + n % 10) ∷ rest)))
        ≡ length (pick t ((48 + n) ∷ []) (show_from k (n / 10) ((48 + n % 10) ∷ []))) + digit_run rest
    go true e f = omega (arith, digit-run (48 + n) rest (digit-is n (ltb-true n 10 e)))
    go false e f =
        let d : ℕ = 48 + n % 10 in
        omega (
          arith,
          f (n / 10) (d ∷ rest),
          digit-run d rest (digit-is (n % 10) (omega arith)),
          ap length (show-apart k (n / 10) (d ∷ [])),
          length-append (show_from k (n / 10) []) (d ∷ []),
        )

-- and they write the number
show-decimal : (k n : ℕ) (rest : List ℕ) → n < 10 ^ k → decimal 0 (show_from k n rest) ≡ decimal n rest
unfolding show_from decimal
show-decimal zero n rest h = ap (λ (m : ℕ). decimal m rest) (omega arith)
show-decimal (suc k) n rest h = go (ltb n 10) refl (show-decimal k (n / 10) ((48 + n % 10) ∷ rest) (omega (arith, pow-suc 10 k)))
  where
    go : (t : Bool) → ltb n 10 ≡ t → decimal 0 (show_from k (n / 10) ((48 + n % 10) ∷ rest)) ≡ decimal (n / 10 * 10 + (48 + n % 10 - 48)) rest →
        decimal 0 (pick t ((48 + n) ∷ rest) (show_from k (n / 10) ((48 + n % 10) ∷ rest))) ≡ decimal n rest
    go true e f = ap (λ (m : ℕ). decimal m rest) (omega arith)
    go false e f = f ∙ ap (λ (m : ℕ). decimal m rest) (omega arith)

-- a printed number starts with a digit
show-first : (k n : ℕ) (rest : List ℕ) → starts is_digit rest ≡ true → starts is_digit (show_from k n rest) ≡ true
unfolding show_from
show-first zero n rest h = h
show-first (suc k) n rest h = go (ltb n 10) refl (show-first k (n / 10) ((48 + n % 10) ∷ rest) (digit-is (n % 10) (omega arith)))
  where
    go : (t : Bool) → ltb n 10 ≡ t → starts is_digit (show_from k (n / 10) ((48 + n % 10) ∷ rest)) ≡ true →
        starts is_digit (pick t ((48 + n) ∷ rest) (show_from k (n / 10) ((48 + n % 10) ∷ rest))) ≡ true
    go true e f = digit-is n (ltb-true n 10 e)
    go false e f = f

show-long : (k n : ℕ) (rest : List ℕ) → length rest ≤ length (show_from k n rest)
show-long k n rest = omega (arith, ap length (show-apart k n rest), length-append (show_from k n []) rest)

-- there is at least one
show-some : (k n : ℕ) (rest : List ℕ) → length rest < length (show_from (suc k) n rest)
unfolding show_from
show-some k n rest = go (ltb n 10) (show-long k (n / 10) ((48 + n % 10) ∷ rest))
  where
    go : (t : Bool) → suc (length rest) ≤ length (show_from k (n / 10) ((48 + n % 10) ∷ rest)) →
        length rest < length (pick t ((48 + n) ∷ rest) (show_from k (n / 10) ((48 + n % 10) ∷ rest)))
    go true f = omega arith
    go false f = f

starts-digit : (q : ℕ → Bool) → every q (up_to 10 48) ≡ true → (s : List ℕ) → starts is_digit s ≡ true → starts q s ≡ true
starts-digit q all [] h = refl
starts-digit q all (b ∷ s) h = listed q (up_to 10 48) b all (is_digit-listed b h)

-- what holds of every digit holds of a printed number's first byte
pub show-starts : (q : ℕ → Bool) (n : ℕ) (rest : List ℕ) → every q (up_to 10 48) ≡ true → starts q (show n rest) ≡ true
show-starts q n rest all =
    rw (show-apart 10 n rest) (starts-digit q all (show n [] ++ rest)
    (same_first is_digit (show n []) [] rest (show-some 9 n []) (rw append-nil (show-first 10 n [] refl))))

-- A number in bounds is read back.
pub reads-uint : {text : List ℕ} (low high n : ℕ) (rest : List ℕ) → between low high n ≡ true → high < 10 ^ 10 → digit_run rest ≡ 0 →
    Reads text (uint low high) (show n rest) (λ x. x ≡ n) rest
unfolding uint decimal
reads-uint {text} low high n rest b h e =
    let a : List ℕ = show n [] in
    let run : digit_run (a ++ rest) ≡ length a = omega (arith, ap digit_run (show-apart 10 n rest), show-run 10 n rest) in
    let value : decimal 0 a ≡ n = show-decimal 10 n [] (omega (arith, leb-true n high (and_right (leb low n) (leb n high) b))) in
    rw (show-apart 10 n rest) (reads-part a n refl (λ at.
    rw (run, lt-ltb 0 (length a) (show-some 9 n []), take-append_seam a rest, value, b, drop-append_seam a rest)))

-- no digit, no number
pub rejects-uint : {text : List ℕ} (low high : ℕ) {s : List ℕ} → starts not_digit s ≡ true → Rejects text (uint low high) s
unfolding uint
rejects-uint low high {s} h = record { no = λ at _. rw (no-digits s h) }

-- a number out of bounds is none
pub rejects-out : {text : List ℕ} (low high n : ℕ) (rest : List ℕ) → between low high n ≡ false → n < 10 ^ 10 → digit_run rest ≡ 0 →
    Rejects text (uint low high) (show n rest)
unfolding uint decimal
rejects-out {text} low high n rest b h e =
    let a : List ℕ = show n [] in
    let run : digit_run (a ++ rest) ≡ length a = omega (arith, ap digit_run (show-apart 10 n rest), show-run 10 n rest) in
    let value : decimal 0 a ≡ n = show-decimal 10 n [] h in
    rw (show-apart 10 n rest) (record {
      no = λ at _.
          rw (run, lt-ltb 0 (length a) (show-some 9 n []), take-append_seam a rest, value, b);
    })

-- Signed numbers.
abbrev pub signed_between : (low high high_negative : ℕ) → ℤ → Bool
signed_between low high high_negative (pos n) = between low high n
signed_between low high high_negative (negsuc n) = between low high_negative (suc n)

-- a signed number in bounds is read back
pub reads-sint : {text : List ℕ} (low high high_negative : ℕ) (i : ℤ) (rest : List ℕ) →
    signed_between low high high_negative i ≡ true → high < 10 ^ 10 → high_negative < 10 ^ 10 → digit_run rest ≡ 0 →
    Reads text (sint low high high_negative) (show_signed i rest) (λ x. x ≡ i) rest
unfolding every up_to
reads-sint low high high_negative (pos n) rest b h h' e =
    reads-right (rejects-bind _ (rejects-just "-" (show-starts (isnt "-") n rest refl)))
    (reads-next _ (reads-uint low high n rest b h e) (reads-done (pos n) refl))
reads-sint low high high_negative (negsuc n) rest b h h' e =
    reads-left _ (reads-bind (reads-just "-") λ _ _. reads-next _ (reads-uint low high_negative (suc n) rest b h' e) (reads-done (negsuc n) refl))

-- a printed signed number starts with a digit or `-`
pub signed-starts : (q : ℕ → Bool) (i : ℤ) (rest : List ℕ) → every q (45 ∷ up_to 10 48) ≡ true → starts q (show_signed i rest) ≡ true
unfolding every
signed-starts q (pos n) rest all = show-starts q n rest (and_right (q 45) (every q (up_to 10 48)) all)
signed-starts q (negsuc n) rest all = and_left (q 45) (every q (up_to 10 48)) all
