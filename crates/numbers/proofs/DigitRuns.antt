-- Runs of decimal digits, and the numbers that they write, capped. Assumes nothing.
use Rattle.std.proofs.Common.{◌≡◌, ℕ, zero, suc, ◌+◌, ◌-◌, ◌*◌, ◌<◌, ◌≤◌, min, Bool, true, false, ◌&&◌, ltb, leb, List, [], ◌∷◌, length, get_or, take, drop, sym, refl, ap, ◌∙◌, add-one, arith, get_or-take, get_or-drop, drop-cons, drop-drop, lt-ltb, le-leb}
use borrow.Author.Tests.{lt-leb}
use lib.Seq.{drop-length}
use Rattle.notation.specs.Basics.{pick}
use Rattle.notation.specs.Numbers.{digit_run, decimal, is_digit}
use Rattle.notation.specs.Grammar.{uint, rejected, read}
use Rattle.notation.proofs.Bools.{and-false}

-- larger numbers are not told apart
abbrev pub cap : ℕ → ℕ
cap n = min n 4294967296

digit : (b : ℕ) → 48 ≤ b → b ≤ 57 → is_digit b ≡ true
digit b h k = rw (le-leb 48 b h, le-leb b 57 k)

low : (b : ℕ) → b < 48 → is_digit b ≡ false
low b h = rw (lt-leb 48 b h)

high : (b : ℕ) → 57 < b → is_digit b ≡ false
high b h = rw (lt-leb b 57 h) (and-false (leb 48 b))

-- the run goes on at a digit and ends elsewhere
pub run_on : (s : List ℕ) (i : ℕ) → i < length s → 48 ≤ get_or s i 0 → get_or s i 0 ≤ 57 →
    digit_run (drop i s) ≡ suc (digit_run (drop (i + 1) s))
unfolding digit_run
run_on s i h l u = rw (add-one, drop-cons s i 0, digit (get_or s i 0) l u)

pub run-low : (s : List ℕ) (i : ℕ) → i < length s → get_or s i 0 < 48 → digit_run (drop i s) ≡ 0
unfolding digit_run
run-low s i h l = rw (drop-cons s i 0, low (get_or s i 0) l)

pub run-high : (s : List ℕ) (i : ℕ) → i < length s → 57 < get_or s i 0 → digit_run (drop i s) ≡ 0
unfolding digit_run
run-high s i h l = rw (drop-cons s i 0, high (get_or s i 0) l)

pub run_end : (s : List ℕ) (i : ℕ) → i ≤ length s → length s ≤ i → digit_run (drop i s) ≡ 0
unfolding digit_run
run_end s i h l =
    let e : i ≡ length s = omega arith in
    rw (e, drop-length)

-- the cap may be put in before more digits follow
pub cap-decimal : (ds : List ℕ) (n : ℕ) → cap (decimal (cap n) ds) ≡ cap (decimal n ds)
unfolding decimal
cap-decimal [] n = omega arith
cap-decimal (d ∷ ds) n =
    sym (cap-decimal ds (cap n * 10 + (d - 48)))
    ∙ ap (λ (m : ℕ). cap (decimal m ds)) (same n (d - 48))
    ∙ cap-decimal ds (n * 10 + (d - 48))
  where
    same : (n e : ℕ) → cap (cap n * 10 + e) ≡ cap (n * 10 + e)
    same n e = omega arith

-- the number of the digits from i on, after those that gave n
abbrev pub value : List ℕ → ℕ → ℕ → ℕ
value s i n = cap (decimal n (take (digit_run (drop i s)) (drop i s)))

pub value_on : (s : List ℕ) (i n : ℕ) → i < length s → 48 ≤ get_or s i 0 → get_or s i 0 ≤ 57 →
    value s (i + 1) (cap (n * 10 + (get_or s i 0 - 48))) ≡ value s i n
unfolding decimal
value_on s i n h l u =
    cap-decimal (take (digit_run (drop (i + 1) s)) (drop (i + 1) s)) (n * 10 + (get_or s i 0 - 48))
    ∙ rw (run_on s i h l u, drop-cons s i 0, add-one)

pub value-done : (s : List ℕ) (i n : ℕ) → digit_run (drop i s) ≡ 0 → value s i n ≡ cap n
unfolding decimal
value-done s i n e = rw e

-- What the loop of `digits` keeps: at i with the number n, the whole run from `at` on ends and counts as it did.
abbrev pub Kept : List ℕ → ℕ → ℕ → ℕ → Type 0
Kept s at n i = (i ≤ length s) × (n ≤ 4294967296) × (i + digit_run (drop i s) ≡ at + digit_run (drop at s)) × (value s i n ≡ value s at 0)

pub kept_on : (s : List ℕ) (at n i m : ℕ) → Kept s at n i → i < length s → 48 ≤ get_or s i 0 → get_or s i 0 ≤ 57 →
    m ≡ cap (n * 10 + (get_or s i 0 - 48)) → Kept s at m (i + 1)
kept_on s at n i m k h l u e =
    (omega arith, omega arith, omega (arith, k.2, run_on s i h l u), ap (value s (i + 1)) e ∙ value_on s i n h l u ∙ k.3)

pub kept-done : (s : List ℕ) (at n i : ℕ) → Kept s at n i → digit_run (drop i s) ≡ 0 → (i ≡ at + digit_run (drop at s)) × (n ≡ value s at 0)
kept-done s at n i k e = (omega (arith, k.2), omega (arith, value-done s i n e, k.3))

-- an item of the part from `at` on
pub item : (s : List ℕ) (at i : ℕ) → i < length s - at → get_or (take (length s - at) (drop at s)) i 0 ≡ get_or s (at + i) 0
item s at i h = rw (get_or-take, get_or-drop)

pub kept-all : (s : List ℕ) (at n i : ℕ) → Kept s at n i → i ≡ length s → (length s ≡ at + digit_run (drop at s)) × (n ≡ value s at 0)
kept-all s at n i k e = rw (← e) (kept-done s at n i k (run_end s i (omega (arith, k.0)) (omega (arith, e))))

-- The rule `uint` from what the digits gave: e is where they end, n their capped number.
module _ (s : List ℕ) (low high at e n : ℕ) (ends : e ≡ at + digit_run (drop at s)) (gives : n ≡ value s at 0) (small : high < 4294967296) where
  pub no_digit : e ≡ at → uint low high at (drop at s) ≡ rejected
  unfolding uint
  no_digit h =
      let z : digit_run (drop at s) ≡ 0 = omega arith in
      rw z

  pub too_small : n < low → low < 4294967296 → uint low high at (drop at s) ≡ rejected
  unfolding uint
  too_small h k =
      rw (lt-leb low (decimal 0 (take (digit_run (drop at s)) (drop at s))) (omega arith))
      (go (ltb 0 (digit_run (drop at s))))
    where
      go : (t : Bool) → pick (t && false) (read (decimal 0 (take (digit_run (drop at s)) (drop at s))) (at + digit_run (drop at s)) (drop (digit_run (drop at s)) (drop at s))) rejected ≡ rejected
      go true = refl
      go false = refl

  pub too_large : high < n → uint low high at (drop at s) ≡ rejected
  unfolding uint
  too_large h =
      rw (lt-leb (decimal 0 (take (digit_run (drop at s)) (drop at s))) high (omega arith))
      (go (ltb 0 (digit_run (drop at s))) (leb low (decimal 0 (take (digit_run (drop at s)) (drop at s)))))
    where
      go : (t u : Bool) → pick (t && (u && false)) (read (decimal 0 (take (digit_run (drop at s)) (drop at s))) (at + digit_run (drop at s)) (drop (digit_run (drop at s)) (drop at s))) rejected ≡ rejected
      go true true = refl
      go true false = refl
      go false true = refl
      go false false = refl

  pub in_bounds : (e ≡ at → ⊥) → low ≤ n → n ≤ high → uint low high at (drop at s) ≡ read n e (drop e s)
  unfolding uint
  in_bounds h l u =
      rw (
        lt-ltb 0 (digit_run (drop at s)) (positive (digit_run (drop at s)) ends),
        le-leb low (decimal 0 (take (digit_run (drop at s)) (drop at s))) (omega arith),
        le-leb (decimal 0 (take (digit_run (drop at s)) (drop at s))) high (omega arith),
        drop-drop,
        ← ends,
      )
      (ap (λ (m : ℕ). read m e (drop e s)) (omega arith))
    where
      positive : (d : ℕ) → e ≡ at + d → 0 < d
      positive zero q = absurd (h (omega (arith, q)))
      positive (suc d) q = omega arith
