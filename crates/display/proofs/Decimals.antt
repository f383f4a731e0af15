-- Decimal digits found from the last one on. Assumes nothing.
use Prim.Native.Nat.{ℕ, zero, suc, ◌+◌, ◌-◌, ◌/◌, ◌%◌, ◌^◌, ◌≤◌, ◌<◌}
use mathlib.Core.Path.{◌≡◌, sym, ap, ◌∙◌}
use mathlib.Core.List.{List, [], ◌∷◌, ◌++◌}
use native.Mathlib.Omega.{arith}
use native.Mathlib.Nat.{pow-suc}
use borrow.Author.Tests.{lt-ltb, le-ltb}
use lib.ListN.{length, take, drop, set, length-set, length-drop}
use lib.Seq.{set_split, drop_at, length-take-le, take_all}
use Rattle.notation.specs.Numbers.{show_from, show}
use Rattle.laws.proofs.ReadBack.Numbers.{show-apart}

-- the digits stand in front of what follows
pub show-adds : (n : ℕ) (rest : List ℕ) → show n [] ++ rest ≡ show n rest
show-adds n rest = sym (show-apart 10 n rest)

show-last : (k n : ℕ) (rest : List ℕ) → n < 10 → show_from (suc k) n rest ≡ (48 + n) ∷ rest
unfolding show_from
show-last k n rest h = rw (lt-ltb n 10 h)

pub show-digit : (n : ℕ) (rest : List ℕ) → n < 10 → show n rest ≡ (48 + n) ∷ rest
show-digit n rest h = show-last 9 n rest h

show-more : (k n : ℕ) (rest : List ℕ) → 10 ≤ n → show_from (suc k) n rest ≡ show_from k (n / 10) ((48 + n % 10) ∷ rest)
unfolding show_from
show-more k n rest h = rw (le-ltb n 10 h)

-- from a store on
stored : (l : List ℕ) (i a : ℕ) → i < length l → drop i (set l i a) ≡ a ∷ drop (suc i) l
stored l i a h = ap (drop i) (set_split l i a h) ∙ drop_at (take i l) (a ∷ drop (suc i) l) i (length-take-le i l (omega arith))

-- what the loop keeps: i + 1 places are left for the digits of `rest`, and the others hold those after them
pub record Left (digits : List ℕ) (rest i : ℕ) (whole : List ℕ) : Type 0 where
  pub short : i ≤ 9
  pub long : length digits ≡ 10
  pub room : rest < 10 ^ suc i
  pub shows : show_from (suc i) rest (drop (suc i) digits) ≡ whole

module _ {digits : List ℕ} {rest i : ℕ} {whole : List ℕ} (w : Left digits rest i whole) where
  -- one more digit
  more_left : 10 ≤ rest → 1 ≤ i
  more_left h = go i w.room
    where
      go : (i : ℕ) → rest < 10 ^ suc i → 1 ≤ i
      go zero r = absurd (omega arith)
      go (suc i) r = omega arith

  pub one_less : 10 ≤ rest → Left (set digits i (48 + rest % 10)) (rest / 10) (i - 1) whole
  one_less h =
      let e : i ≡ suc (i - 1) = omega (arith, more_left h) in
      let r : rest < 10 ^ suc (suc (i - 1)) = rw e at w.room in
      record {
        short = omega (arith, w.short);
        long = length-set digits i (48 + rest % 10) ∙ w.long;
        room = omega (arith, pow-suc 10 (suc (i - 1)));
        shows =
            ap (λ (k : ℕ). show_from k (rest / 10) (drop k (set digits i (48 + rest % 10)))) (sym e)
            ∙ ap (show_from i (rest / 10)) (stored digits i (48 + rest % 10) (omega (arith, w.long, w.short)))
            ∙ sym (show-more i rest (drop (suc i) digits) h)
            ∙ w.shows;
      }

  -- the last digit, and the part from it on
  pub none_left : rest < 10 → take (10 - i) (drop i (set digits i (48 + rest))) ≡ whole
  none_left h =
      take_all (10 - i) (drop i (set digits i (48 + rest))) (omega (arith, length-drop i (set digits i (48 + rest)), length-set digits i (48 + rest), w.long))
      ∙ stored digits i (48 + rest) (omega (arith, w.long, w.short))
      ∙ sym (show-last i rest (drop (suc i) digits) h)
      ∙ w.shows
