-- Texts of well-formed characters, and runs of characters that pass a test.
use mathlib.Core.Path.{◌≡◌, refl, sym, ◌∙◌}
use mathlib.Core.Bool.{Bool, true, false}
use mathlib.Core.List.{List, [], ◌∷◌}
use Prim.Native.Nat.{ℕ, zero, suc, ◌+◌, ◌≤◌, ◌<◌, suc-le-suc}
use native.Mathlib.Nat.{zero-add, suc-add, le_of_suc-le-suc}
use native.Mathlib.Omega.{arith}
use lib.Bits.{bit_and, bit_or, or_add_and, and_le_l, and_le_r}
use lib.ListN.{length, get_or, drop, length-drop}
use lib.Seq.{drop-drop}
use Rattle.notation.specs.Basics.{pick}
use Rattle.notation.specs.Utf8.{char_width, code_point, utf8_from, utf8, width_if, run_from, run, after_first}
use Rattle.charsets.proofs.Widths.{width-length, width_one}

-- the first k bytes belong to a character that was seen
pub utf8-from : (k : ℕ) (s : List ℕ) → utf8_from k s ≡ utf8 (drop k s)
unfolding utf8_from
utf8-from zero s = refl
utf8-from (suc k) [] = refl
utf8-from (suc k) (b ∷ s) = utf8-from k s

-- a text is well formed where what is left of it after its first character is
pub utf8-step : (s : List ℕ) (w : ℕ) → w ≡ char_width s → 0 < w → utf8 s ≡ utf8 (drop w s)
unfolding utf8_from
utf8-step s zero e h = absurd (omega arith)
utf8-step [] (suc k) e h = refl
utf8-step (b ∷ s) (suc k) e h = rw (← e) (utf8-from k s)

-- and is not where no character stands at its start
pub utf8-stop : (s : List ℕ) → 0 < length s → char_width s ≡ 0 → utf8 s ≡ false
unfolding utf8_from
utf8-stop [] h e = absurd (omega arith)
utf8-stop (b ∷ s) h e = rw e

-- the same at a place of a text
pub utf8-next : (s : List ℕ) (at w : ℕ) → w ≡ char_width (drop at s) → 0 < w → utf8 (drop (at + w) s) ≡ utf8 (drop at s)
utf8-next s at w e h = sym (rw (drop-drop w at s) at (utf8-step (drop at s) w e h))

pub width_fits : (s : List ℕ) (at w : ℕ) → at ≤ length s → w ≡ char_width (drop at s) → at + w ≤ length s
width_fits s at w h e = omega (arith, width-length (drop at s), length-drop at s)

-- the first byte and the n behind it, joined by `|`
abbrev pub joined : List ℕ → ℕ → ℕ
joined s zero = get_or s 0 0
joined s (suc n) = bit_or (joined s n) (get_or s (suc n) 0)

-- where they are ASCII joined, each is by itself, and the text behind them is as well formed
pub utf8-ascii : (s : List ℕ) (n : ℕ) → n < length s → joined s n ≤ 0x7f → utf8 (drop (suc n) s) ≡ utf8 s
utf8-ascii s zero h l = utf8-next s 0 1 (width_one s 0 h l) (omega arith)
utf8-ascii s (suc n) h l =
    let a : ℕ = joined s n in
    let b : ℕ = get_or s (suc n) 0 in
    let e : bit_or a b + bit_and a b ≡ a + b = or_add_and a b in
    let k : suc n + 1 ≡ suc (suc n) = omega arith in
    rw k at (utf8-next s (suc n) 1 (width_one s (suc n) h (omega (arith, e, and_le_l a b))) (omega arith))
    ∙ utf8-ascii s n (omega arith) (omega (arith, e, and_le_r a b))

module _ (p : ℕ → Bool) where
  pub width_if-length : (s : List ℕ) → width_if p s ≤ length s
  width_if-length s = of (p (code_point s)) where
    of : (t : Bool) → pick t (char_width s) 0 ≤ length s
    of true = width-length s
    of false = omega arith

  pub run-from : (k : ℕ) (s : List ℕ) → k ≤ length s → run_from p k s ≡ k + run p (drop k s)
  unfolding run_from
  run-from zero s h = sym (zero-add (run p s))
  run-from (suc k) [] h = absurd (omega arith)
  run-from (suc k) (b ∷ s) h = rw (run-from k s (le_of_suc-le-suc h)) (sym (suc-add k (run p (drop k s))))

  -- a run goes on behind a character that passes
  pub run_step : (s : List ℕ) (w : ℕ) → w ≡ width_if p s → 0 < w → run p s ≡ w + run p (drop w s)
  unfolding run_from
  run_step s zero e h = absurd (omega arith)
  run_step [] (suc k) e h = absurd (omega (arith, width_if-length []))
  run_step (b ∷ s) (suc k) e h =
      let f : k ≤ length s = omega (arith, width_if-length (b ∷ s)) in
      rw (← e, run-from k s f) (sym (suc-add k (run p (drop k s))))

  -- and stops at one that does not
  pub run-stop : (s : List ℕ) → width_if p s ≡ 0 → run p s ≡ 0
  unfolding run_from
  run-stop [] e = refl
  run-stop (b ∷ s) e = rw e

  -- it lies within the text
  pub run_length : (k : ℕ) (s : List ℕ) → run_from p k s ≤ length s
  unfolding run_from
  run_length k [] = omega arith
  run_length (suc k) (b ∷ s) = suc-le-suc (run_length k s)
  run_length zero (b ∷ s) = of (width_if p (b ∷ s)) (λ k. run_length k s) where
    of : (w : ℕ) → ((k : ℕ) → run_from p k s ≤ length s) → after_first w 0 (λ k. suc (run_from p k s)) ≤ suc (length s)
    of zero h = omega arith
    of (suc k) h = suc-le-suc (h k)

  -- behind it stands no character that passes
  pub after_run : (k : ℕ) (s : List ℕ) → width_if p (drop (run_from p k s) s) ≡ 0
  unfolding run_from
  after_run k [] = none where
    none : width_if p [] ≡ 0
    none = omega (arith, width_if-length [])
  after_run (suc k) (b ∷ s) = after_run k s
  after_run zero (b ∷ s) = of (width_if p (b ∷ s)) refl (λ k. after_run k s) where
    of : (w : ℕ) → width_if p (b ∷ s) ≡ w → ((k : ℕ) → width_if p (drop (run_from p k s) s) ≡ 0) → width_if p (drop (after_first w 0 (λ k. suc (run_from p k s))) (b ∷ s)) ≡ 0
    of zero e h = e
    of (suc k) e h = h k

  -- so that dropping it leaves no run
  pub run-dropped : (s : List ℕ) → run p (drop (run p s) s) ≡ 0
  run-dropped s = run-stop (drop (run p s) s) (after_run 0 s)

  -- and what follows it is as well formed as the whole
  pub utf8-after-run : (k : ℕ) (s : List ℕ) → utf8_from k s ≡ utf8 (drop (run_from p k s) s)
  unfolding run_from utf8_from
  utf8-after-run zero [] = refl
  utf8-after-run (suc k) [] = refl
  utf8-after-run (suc k) (b ∷ s) = utf8-after-run k s
  utf8-after-run zero (b ∷ s) = of (p (code_point (b ∷ s))) (char_width (b ∷ s)) refl (λ k. utf8-after-run k s) where
    of : (t : Bool) (w : ℕ) → char_width (b ∷ s) ≡ w → ((k : ℕ) → utf8_from k s ≡ utf8 (drop (run_from p k s) s)) → utf8 (b ∷ s) ≡ utf8 (drop (after_first (pick t w 0) 0 (λ k. suc (run_from p k s))) (b ∷ s))
    of true zero e h = refl
    of true (suc k) e h = rw e (h k)
    of false w e h = refl

  -- the same at a place of a text
  module _ (s : List ℕ) (at : ℕ) (h : at ≤ length s) where
    pub end-length : at + run p (drop at s) ≤ length s
    end-length = omega (arith, run_length 0 (drop at s), length-drop at s)

  -- a place that a walk along the run from `at` comes to: from there the run ends where it does from `at`
  pub record Reached (s : List ℕ) (at end : ℕ) : Type 0 where
    pub inside : end ≤ length s
    pub same : end + run p (drop end s) ≡ at + run p (drop at s)

  -- a walk that comes to the end of the text is at the end of the run
  pub at-the-end : {s : List ℕ} {at end : ℕ} → Reached s at end → length s ≤ end → end ≡ at + run p (drop at s)
  at-the-end {s} {at} {end} h l = omega (arith, h.same, run_length 0 (drop end s), length-drop end s)

  module _ {s : List ℕ} {at end w : ℕ} (h : Reached s at end) (e : w ≡ width_if p (drop end s)) where
    pub fits : end + w ≤ length s
    fits = omega (arith, h.inside, width_if-length (drop end s), length-drop end s)

    pub goes_on : 0 < w → Reached s at (end + w)
    goes_on l =
        let g : run p (drop end s) ≡ w + run p (drop (end + w) s) = rw (drop-drop w end s) at (run_step (drop end s) w e l) in
        record { inside = fits; same = omega (arith, h.same) }

    pub arrived : w ≡ 0 → end ≡ at + run p (drop at s)
    arrived z = omega (arith, h.same, run-stop (drop end s) (sym e ∙ z))
