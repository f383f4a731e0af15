-- Runs of characters at the start of a text: where none of them is a prime, both texts have the same. Assumes nothing.
use Prim.Native.Nat.{ℕ, zero, suc, ◌+◌, ◌≤◌, ◌<◌}
use Prim.Native.Char.{code}
use mathlib.Core.Path.{◌≡◌, refl, sym, ap, ◌∙◌}
use mathlib.Core.Bool.{Bool, true, false, not}
use mathlib.Core.List.{List, [], ◌∷◌}
use native.Mathlib.Omega.{arith}
use borrow.Author.Tests.{leb-true}
use lib.Dec.{eqb, leb}
use lib.ListN.{length, drop, length-drop}
use Rattle.notation.specs.Basics.{pick, one_of, every}
use Rattle.notation.specs.Chars.{curly_prime_codes, classify, is_family_char, white_space}
use Rattle.notation.specs.Utf8.{char_width, code_point, utf8_from, utf8, width_if, run_from, run}
use Rattle.notation.specs.Numbers.{is_digit, digit_run}
use Rattle.notation.specs.Primes.{curly_width, straight_from, straight}
use Rattle.charsets.proofs.Runs.{run_step, run-stop}
use Rattle.laws.proofs.Bools.{and_right, not-true}
use Rattle.laws.proofs.ReadBack.Starts.{listed}
use Rattle.prime_laws.proofs.Plain.{Plain, plain-none, plain-join, plain-rest}
use Rattle.prime_laws.proofs.Firsts.{First, nothing, sign, other, Sign, Other, first, plain-ascii}

-- both texts have the same n bytes at the start
pub record Both (n : List ℕ → ℕ) (s : List ℕ) : Type 0 where
  pub plain : Plain (n s) s
  pub alike : n (straight s) ≡ n s

module _ (p : ℕ → Bool) (apostrophe : p 0x27 ≡ false) (curlies : every (λ c. not (p c)) curly_prime_codes ≡ true) where
  stopped : (s : List ℕ) → utf8 s ≡ true → width_if p s ≡ 0 → width_if p (straight s) ≡ 0 → Both (run p) s
  stopped s e h k =
      let z : run p s ≡ 0 = run-stop p s h in
      record { plain = rw z (plain-none s e); alike = run-stop p (straight s) k ∙ sym z }

  at_sign : (s : List ℕ) → utf8 s ≡ true → Sign s → Both (run p) s
  unfolding char_width code_point
  at_sign s e g =
      stopped s e
      (rw (not-true (p (code_point s)) (listed (λ c. not (p c)) curly_prime_codes (code_point s) curlies g.curly)))
      (rw (g.first, apostrophe))

  at_other : (s : List ℕ) (w : ℕ) → utf8 s ≡ true → Other s w → Both (run p) (drop w s) → Both (run p) s
  at_other s w e o r = go (p (code_point s)) refl
    where
      go : (t : Bool) → p (code_point s) ≡ t → Both (run p) s
      go false f = let z : width_if p s ≡ 0 = rw f in stopped s e z (o.alike p ∙ z)
      go true f =
          let here : w ≡ width_if p s = rw f (sym o.width) in
          let long : run p s ≡ w + run p (drop w s) = run_step p s w here o.some in
          record {
            plain = rw long (plain-join w (run p (drop w s)) s o.plain r.plain);
            alike =
                run_step p (straight s) w (here ∙ sym (o.alike p)) o.some
                ∙ ap (λ (l : List ℕ). w + run p l) (plain-rest w s o.plain) ∙ ap (λ (k : ℕ). w + k) r.alike ∙ sym long;
          }

  -- by the first character, and the same for what follows it
  run-first : (s : List ℕ) → utf8 s ≡ true → First s → ((t : List ℕ) → length t < length s → utf8 t ≡ true → Both (run p) t) → Both (run p) s
  unfolding run_from straight_from utf8_from
  run-first s e (nothing i) r = rw i (record { plain = plain-none [] refl; alike = refl })
  run-first s e (sign g) r = at_sign s e g
  run-first s e (other w o) r =
      at_other s w e o (r (drop w s) (omega (arith, length-drop w s, o.some, o.plain.inside)) o.plain.well)

  run-within : (m : ℕ) (s : List ℕ) → length s ≤ m → utf8 s ≡ true → Both (run p) s
  run-within zero s h e = run-first s e (first s e) (λ t l f. absurd (omega arith))
  run-within (suc m) s h e = run-first s e (first s e) (λ t l f. run-within m t (omega arith) f)

  pub run-both : (s : List ℕ) → utf8 s ≡ true → Both (run p) s
  run-both s e = run-within (length s) s (omega arith) e

pub families-both : (s : List ℕ) → utf8 s ≡ true → Both (run is_family_char) s
unfolding classify one_of every
families-both = run-both is_family_char refl refl

pub whites-both : (s : List ℕ) → utf8 s ≡ true → Both (run white_space) s
unfolding white_space one_of every
whites-both = run-both white_space refl refl

-- Digits.
pub digits-both : (s : List ℕ) → utf8 s ≡ true → Both digit_run s
unfolding digit_run straight_from
digits-both [] e = record { plain = plain-none [] e; alike = refl }
digits-both (b ∷ s) e = go (is_digit b) refl (λ f. digits-both s f)
  where
    none : (t : Bool) → is_digit b ≡ false → is_digit (pick t b (code "'")) ≡ false
    none true f = f
    none false f = refl

    go : (t : Bool) → is_digit b ≡ t → (utf8 s ≡ true → Both digit_run s) → Both digit_run (b ∷ s)
    go false f r =
        record {
          plain = rw f (plain-none (b ∷ s) e);
          alike = rw (f, none (eqb (curly_width (b ∷ s)) 0) f);
        }
    go true f r =
        let low = leb-true b 57 (and_right (leb 48 b) _ f) in
        let one = plain-ascii b s (omega arith) e in
        let rest = r one.well in
        let long : 1 + digit_run s ≡ suc (digit_run s) = omega arith in
        record {
          plain = rw f (rw long at (plain-join 1 (digit_run s) (b ∷ s) one rest.plain));
          alike = ap digit_run one.same ∙ rw f (ap suc rest.alike);
        }
