-- What the rules for numbers give: a value within its bounds, and an end past the start. Assumes nothing.
use Rattle.std.proofs.Common.{◌≡◌, ℕ, suc, ◌+◌, ◌<◌, ◌≤◌, Bool, true, false, ◌&&◌, ltb, leb, List, [], ◌∷◌, length, get_or, take, drop, ℤ, pos, neg_ℤ, sym, refl, ap, ◌∙◌, add-one, arith, length-drop, drop_of_length-le, drop-cons, ltb-true, lt-ltb, eq-eqb, ne_eqb, leb-true}
use Prim.Native.Char.{Char, code}
use Rattle.notation.specs.Basics.{pick, choose}
use Rattle.notation.specs.Numbers.{digit_run, decimal, is_digit, from_bits, to_bits}
use Rattle.notation.specs.Grammar.{Reading, rejected, read, and_then, or_else, done, uint, sint, just}
use Rattle.std.specs.Prelude.{Option, Some, None}
use Rattle.parsed.specs.declared.Parsed.{Parsed}
use Rattle.parsed.specs.Reading.{reading}
use Rattle.numbers.proofs.DigitRuns.{run-low}
use Rattle.numbers.proofs.TwosComplement.{opposite-magnitude, from_bits-to_bits, opposite-fits}

-- a run of digits lies within the text
pub digits_le : (s : List ℕ) → digit_run s ≤ length s
unfolding digit_run
digits_le [] = omega arith
digits_le (b ∷ s) = go (is_digit b) (digits_le s)
  where
    go : (t : Bool) → digit_run s ≤ length s → choose t (λ _. suc (digit_run s)) (λ _. 0) ≤ suc (length s)
    go true h = omega arith
    go false h = omega arith

pub record Number (low high at : ℕ) (s : List ℕ) (value next : ℕ) (rest : List ℕ) : Type 0 where
  pub least : low ≤ value
  pub most : value ≤ high
  pub later : at < next
  pub inside : next + length rest ≡ at + length s

pub number : (low high at : ℕ) (s : List ℕ) (value next : ℕ) (rest : List ℕ) → uint low high at s ≡ read value next rest → Number low high at s value next rest
unfolding uint
number low high at s value next rest e = go (ltb 0 (digit_run s)) (leb low (decimal 0 (take (digit_run s) s))) (leb (decimal 0 (take (digit_run s) s)) high) refl refl refl e
  where
    go : (a b c : Bool) → ltb 0 (digit_run s) ≡ a → leb low (decimal 0 (take (digit_run s) s)) ≡ b → leb (decimal 0 (take (digit_run s) s)) high ≡ c →
        pick (a && (b && c)) (read (decimal 0 (take (digit_run s) s)) (at + digit_run s) (drop (digit_run s) s)) rejected ≡ read value next rest →
        Number low high at s value next rest
    go true true true p q r h =
        let ev : decimal 0 (take (digit_run s) s) ≡ value = cc in
        let en : at + digit_run s ≡ next = cc in
        let er : drop (digit_run s) s ≡ rest = cc in
        let el : length (drop (digit_run s) s) ≡ length rest = ap length er in
        record {
          least = omega (arith, leb-true low (decimal 0 (take (digit_run s) s)) q);
          most = omega (arith, leb-true (decimal 0 (take (digit_run s) s)) high r);
          later = omega (arith, ltb-true 0 (digit_run s) p);
          inside = omega (arith, length-drop (digit_run s) s, digits_le s);
        }
    go true true false p q r h = let z : ◌≡◌ {A = ℕ} 0 1 = cc in absurd (omega arith)
    go true false c p q r h = let z : ◌≡◌ {A = ℕ} 0 1 = cc in absurd (omega arith)
    go false b c p q r h = let z : ◌≡◌ {A = ℕ} 0 1 = cc in absurd (omega arith)

-- the 32 bits of a magnitude with a `-` before it
pub negated : (m bits : ℕ) → m ≤ 2147483648 → bits ≡ to_bits 32 (neg_ℤ (from_bits 32 m)) → from_bits 32 bits ≡ neg_ℤ (pos m)
negated m bits h e =
    ap (from_bits 32) (e ∙ opposite-magnitude m (omega arith))
    ∙ from_bits-to_bits 32 (neg_ℤ (pos m)) (omega arith) (opposite-fits 32 m h)

pub not-negated : (m : ℕ) → m ≤ 2147483647 → from_bits 32 m ≡ pos m
not-negated m h = rw (lt-ltb m 2147483648 (omega arith))

-- no number starts at a `-`
pub hyphen : (low high : ℕ) (s : List ℕ) (at : ℕ) → at < length s → get_or s at 0 ≡ 45 → uint low high at (drop at s) ≡ rejected
unfolding uint
hyphen low high s at h e = rw (run-low s at h (omega arith))

-- one byte of a text
module _ (c : Char) (s : List ℕ) (at : ℕ) where
  pub just-byte : at < length s → get_or s at 0 ≡ code c → just c at (drop at s) ≡ read tt (at + 1) (drop (at + 1) s)
  unfolding just
  just-byte h e =
      rw (drop-cons s at 0, eq-eqb (get_or s at 0) (code c) e) (ap (λ (n : ℕ). read tt (at + 1) (drop n s)) (sym (add-one at)))

  pub just-other : at < length s → (get_or s at 0 ≡ code c → ⊥) → just c at (drop at s) ≡ rejected
  unfolding just
  just-other h e = rw (drop-cons s at 0, ne_eqb (get_or s at 0) (code c) e)

  pub just-end : length s ≤ at → just c at (drop at s) ≡ rejected
  unfolding just
  just-end h = rw (drop_of_length-le s h)

-- the choice between a number with `-` and one without, by the byte that stands there
module _ (low high high-negative : ℕ) (s : List ℕ) (at : ℕ) where
  pub sint-hyphen : at < length s → get_or s at 0 ≡ 45 →
      sint low high high-negative at (drop at s) ≡ and_then (uint low high-negative (at + 1) (drop (at + 1) s)) (λ n. done (neg_ℤ (pos n)))
  sint-hyphen h e = rw (just-byte "-" s at h e) (go (and_then (uint low high-negative (at + 1) (drop (at + 1) s)) (λ n. done (neg_ℤ (pos n)))))
    where
      go : (r : Reading ℤ) → or_else r (λ at s. and_then (uint low high at s) (λ n. done (pos n))) at (drop at s) ≡ r
      go rejected = rw (hyphen low high s at h e)
      go (read z next rest) = refl

  pub sint_plain : just "-" at (drop at s) ≡ rejected → sint low high high-negative at (drop at s) ≡ and_then (uint low high at (drop at s)) (λ n. done (pos n))
  sint_plain e = rw e

-- The answers of the code, r the reading of `uint`.
module _ (low high at : ℕ) (s : List ℕ) where
  pub negative-read : (value next bits : ℕ) (rest : List ℕ) → high ≤ 2147483648 → read value next rest ≡ uint low high at s → bits ≡ to_bits 32 (neg_ℤ (from_bits 32 value)) →
      read (from_bits 32 bits) next rest ≡ and_then (uint low high at s) (λ n. done (neg_ℤ (pos n)))
  negative-read value next bits rest h r e =
      let small : value ≤ 2147483648 = omega (arith, number low high at s value next rest (sym r)) in
      rw (← r, negated value bits small e)

  pub positive-read : (value next : ℕ) (rest : List ℕ) → high < 2147483648 → read value next rest ≡ uint low high at s →
      read (from_bits 32 value) next rest ≡ and_then (uint low high at s) (λ n. done (pos n))
  positive-read value next rest h r =
      let small : value ≤ 2147483647 = omega (arith, number low high at s value next rest (sym r)) in
      rw (← r, not-negated value small)

  pub positive-reading : (text : List ℕ) (r : Option (Parsed ℕ)) → high < 2147483648 → reading (λ n. n) text r ≡ uint low high at s →
      reading (from_bits 32) text r ≡ and_then (uint low high at s) (λ n. done (pos n))
  positive-reading text None h e = rw (← e)
  positive-reading text (Some p) h e = positive-read p.value p.next (drop p.next text) h e
