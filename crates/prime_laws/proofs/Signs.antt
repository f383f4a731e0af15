-- The sign that negates, read at once from the text as given, under the flag, and from the straight text without it. Assumes nothing.
use Prim.Native.Nat.{ℕ, zero, suc, ◌+◌}
use mathlib.Core.Path.{◌≡◌, refl, sym, ap, ◌∙◌}
use mathlib.Core.Bool.{Bool, true, false}
use mathlib.Core.List.{List, [], ◌∷◌}
use native.Mathlib.Omega.{arith}
use borrow.Author.Tests.{eqb-true, eqb-false, ne_eqb}
use lib.Dec.{eqb}
use lib.ListN.{length, drop}
use lib.Seq.{drop-drop}
use Rattle.notation.specs.Basics.{one_of}
use Rattle.notation.specs.Chars.{classify, is_prime}
use Rattle.notation.specs.Utf8.{byte_at, char_width, code_point, width_if}
use Rattle.notation.specs.Grammar.{Reading, rejected, read, or_else, just, character, prime, multiplier, MAX-I32}
use Rattle.notation.specs.Primes.{straight_from, straight, given, without_curly}
use Rattle.notation.specs.declared.features.Features.{Features}
use Rattle.charsets.proofs.Signs.{other-prime}
use Rattle.prime_laws.proofs.Firsts.{First, nothing, sign, other, Sign, Other, first, plain-ascii}
use Rattle.prime_laws.proofs.Follows.{Meets, neither, both, Follows, finished, loosely, ◌then◌, either}
use Rattle.prime_laws.proofs.Readers.{uint-alike}
use Rattle.prime_laws.proofs.Parts.{At, at_onward, within}

-- behind a sign
at_sign : (text : List ℕ) (at : ℕ) (s : List ℕ) (at' : ℕ) → At text at s at' → Sign s → At text (at + 3) (drop 3 s) (at' + 1)
at_sign text at s at' h g =
    record {
      well = g.well;
      place = sym (drop-drop 3 at text) ∙ ap (drop 3) h.place;
      place' = sym (drop-drop 1 at' (straight text)) ∙ ap (drop 1) (h.place' ∙ g.first);
      offsets = λ j.
          let e : at' + 1 + j ≡ at' + suc j = omega arith in
          ap (given text) e ∙ omega (arith, h.offsets (suc j), g.moves j);
    }

-- no apostrophe
no-just : (at : ℕ) (s : List ℕ) → (byte_at s 0 ≡ 0x27 → ⊥) → just "'" at s ≡ rejected
unfolding just
no-just at [] n = refl
no-just at (b ∷ s) n = rw (ne_eqb b 0x27 n)

module _ (text : List ℕ) where
  abbrev Signed : ℕ → List ℕ → ℕ → Type 0
  Signed at s at' = Meets (within text) 1 (length (straight s)) (λ a a'. a ≡ a') (or_else (just "'" at s) (character is_prime) at s) (just "'" at' (straight s))

  curly : (at : ℕ) (s : List ℕ) (at' : ℕ) → At text at s at' → Sign s → Signed at s at'
  unfolding just
  curly at s at' h g =
      let none : byte_at s 0 ≡ 0x27 → ⊥ = λ i. omega (arith, g.high) in
      let three : width_if is_prime s ≡ 3 = other-prime s none ∙ rw g.curly g.width in
      rw (no-just at s none, three, g.first)
      (both (record { there = at_sign text at s at' h g; rest = refl; fewer = omega arith }) refl)

  plainly : (at b : ℕ) (s : List ℕ) (at' w : ℕ) → At text at (b ∷ s) at' → Other (b ∷ s) w → (t : Bool) → eqb b 0x27 ≡ t → Signed at (b ∷ s) at'
  unfolding just
  plainly at b s at' zero h o t e = absurd (omega (arith, o.some))
  plainly at b s at' (suc k) h o true e =
      let i = eqb-true b 0x27 e in
      let one = plain-ascii b s (omega arith) h.well in
      rw (one.same, e) (both (record { there = at_onward text at (b ∷ s) at' 1 h one; rest = refl; fewer = omega arith }) refl)
  plainly at b s at' (suc k) h o false e =
      let none : width_if is_prime (b ∷ s) ≡ 0 = other-prime (b ∷ s) (eqb-false b 0x27 e) ∙ rw o.usual in
      rw (o.plain.same, e, none) neither

  signed : (at : ℕ) (s : List ℕ) (at' : ℕ) → At text at s at' → First s → Signed at s at'
  unfolding just char_width code_point classify one_of straight_from
  signed at s at' h (nothing i) = rw i neither
  signed at s at' h (sign g) = curly at s at' h g
  signed at [] at' h (other w o) = absurd (omega (arith, o.width, o.some))
  signed at (b ∷ s) at' h (other w o) = plainly at b s at' w h o (eqb b 0x27) refl

  -- under the flag, and without it
  pub prime-follows : {m : ℕ} (f : Features) → f.curly_primes ≡ true → Follows (within text) m 1 (λ a a'. a ≡ a') (prime f) (prime (without_curly f))
  prime-follows f e = record {
    meets = λ at s at' h l. rw (e, alone (just "'" at' (straight s)) at' (straight s)) (signed at s at' h (first s h.well));
  }
    where
      alone : (r : Reading (Unit {0})) (at : ℕ) (s : List ℕ) → or_else r (λ _ _. rejected) at s ≡ r
      alone rejected at s = refl
      alone (read a at' s') at s = refl

  pub multiplier-follows : {m : ℕ} (f : Features) → f.curly_primes ≡ true → Follows (within text) m 0 (λ a a'. a ≡ a') (multiplier f) (multiplier (without_curly f))
  multiplier-follows f e =
      either (uint-alike 0 MAX-I32) (finished refl)
      then λ n. either (loosely (prime-follows f e) then λ _. finished refl) (finished refl)
