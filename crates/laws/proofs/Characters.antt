-- What a reader of one character yields, and of the sign that negates. Assumes nothing.
use Prim.Native.Nat.{ℕ, ◌≤◌}
use mathlib.Core.Bool.{Bool, true, false}
use mathlib.Core.List.{List, [], ◌∷◌}
use native.Mathlib.Omega.{arith}
use lib.Dec.{ltb}
use lib.ListN.{length}
use borrow.Author.Tests.{ltb-true}
use Rattle.notation.specs.Basics.{pick}
use Rattle.notation.specs.Chars.{is_prime}
use Rattle.notation.specs.Utf8.{char_width, code_point, width_if}
use Rattle.notation.specs.Grammar.{character, prime}
use Rattle.notation.specs.declared.features.Features.{Features}
use Rattle.laws.proofs.Readers.{Place, Yields, pick-read, took-front, took-is, weaken, yields-just, yields-or, yields-when}
use Rattle.laws.proofs.Runs.{width-le}

-- a character takes no more than there is
pub width-within : (p : ℕ → Bool) (s : List ℕ) → width_if p s ≤ length s
unfolding char_width
width-within p [] = go (p (code_point []))
  where
    go : (t : Bool) → pick t 0 0 ≤ 0
    go true = omega arith
    go false = omega arith
width-within p (b ∷ s) = width-le p b s

module _ {c : Place} where
  pub yields-character : (p : ℕ → Bool) → Yields c (character p) (λ a n. 1 ≤ n)
  yields-character p = record {
    took = λ at s h a at' s' e.
        let k = pick-read (ltb 0 (width_if p s)) e in
        took-is k.1 k.2 k.3 (took-front at (width_if p s) s (width-within p s) (ltb-true 0 (width_if p s) k.0));
  }

  pub yields-prime : (f : Features) → Yields c (prime f) (λ a n. 1 ≤ n)
  yields-prime f =
      yields-or (weaken (yields-just "'") (λ a n e. omega arith)) (yields-when f.curly_primes λ _. yields-character is_prime)
