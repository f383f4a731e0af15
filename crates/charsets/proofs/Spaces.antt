-- White_Space: what is left to test of an ASCII character, and of any other.
use mathlib.Core.Path.{◌≡◌}
use mathlib.Core.Bool.{◌||◌}
use Prim.Native.Nat.{ℕ, ◌≤◌}
use native.Mathlib.Omega.{arith}
use borrow.Author.Tests.{ne_eqb}
use lib.Dec.{eqb}
use Rattle.notation.specs.Basics.{between, one_of}
use Rattle.notation.specs.Chars.{white_space}
use Rattle.charsets.proofs.Bools.{below, or-false}

pub ascii : (c : ℕ) → c ≤ 0x7f → white_space c ≡ (between 0x9 0xd c || eqb 0x20 c)
unfolding white_space one_of
ascii c h =
    rw (
      below 0x2000 0x200a c (omega arith),
      ne_eqb 0x85 c (λ e. omega arith),
      ne_eqb 0xa0 c (λ e. omega arith),
      ne_eqb 0x1680 c (λ e. omega arith),
      ne_eqb 0x2028 c (λ e. omega arith),
      ne_eqb 0x2029 c (λ e. omega arith),
      ne_eqb 0x202f c (λ e. omega arith),
      ne_eqb 0x205f c (λ e. omega arith),
      ne_eqb 0x3000 c (λ e. omega arith),
      or-false (between 0x9 0xd c),
      or-false (eqb 0x20 c),
    )
