-- `charsets::chars::class_number` meets its contract: antt compares the table with the rule's own, entry by entry, and past the table
-- no test of `classify` passes.
use Prim.Native.Nat.{ℕ, ◌≤◌}
use mathlib.Core.Path.{◌≡◌, ◌∙◌, ap, refl, sym}
use mathlib.Core.Bool.{Bool, true, false}
use mathlib.Core.List.{◌∷◌}
use native.Mathlib.Omega.{arith}
use native.Mathlib.Nat.{zero-add}
use borrow.Author.Tests.{le-leb, ne_eqb}
use lib.Dec.{leb}
use Rattle.notation.specs.Basics.{pick, one_of, every}
use Rattle.notation.specs.Chars.{classify, class_number, curly_prime_codes}
use Rattle.charsets.proofs.Bools.{above}
use Rattle.charsets.proofs.Table.{entry}
use Rattle.charsets.proofs.Sets.{no-letter}
use Rattle.charsets.proofs.chars.class_number.Goals as goal

pub returns-then-c-lt1024 : goal.returns-then-c-lt1024
unfolding classify one_of
returns-then-c-lt1024 c =
    entry (λ n. class_number (classify n)) 1024 0 c.args.c c.if-c-lt1024.true
    ∙ ap (λ (n : ℕ). class_number (classify n)) (zero-add c.args.c)

-- past the table
past : (n : ℕ) → 1024 ≤ n → (t : Bool) → t ≡ one_of curly_prime_codes n → pick t 7 0 ≡ class_number (classify n)
unfolding every one_of
past n h t e =
    let other : one_of (0x27 ∷ curly_prime_codes) n ≡ one_of curly_prime_codes n = rw (ne_eqb 0x27 n (λ i. omega arith)) in
    ap (λ (u : Bool). pick u 7 0) (e ∙ sym other)
    ∙ sym (no-letter (leb 1024) n refl refl refl (le-leb 1024 n h) (above 0x61 0x7a n (omega arith)) (above 0x41 0x5a n (omega arith)) (λ i. omega arith))

pub returns-then-is_curly_prime : goal.returns-then-is_curly_prime
returns-then-is_curly_prime c = past _ c.if-c-lt1024.false true (sym c.if-is_curly_prime.true ∙ c.is_curly_prime.ensures)

pub returns-else-is_curly_prime : goal.returns-else-is_curly_prime
returns-else-is_curly_prime c = past _ c.if-c-lt1024.false false (sym c.if-is_curly_prime.false ∙ c.is_curly_prime.ensures)
