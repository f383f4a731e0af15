-- Answers as one number. Assumes nothing.
use Prim.Native.Nat.{ℕ, ◌+◌, ◌*◌, ◌%◌, ◌<◌}
use mathlib.Core.Path.{◌≡◌, sym, ap, ◌∙◌}
use mathlib.Core.List.{List}
use native.Mathlib.Nat.{mod-eq_of_lt}
use native.Mathlib.Omega.{arith}
use Rattle.notation.specs.Refusals.{Outcome, refusal, result}
use Rattle.notation.specs.Tree.{Span}
use Rattle.notation.specs.Entries.{Lent, outcome}
use Rattle.std.specs.Prelude.{Result}
use Rattle.notation.specs.declared.refusals.Refusal.{Refusal}
use Rattle.notation.specs.Host.{VALUES, PART, coded, part_number, Hands}

pub value-coded : (v : ℕ) (o : Outcome ℕ) → o ≡ result v → v % VALUES ≡ coded o
value-coded v o e = rw e (omega arith)

pub refusal-coded : (r : ℕ) (o : Outcome ℕ) → o ≡ refusal r → r * VALUES ≡ coded o
refusal-coded r o e = rw e (omega arith)

pub hands : (n : ℕ) (a : Result ℕ Refusal) (after : List ℕ) (rule : Lent ℕ) → n ≡ coded (outcome a) → record { answer = outcome a; buffer = after } ≡ rule → Hands n after rule
hands n a after rule e q = record { number = e ∙ ap (λ x. coded x.answer) q; bytes = ap (λ x. x.buffer) q }

pub part-coded : (p : Span) (o : Outcome Span) → p.offset < PART → p.size < PART → result p ≡ o → p.offset * PART + p.size ≡ coded (part_number o)
part-coded p o b d e =
    sym (mod-eq_of_lt (omega arith)) ∙ value-coded (p.offset * PART + p.size) (part_number o) (ap part_number (sym e))

pub no-part-coded : (r : ℕ) (o : Outcome Span) → refusal r ≡ o → r * VALUES ≡ coded (part_number o)
no-part-coded r o e = refusal-coded r (part_number o) (ap part_number (sym e))
