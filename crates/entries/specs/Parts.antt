-- Parts of the text, as an outcome.
use Rattle.std.specs.Prelude.{ℕ, ◌*◌, ◌/◌, ◌<◌, ◌≤◌, ◌≡◌, true, length, drop, List, Option, Some, None, Result, Ok, Err, IfOk}
use Rattle.notation.specs.Refusals.{Outcome, refusal, result}
use Rattle.notation.specs.Tree as tree
use Rattle.notation.specs.Packed.{RECORD}
use Rattle.notation.specs.WellFormed.{inside}
use Rattle.record.specs.Meaning.{span}
use Rattle.record.specs.Range.{FitsSpan}
use Rattle.record.specs.declared.spanned.Span.{Span}
use Rattle.notation.specs.Lending.{number}
use Rattle.notation.specs.declared.refusals.Refusal.{Refusal}

abbrev pub part_outcome : Result Span Refusal → Outcome tree.Span
part_outcome (Ok p) = result (span p)
part_outcome (Err r) = refusal (number r)

-- a refusal by its number, 0 for none
abbrev pub or_zero : Option Refusal → ℕ
or_zero (Some r) = number r
or_zero None = 0

-- a part that is given stands inside the text, and its numbers have the width of their fields
abbrev pub Inside : List ℕ → Result Span Refusal → Type 0
Inside text r = IfOk r (λ p. inside text (span p) ≡ true)

abbrev pub Fits : Result Span Refusal → Type 0
Fits r = IfOk r (λ p. FitsSpan (span p))

-- what begins with the record of a number, in a tree that has it
pub record Begins (tree : List ℕ) (k : ℕ) (found : List ℕ) : Type 0 where
  pub there : k < length tree / RECORD
  pub is : found ≡ drop (RECORD * k) tree
  pub long : RECORD ≤ length found
