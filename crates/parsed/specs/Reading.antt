-- What a reader's answer says in the rules' terms: a reading of the text, or a rejection. `means` says what the code's value stands for.
use Rattle.std.specs.Prelude.{ℕ, List, drop, Option, Some, None}
use Rattle.notation.specs.Grammar.{Reading, rejected, read}
use Rattle.parsed.specs.declared.Parsed.{Parsed}

-- what always reads something
abbrev pub taken : {T A : Type 0} → (T → A) → List ℕ → Parsed T → Reading A
taken means text p = read (means p.value) p.next (drop p.next text)

abbrev pub reading : {T A : Type 0} → (T → A) → List ℕ → Option (Parsed T) → Reading A
reading means text (Some p) = taken means text p
reading means text None = rejected
