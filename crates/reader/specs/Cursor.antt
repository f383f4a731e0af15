-- A reader and the grammar: what is left of its text, and where a reading leaves the cursor.
use Rattle.std.specs.Prelude.{ℕ, ◌≤◌, ◌≡◌, List, leb, length, drop, Option, Some, None}
use Rattle.notation.specs.Basics.{pick}
use Rattle.notation.specs.Entries.{MAX-TEXT}
use Rattle.notation.specs.Grammar.{Reading, rejected, read, and_then, done, fail, node, whitespace}
use Rattle.notation.specs.Grammar as rule
use Rattle.notation.specs.declared.features.Features.{Features}
use Rattle.parse.specs.Meaning.{node_fields}
use Rattle.parsed.specs.declared.Parsed.{Parsed}
use Rattle.record.specs.declared.encode.Fields.{Fields}
use Rattle.reader.specs.declared.Reader.{Reader}

abbrev pub text : Reader → List ℕ
text r = r.text.now

-- the cursor stands within the text
abbrev pub Inside : Reader → Type 0
Inside r = r.at ≤ length (text r)

-- what a rule of the grammar reads from the cursor on
abbrev pub reads : {A : Type 0} → rule.Reader A → Reader → Reading A
reads p r = p r.at (drop r.at (text r))

-- where a reading ends; one that is rejected ends where it began
abbrev pub end_of : {A : Type 0} → ℕ → Reading A → ℕ
end_of at rejected = at
end_of at (read a next rest) = next

-- the same text, and the cursor elsewhere
abbrev pub moved : Reader → ℕ → Reader
moved r n = record { text = r.text; at = n }

-- the reader after a reading
abbrev pub after : {A : Type 0} → Reader → Reading A → Reader
after r x = moved r (end_of r.at x)

-- the second reader is the first after what the rule reads, and stands within the text
abbrev pub Moves : {A : Type 0} → rule.Reader A → Reader → Reader → Type 0
Moves p r r' = (r' ≡ after r (reads p r)) × Inside r'

-- a node that is no group, by the fields of its record
abbrev pub leaf : Features → rule.Reader (List ℕ)
leaf f at s = and_then (node f fail at s) (λ n. done (node_fields n))

-- the same after white space
abbrev pub leaf_after_spaces : Features → rule.Reader (List ℕ)
leaf_after_spaces f at s = and_then (whitespace at s) (λ _. leaf f)

-- the same at the start of a text: one that is too long has none
abbrev pub first_leaf : Features → List ℕ → Reading (List ℕ)
first_leaf f s = pick (leb (length s) MAX-TEXT) (leaf_after_spaces f 0 s) rejected

-- where an answer of `parse` leaves the cursor
abbrev pub after_leaf : ℕ → Option (Parsed Fields) → ℕ
after_leaf at None = at
after_leaf at (Some p) = p.next
