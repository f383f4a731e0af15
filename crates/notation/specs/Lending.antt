-- Answers, and what an entry leaves in the buffers that a caller lends. A refusal keeps every buffer; what does not fit is refused 5 and
-- keeps them too; else what is written takes the front of its buffer and the rest stays.
use Rattle.std.specs.Prelude.{ℕ, ◌/◌, Bool, ◌&&◌, List, ◌++◌, leb, length, drop, Result, Ok, Err}
use Rattle.std.specs.Prelude as code
use Rattle.std.proofs.Math.Option.{Option, none, some}
use Rattle.notation.specs.Basics.{Bytes, pick}
use Rattle.notation.specs.Refusals as by
use Rattle.notation.specs.Refusals.{Outcome, refusal, result, ◌>>=◌, ◌>>◌, NO-ROOM}
use Rattle.notation.specs.declared.refusals.Refusal.{Refusal}
use Rattle.notation.specs.declared.refusals.Refusal.TheVariants as refused
use Rattle.notation.specs.declared.refusals.NotMoved.{NotMoved}

-- Answers. The code's `Refusal` says a refusal's number.
abbrev pub number : Refusal → ℕ
number refused.TooLong = by.TOO-LONG
number refused.NotUtf8 = by.NOT-UTF8
number refused.TooNested = by.TOO-NESTED
number refused.NotNotation = by.NOT-NOTATION
number refused.NoRoom = by.NO-ROOM
number refused.NotWellFormed = by.NOT-WELL-FORMED
number refused.Niss = by.NISS
number refused.Overflow = by.OVERFLOW
number refused.TooManySteps = by.TOO-MANY-STEPS
number refused.NoSuchPlace = by.NO-SUCH-PLACE
number refused.NoSuchLayerCount = by.NO-SUCH-LAYER-COUNT
number refused.NoSuchRecord = by.NO-SUCH-RECORD
number refused.StepTooWide = by.STEP-TOO-WIDE
number refused.NoSuchCube = by.NO-SUCH-CUBE
number refused.BreaksRegulations = by.BREAKS-REGULATIONS
number refused.TooManyToReplay = by.TOO-MANY-TO-REPLAY
number refused.NotSq1 = by.NOT-SQ1
number refused.BlockedSlash = by.BLOCKED-SLASH
number refused.NotConvertible = by.NOT-CONVERTIBLE
number refused.FamilyInUse = by.FAMILY-IN-USE
number refused.AtEnd = by.AT-END
number refused.AtStart = by.AT-START
number refused.NoSuchLeaf = by.NO-SUCH-LEAF

-- that of a refusal, if there is one
abbrev pub number_of : code.Option Refusal → Option ℕ
number_of code.None = none
number_of (code.Some r) = some (number r)

-- The code's `Result` says an outcome; document 01's fields are the refusal's number (0 for none) and the value (0 where refused).
abbrev pub outcome : {A : Type 0} → Result A Refusal → Outcome A
outcome (Ok v) = result v
outcome (Err r) = refusal (number r)

abbrev pub refusal_number : {A : Type 0} → Outcome A → ℕ
refusal_number (refusal r) = r
refusal_number (result a) = 0

abbrev pub value : Outcome ℕ → ℕ
value (refusal r) = 0
value (result v) = v

-- One buffer, of bytes or of layer ranges: the answer is the length of what is written.
pub record Lent (A : Type 0) : Type 0 where
  pub answer : Outcome ℕ
  pub buffer : List A

-- an answer of the code and the buffer after it
abbrev pub lent : {A : Type 0} → Result ℕ Refusal → List A → Lent A
lent a buffer = record { answer = outcome a; buffer = buffer }

abbrev pub kept : {A : Type 0} → ℕ → List A → Lent A
kept r buffer = record { answer = refusal r; buffer = buffer }

abbrev pub fits : {A : Type 0} → List A → List A → Bool
fits l buffer = leb (length l) (length buffer)

-- a list at the front of a buffer
abbrev pub overwrite : {A : Type 0} → List A → List A → List A
overwrite l buffer = l ++ drop (length l) buffer

abbrev pub lend : {A : Type 0} → Outcome (List A) → List A → Lent A
lend (refusal r) buffer = kept r buffer
lend (result l) buffer =
    pick (fits l buffer)
    (record { answer = result (length l); buffer = overwrite l buffer })
    (kept NO-ROOM buffer)

-- the answer for bytes, as that for entries of so many bytes
abbrev pub in_entries : (width : ℕ) → Lent ℕ → Lent ℕ
in_entries width l = record { answer = (do n ← l.answer; result (n / width)); buffer = l.buffer }

-- Two buffers, written together or not at all (document 02, requests 9 and 14). What is answered is no length, so the rule gives it beside
-- what is written.
pub record Both : Type 0 where
  pub answered : ℕ
  pub first : Bytes
  pub second : Bytes

pub record LentBoth : Type 0 where
  pub answer : Outcome ℕ
  pub first : Bytes
  pub second : Bytes

-- an answer of the code and the buffers after it
abbrev pub lent_both : Result ℕ Refusal → (first second : Bytes) → LentBoth
lent_both a first second = record { answer = outcome a; first = first; second = second }

abbrev pub kept_both : ℕ → (first second : Bytes) → LentBoth
kept_both r first second = record { answer = refusal r; first = first; second = second }

abbrev pub lend_both : Outcome Both → (first second : Bytes) → LentBoth
lend_both (refusal r) first second = kept_both r first second
lend_both (result b) first second =
    pick (fits b.first first && fits b.second second)
    (record { answer = result b.answered; first = overwrite b.first first; second = overwrite b.second second })
    (kept_both NO-ROOM first second)

-- An answer that holds a place beside a refusal too (document 02, request 12): the place after the call or, where it is refused, the place
-- that was handed in.
pub record Placed : Type 0 where
  pub number : ℕ  -- of the refusal, 0 for none
  pub place : ℕ

-- what the code's `Result` says
abbrev pub placed : Result ℕ NotMoved → Placed
placed (Ok p) = record { number = 0; place = p }
placed (Err r) = record { number = number r.refusal; place = r.place }

abbrev pub beside : (place : ℕ) → Outcome ℕ → Placed
beside place (refusal r) = record { number = r; place = place }
beside place (result next) = record { number = 0; place = next }

pub record LentAt : Type 0 where
  pub answer : Placed
  pub buffer : Bytes

abbrev pub lent_at : Result ℕ NotMoved → (buffer : Bytes) → LentAt
lent_at a buffer = record { answer = placed a; buffer = buffer }

-- the rule gives the next place and what is written, which is lent as by `lend`
abbrev pub lend_at : (place : ℕ) → Outcome (ℕ × Bytes) → (buffer : Bytes) → LentAt
lend_at place o buffer =
    let l = lend (do m ← o; result m.1) buffer in
    record { answer = beside place (do m ← o; l.answer; result m.0); buffer = l.buffer }
