-- Answers as one number, for a host that calls from C: the refusal's number times 2^56, plus the value modulo 2^56 (0 where refused).
use Rattle.std.specs.Prelude.{ℕ, ◌+◌, ◌*◌, ◌/◌, ◌%◌, ◌<◌, ◌≡◌, Bool, List, length}
use Rattle.notation.specs.Refusals.{Outcome, refusal, result}
use Rattle.notation.specs.Tree.{Span}
use Rattle.notation.specs.Lending.{refusal_number, value, Lent, LentBoth, Placed, LentAt}
use Rattle.notation.specs.Entries.{
  parse_notation,
  display_entry,
  inv_entry,
  inv_deep_entry,
  count_steps,
  flatten_entry,
  seek_step,
  simplify_bytes,
  family_span,
}
use Rattle.notation.specs.declared.features.Features.{Features}

-- 2^56
abbrev pub VALUES : ℕ
VALUES = 72057594037927936

abbrev pub coded : Outcome ℕ → ℕ
coded o = refusal_number o * VALUES + value o % VALUES

-- 2^24
abbrev pub PART : ℕ
PART = 16777216

-- a part of the text as its offset times 2^24 plus its length
abbrev pub part_number : Outcome Span → Outcome ℕ
part_number (refusal r) = refusal r
part_number (result p) = result (p.offset * PART + p.size)

-- The number and the buffer that an entry hands to such a host are those of its rule.
pub record Hands (r : ℕ) (buffer : List ℕ) (rule : Lent ℕ) : Type 0 where
  pub number : r ≡ coded rule.answer
  pub bytes : buffer ≡ rule.buffer

-- the same of an entry that writes two buffers
pub record HandsBoth (r : ℕ) (first second : List ℕ) (rule : LentBoth) : Type 0 where
  pub number : r ≡ coded rule.answer
  pub first_bytes : first ≡ rule.first
  pub second_bytes : second ≡ rule.second

-- An answer that holds a place beside a refusal too: the place stands where the value does, in a refused call as well. A place that is
-- handed in may reach 2^56 and is told modulo it; one that is answered without a refusal is at most n.
abbrev pub coded_place : Placed → ℕ
coded_place a = a.number * VALUES + a.place % VALUES

pub record HandsAt (r : ℕ) (buffer : List ℕ) (rule : LentAt) : Type 0 where
  pub number : r ≡ coded_place rule.answer
  pub bytes : buffer ≡ rule.buffer

-- Nothing is lost by the modulo: no value of an entry reaches 2^56, and a smaller one is told whole. The values of the inverses
-- and of printing are at most the length of the lent buffer, and no machine has one of 2^56 bytes; the others are below 2^56
-- whatever is lent. The theorem is `lossless` in crates/value_laws/proofs/Values.antt.
abbrev pub BelowValues : Outcome ℕ → Type 0
BelowValues o = value o < VALUES

-- the number as a sum, and taken apart again
pub record Whole (o : Outcome ℕ) : Type 0 where
  pub sum : coded o ≡ refusal_number o * VALUES + value o
  pub refused_by : coded o / VALUES ≡ refusal_number o
  pub valued : coded o % VALUES ≡ value o

pub record Lossless : Type 0 where
  pub whole : (o : Outcome ℕ) → BelowValues o → Whole o
  pub reading : (f : Features) (text buffer : List ℕ) → BelowValues (parse_notation f text buffer).answer
  pub counting : (text tree : List ℕ) → BelowValues (count_steps text tree)
  pub seeking : (text tree : List ℕ) (k : ℕ) (buffer : List ℕ) → BelowValues (seek_step text tree k buffer).answer
  pub unrolling : (text tree buffer : List ℕ) → BelowValues (flatten_entry text tree buffer).answer
  pub layering : (text tree : List ℕ) (k n : ℕ) (neg : Bool) (buffer : List ℕ) →
      BelowValues (simplify_bytes text tree k n neg buffer).answer
  pub naming : (text tree : List ℕ) (k : ℕ) → BelowValues (part_number (family_span text tree k))
  pub inverting : (text tree buffer : List ℕ) → length buffer < VALUES → BelowValues (inv_entry text tree buffer).answer
  pub inverting_deeply : (text tree buffer : List ℕ) → length buffer < VALUES → BelowValues (inv_deep_entry text tree buffer).answer
  pub printing : (text tree buffer : List ℕ) → length buffer < VALUES → BelowValues (display_entry text tree buffer).answer
