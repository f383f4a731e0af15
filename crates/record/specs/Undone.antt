-- A record in front of other bytes, and what it is undone to.
use Rattle.std.specs.Prelude.{ℕ, ◌≤◌, ◌≡◌, Bool, ◌&&◌, ◌||◌, List, ◌++◌, eqb, neg_ℤ, length, drop}
use Rattle.notation.specs.Packed.{RECORD, Head, leaf_head, group_head, binary_head, head_record, head_at}
use Rattle.notation.specs.Invert.{undo}
use Rattle.notation.specs.Numbers.{MIN-BITS}
use Rattle.record.specs.Meaning.{field, kind_at, NUMBER, OTHER}
use Rattle.record.specs.Range.{FitsHead}

-- bytes whose first record is one that packing writes
pub record StartsRecord (bs : List ℕ) : Type 0 where
  pub whole : head_record (head_at bs) ++ drop RECORD bs ≡ bs
  pub fits : FitsHead (head_at bs)
  pub long : RECORD ≤ length bs

-- a record undone: a step, or a group as a whole
abbrev pub undone_head : Head → Head
undone_head (leaf_head x) = leaf_head (undo x)
undone_head (group_head k n m c) = group_head k n (neg_ℤ m) c
undone_head (binary_head k n n' m c) = binary_head k n n' (neg_ℤ m) c

-- a record of a pair with −2147483648, which cannot be undone
abbrev pub overflows_at : List ℕ → Bool
overflows_at bs = eqb (kind_at bs) 9 && (eqb (field NUMBER bs) MIN-BITS || eqb (field OTHER bs) MIN-BITS)
