-- What is surely enough for each buffer that a caller lends: what a rule gives, where it gives anything, has at most so many bytes, or exactly so
-- many.
-- include/hypuz_notation.h hands these numbers to a host. The theorem is `suffices` in crates/value_laws/proofs/Sizes.antt.
use Rattle.std.specs.Prelude.{ℕ, ◌+◌, ◌*◌, ◌/◌, ◌≡◌, Bool, length}
use Rattle.notation.specs.Basics.{Bytes, total}
use Rattle.notation.specs.Refusals.{Outcome, result, ◌>>=◌}
use Rattle.notation.specs.Packed.{RECORD}
use Rattle.notation.specs.Clauses.{Fields, fields_of, family, constraints, set}
use Rattle.notation.specs.Entries.{
  reading,
  inverse,
  deep_inverse,
  display,
  unrolled,
  count_steps,
  step_at,
  layer_ranges,
  range_bytes,
}
use Rattle.notation.specs.Demands.{AtMost}
use Rattle.notation.specs.declared.features.Features.{Features}

-- The trees that the library makes over a text, in a setting: what reading gives, the inverses of such a tree, and its steps one by one.
pub data Made (f : Features) (text : Bytes) : Bytes → Type 0 where
  read : {tree : Bytes} → reading f text ≡ result tree → Made f text tree
  inverted : {tree tree' : Bytes} → Made f text tree → inverse text tree ≡ result tree' → Made f text tree'
  inverted_deep : {tree tree' : Bytes} → Made f text tree → deep_inverse text tree ≡ result tree' → Made f text tree'
  sought : {tree step : Bytes} (place : ℕ) → Made f text tree → step_at text tree place ≡ result step → Made f text step

-- What the parts that a record names print at most: a layer set may take a quarter more than it is written with, since `1-2,` prints `1..2,`.
abbrev pub parts_printed : Fields → ℕ
parts_printed r = (family r).size + (constraints r).size + ((set r).size + (set r).size / 4)

-- for the text of any tree: as many bytes as the tree has, for its signs, numbers and spaces, and beside them its parts
unfoldable pub display_room : Bytes → ℕ
display_room tree = length tree + total parts_printed (fields_of (length tree / RECORD) tree)

-- 16,384 ranges of four bytes
abbrev pub RANGES-ROOM : ℕ
RANGES-ROOM = 65536

abbrev pub Exactly : ℕ → Outcome Bytes → Type 0
Exactly n o = (l : Bytes) → o ≡ result l → length l ≡ n

pub record Suffices : Type 0 where
  -- a record for every two bytes: nodes do not touch, and what holds them has a bracket on either side
  pub to_read : (f : Features) (text : Bytes) → AtMost ((length text + 1) / 2 * RECORD) (reading f text)
  pub to_invert : (text tree : Bytes) → Exactly (length tree) (inverse text tree)
  pub to_invert_deep : (text tree : Bytes) → Exactly (length tree) (deep_inverse text tree)
  pub to_unroll : (text tree : Bytes) (n : ℕ) → count_steps text tree ≡ result n → Exactly (n * RECORD) (unrolled text tree)
  pub to_seek : (text tree : Bytes) (place : ℕ) → Exactly RECORD (step_at text tree place)
  pub to_simplify : (text tree : Bytes) («record» layers : ℕ) (negatives : Bool) →
      AtMost RANGES-ROOM (do l ← layer_ranges text tree «record» layers negatives; result (range_bytes l))
  -- twice the text for a tree that the library made over it, and by its records for any tree
  pub to_print : (f : Features) (text tree : Bytes) → Made f text tree → AtMost (2 * length text) (display text tree)
  pub to_print_any : (text tree : Bytes) → AtMost (display_room tree) (display text tree)
