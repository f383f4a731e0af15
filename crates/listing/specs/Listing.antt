-- The size of a listed tree, and a listing in a buffer.
use Rattle.std.specs.Prelude.{ℕ, ◌*◌, ◌≡◌, List, ◌++◌, length, drop}
use Rattle.notation.specs.Packed.{RECORD}
use Rattle.notation.specs.Lister.{MAX-INPUT}

-- a record for each byte of the longest text
abbrev pub MAX-TREE : ℕ
MAX-TREE = RECORD * MAX-INPUT

-- r bytes at the front of a buffer, which are the list; the rest stays
pub record AtFront (list before after : List ℕ) (r : ℕ) : Type 0 where
  pub size : r ≡ length list
  pub bytes : after ≡ list ++ drop r before
