-- What is surely enough: for a tree by its text, to print what the library makes by the text too, and any tree by its records.
use Prim.Native.Nat.{ℕ}
use Prim.Native.String.{String}
use mathlib.Core.Path.{◌≡◌, refl}
use mathlib.Core.List.{List, [], ◌∷◌, map}
use lib.ListN.{length}
use Rattle.notation.specs.Basics.{total}
use Rattle.notation.specs.Features.{MAXIMAL}
use Rattle.notation.specs.Refusals.{Outcome, result, ◌>>=◌}
use Rattle.notation.specs.Clauses.{fields_of}
use Rattle.notation.specs.Entries.{reading, display}
use Rattle.notation.specs.Demands.{printed_inverse}
use Rattle.notation.specs.Marked.{ascii}
use Rattle.notation.specs.Sizes.{display_room}
use Rattle.notation.proofs.Opened.{opened}

-- bytes of a text and of its tree: a record for every two bytes, where no fewer will do
abbrev tree_size : String → Outcome (List ℕ)
tree_size s = do
  tree ← reading MAXIMAL (ascii s)
  result (length (ascii s) ∷ length tree ∷ [])

trees : map tree_size ("" ∷ "R" ∷ "R U" ∷ "(R)" ∷ "[R,U]" ∷ [])
    ≡ result (0 ∷ 0 ∷ []) ∷ result (1 ∷ 38 ∷ []) ∷ result (3 ∷ 76 ∷ []) ∷ result (3 ∷ 76 ∷ []) ∷ result (5 ∷ 114 ∷ []) ∷ []
unfolding opened
trees = refl

-- bytes of the printed inverse of a text
abbrev inverse_size : String → Outcome ℕ
inverse_size s = do
  tree ← reading MAXIMAL (ascii s)
  shown ← printed_inverse (ascii s) tree
  result (length shown)

-- `R'` takes all of twice the text, `U' R'` two thirds more than it, `(-1, -2)` and `[R, U]'` less
inverses : map inverse_size ("R" ∷ "" ∷ "R U" ∷ "(1,2)" ∷ "[R,U]" ∷ []) ≡ result 2 ∷ result 0 ∷ result 5 ∷ result 8 ∷ result 7 ∷ []
unfolding opened
inverses = refl

-- for a text's own tree: what it prints, and what its records allow
abbrev sizes : String → Outcome (List ℕ)
sizes s = do
  tree ← reading MAXIMAL (ascii s)
  shown ← display (ascii s) tree
  result (length shown ∷ display_room tree ∷ [])

-- 38 bytes a record, its family and constraints as they are written, and its layer set with a quarter more: `{1..2,1..2,1..2,1..2}` has
-- four bytes more than the 17 of the set as written
rooms : map sizes ("" ∷ "R" ∷ "( Rw )2" ∷ "R{ A }" ∷ "{1-2,1-2,1-2,1-2}R" ∷ "{1-2}R{A}" ∷ [])
    ≡ result (0 ∷ 0 ∷ []) ∷ result (1 ∷ 39 ∷ []) ∷ result (5 ∷ 78 ∷ []) ∷ result (4 ∷ 44 ∷ []) ∷ result (22 ∷ 60 ∷ []) ∷ result (10 ∷ 48 ∷ []) ∷ []
unfolding opened total fields_of display_room
rooms = refl
