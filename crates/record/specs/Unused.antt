-- Parts that a record does not use, by the tests that the code makes: an empty family stands at 0, and what is not there is nowhere.
use Rattle.std.specs.Prelude.{ℕ, Bool, not, ◌&&◌, ◌||◌, List, eqb}
use Rattle.record.specs.Meaning.{field, both_zero, form_at, present_at, FAMILY, FAMILY-SIZE, CONSTRAINTS, LAYER-SET}

abbrev pub family_written : List ℕ → Bool
family_written bs = not (eqb (field FAMILY-SIZE bs) 0) || eqb (field FAMILY bs) 0

abbrev pub constraints_written : List ℕ → Bool
constraints_written bs = present_at bs || both_zero CONSTRAINTS bs

abbrev pub parts_written : List ℕ → Bool
parts_written bs = family_written bs && constraints_written bs

abbrev pub set_written : List ℕ → Bool
set_written bs = eqb (form_at bs) 3 || both_zero LAYER-SET bs
