-- Lists of which something holds throughout.
use Rattle.std.specs.Prelude.{List, [], ◌∷◌}

-- something that holds of everything in a list
pub data All {A : Type 0} (P : A → Type 0) : List A → Type 0 where
  empty : All P []
  one : {x : A} {l : List A} → P x → All P l → All P (x ∷ l)
