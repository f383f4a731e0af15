-- Layer sets in braces: what follows an element.
use Rattle.std.specs.Prelude.{ℕ, ◌≡◌, List, [], ◌∷◌, drop}
use Rattle.notation.specs.Grammar.{read, Reader, and_then, just, whitespace, padded, more_of}

-- these elements follow at `at`, and then the brace that ends the part; the fuel is some that suffices
pub record Following {A : Type 0} (item : Reader A) (part : List ℕ) (at : ℕ) (l : List A) : Type 0 where
  pub fuel : ℕ
  pub middle : ℕ
  pub rest : List ℕ
  pub last : ℕ
  pub more : more_of ◌∷◌ [] item (padded (just ",")) fuel at (drop at part) ≡ read l middle rest
  pub closes : and_then (whitespace middle rest) (λ _. just "}") ≡ read tt last []
