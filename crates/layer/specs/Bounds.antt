-- Which numbers are layers. This file names no struct, so that the structs can keep its facts.
use Rattle.std.specs.Prelude.{ℕ, ◌≤◌}
use Rattle.notation.specs.Layers.{MAX-LAYER}

-- one of layers 1 to n
pub record LayerUpTo (n i : ℕ) : Type 0 where
  pub low : 1 ≤ i
  pub high : i ≤ n

abbrev pub IsLayer : ℕ → Type 0
IsLayer i = LayerUpTo MAX-LAYER i
