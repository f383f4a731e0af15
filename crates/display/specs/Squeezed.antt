-- A text without its white space.
use Rattle.std.specs.Prelude.{ℕ, zero, suc, List, [], ◌∷◌}
use Rattle.notation.specs.Chars.{white_space}
use Rattle.notation.specs.Utf8.{after_first, width_if}

-- the first k bytes belong to a white space character that was seen; a byte at which none begins stays
unfoldable pub squeezed_from : ℕ → List ℕ → List ℕ
squeezed_from k [] = []
squeezed_from (suc k) (b ∷ s) = squeezed_from k s
squeezed_from zero (b ∷ s) = after_first (width_if white_space (b ∷ s)) (b ∷ squeezed_from zero s) (λ k. squeezed_from k s)

abbrev pub squeezed : List ℕ → List ℕ
squeezed s = squeezed_from 0 s
