-- Texts for examples: the UTF-8 bytes of a quoted text.
use Prim.Native.Nat.{ℕ, ◌+◌, ◌/◌, ◌%◌}
use Prim.Native.Char.{code}
use Prim.Native.String as S
use Prim.Native.String.{String}
use mathlib.Core.Path.{◌≡◌, refl}
use mathlib.Core.List.{List, [], ◌∷◌, ◌++◌}
use lib.Dec.{ltb}
use Rattle.notation.specs.Basics.{pick}

abbrev encoded : ℕ → List ℕ
encoded c =
    pick (ltb c 0x80) (c ∷ [])
    (pick (ltb c 0x800) ((0xc0 + c / 64) ∷ (0x80 + c % 64) ∷ [])
    ((0xe0 + c / 4096) ∷ (0x80 + c / 64 % 64) ∷ (0x80 + c % 64) ∷ []))

unfoldable pub bytes : String → List ℕ
bytes S.[] = []
bytes (S.◌∷◌ c s) = encoded (code c) ++ bytes s

greek : bytes "aβ⨯" ≡ 0x61 ∷ 0xce ∷ 0xb2 ∷ 0xe2 ∷ 0xa8 ∷ 0xaf ∷ []
unfolding bytes
greek = refl
