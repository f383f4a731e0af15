-- Shallow and deep inverses, printed.
use Prim.Native.Nat.{ℕ}
use Prim.Native.String.{String}
use mathlib.Core.Path.{◌≡◌, refl}
use mathlib.Core.List.{List, [], ◌∷◌, map}
use Rattle.notation.specs.Features.{MAXIMAL}
use Rattle.notation.specs.Refusals.{Outcome, refusal, result, ◌>>=◌}
use Rattle.notation.specs.Entries.{reading, inverse, deep_inverse, display}
use Rattle.notation.specs.Marked.{ascii}
use Rattle.notation.proofs.Opened.{opened}

abbrev pub shallow : String → Outcome (List ℕ)
shallow s = do t ← reading MAXIMAL (ascii s); t' ← inverse (ascii s) t; display (ascii s) t'

abbrev pub deep : String → Outcome (List ℕ)
deep s = do t ← reading MAXIMAL (ascii s); t' ← deep_inverse (ascii s) t; display (ascii s) t'

-- what stands inside a group is kept, NISS and −2147483648 included
shallowly : map shallow ("R U2' . / (1,-2) D++ @" ∷ "(R U)2 [F, D]' ^(B)" ∷ "[R: U2 F]'" ∷ "((-2147483648,0))" ∷ "R0 (U)0'" ∷ "" ∷ [])
    ≡ map (λ s. result (ascii s)) ("@' D-- (-1, 2) / . U2 R'" ∷ "^(B)' [F, D] (R U)2'" ∷ "[R: U2 F]" ∷ "((-2147483648, 0))'" ∷ "(U)0 R0" ∷ "" ∷ [])
unfolding opened
shallowly = refl

deeply : map deep ("(R U)2 F" ∷ "[R, U]2'" ∷ "[R: U2 F]'" ∷ "!(&(R .)2 [(1,0): /])" ∷ "[^(R): U] [^(R), ^(F)]" ∷ [])
    ≡ map (λ s. result (ascii s)) ("F' (U' R')2" ∷ "[U, R]2'" ∷ "[R: F' U2']'" ∷ "!([(1, 0): /] &(. R')2)" ∷ "[^(F), ^(R)] [^(R): U']" ∷ [])
unfolding opened
deeply = refl

-- the walk goes from the last node to the first
refusals : (map shallow ("(-2147483648,0)" ∷ "(0,-2147483648) ^(R)" ∷ []) ≡ refusal 8 ∷ refusal 8 ∷ [])
    × (map deep ("^(R)0" ∷ "^(R) (-2147483648,0)" ∷ "(-2147483648,0) ^(R)" ∷ "(R ^(U))" ∷ "[U: ^(R)]" ∷ []) ≡ refusal 7 ∷ refusal 8 ∷ refusal 7 ∷ refusal 7 ∷ refusal 7 ∷ [])
unfolding opened
refusals = (refl, refl)
