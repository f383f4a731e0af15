-- Texts read and printed again, texts refused, and what some leaves are.
use Prim.Native.Nat.{ℕ}
use Prim.Native.String.{String}
use mathlib.Core.Path.{◌≡◌, refl}
use mathlib.Core.Bool.{true, false}
use mathlib.Core.List.{List, [], ◌∷◌, ◌++◌, map}
use mathlib.Core.Option.{none, some}
use lib.IntN.{pos, negsuc}
use lib.ListN.{replicate}
use Rattle.notation.specs.Features.{MINIMAL, WCA, MAXIMAL}
use Rattle.notation.specs.Tree.{span, leaf, nil, cons, rotation, move, megaminx, no_layers}
use Rattle.notation.specs.Refusals.{Outcome, refusal, result, ◌>>=◌}
use Rattle.notation.specs.Print.{printed}
use Rattle.notation.specs.Entries.{tree_in, refusal_number}
use Rattle.notation.specs.declared.features.Features.{Features}
use Rattle.notation.specs.declared.common.MegaminxScrambleMove.TheVariants.{Rpp}
use Rattle.notation.proofs.Opened.{opened}
use Rattle.notation.proofs.Examples.Text.{bytes}

abbrev pub shown : Features → List ℕ → Outcome (List ℕ)
shown f text = do t ← tree_in f text; result (printed text t)

-- the refusal of each text, 0 where it is read
abbrev pub refusals : Features → List String → List ℕ
refusals f l = map (λ s. refusal_number (tree_in f (bytes s))) l

-- what was read is printed so
prints : map (λ s. shown MAXIMAL (bytes s))
    ("3-1R" ∷ "{3..1}R" ∷ "{1-3, 5}R" ∷ "( 1 , -0 )" ∷ "()0'" ∷ "[,]" ∷ "[:]'" ∷ "R{A -> B , C<>D,E}" ∷ "00007R" ∷ "R007'" ∷ "(R)00" ∷ [])
    ≡ map (λ s. result (bytes s))
    ("1-3R" ∷ "{3..1}R" ∷ "{1..3,5}R" ∷ "(1, 0)" ∷ "()0" ∷ "[, ]" ∷ "[: ]'" ∷ "R{A->B,C<>D,E}" ∷ "7R" ∷ "R7'" ∷ "(R)0" ∷ [])
unfolding opened bytes
prints = refl

-- these print as they stand
abbrev every_kind : String
every_kind = "R U' F2 ~{-1,1..-2}Ωω_a{}3' @ @{A}2' @U{A->B} !(R [F, D]2)' &(.) ^([R: U2 F]3') (-2147483648, 7) / R++ R-- D++ D-- 3-3R 32767R2147483647'"

prints_as_written : shown MAXIMAL (bytes every_kind) ≡ result (bytes every_kind)
unfolding opened bytes
prints_as_written = refl

-- refused 4, each
rejected : refusals MAXIMAL
    (".." ∷ "(1,0)/(3,3)" ∷ "#(R)" ∷ "R {A}" ∷ "{1 .. 3}R" ∷ "{,}R" ∷ "{1,}R" ∷ "R++2" ∷ "0R" ∷ "40000R" ∷ "{0}R" ∷ "{-32768}R" ∷ "{40000}R" ∷ "R99999999999"
    ∷ "α" ∷ "R)" ∷ "(R" ∷ "[R]" ∷ "R2147483648" ∷ "(2147483648,0)" ∷ "(-2147483649,0)" ∷ "3-R" ∷ "~" ∷ "R''" ∷ [])
    ≡ replicate 24 4
unfolding opened bytes
rejected = refl

-- one flag off
abbrev without-hsc1 : Features
without-hsc1 = record { layers = record { inverted_layers = true; layer_sets = true; hsc1_layer_ranges = false }; generalized_rotations = true; transform_constraints = true; megaminx = true; sq1 = true; curly_primes = false }

abbrev without-megaminx : Features
without-megaminx = record { layers = WCA.layers; generalized_rotations = false; transform_constraints = false; megaminx = false; sq1 = true; curly_primes = false }

flags : (refusals without-hsc1 ("{1-3, 5}R" ∷ "{1..3, 5}R" ∷ []) ≡ 4 ∷ 0 ∷ [])
    × (refusals without-megaminx ("R++" ∷ "/" ∷ []) ≡ 4 ∷ 0 ∷ [])
    × (refusals WCA ("~R" ∷ "{1}R" ∷ "@" ∷ "R{}" ∷ "R--" ∷ "(1,2)" ∷ "1-3R" ∷ []) ≡ 4 ∷ 4 ∷ 4 ∷ 4 ∷ 0 ∷ 0 ∷ 0 ∷ [])
    × (refusals MINIMAL ("R++" ∷ "/" ∷ "(1,2)" ∷ "3Rw2'" ∷ []) ≡ 4 ∷ 4 ∷ 4 ∷ 0 ∷ [])
unfolding opened bytes
flags = (refl, refl, refl, refl)

-- whitespace between nodes: U+00A0, U+1680, U+2028, U+3000, newline, tab; U+200B is none
spaces : shown MAXIMAL
    (bytes "R" ++ (0xc2 ∷ 0xa0 ∷ []) ++ bytes "U" ++ (0xe1 ∷ 0x9a ∷ 0x80 ∷ []) ++ bytes "F" ++ (0xe2 ∷ 0x80 ∷ 0xa8 ∷ []) ++ bytes "B" ++ (0xe3 ∷ 0x80 ∷ 0x80 ∷ []) ++ bytes "D" ++ (10 ∷ 9 ∷ []))
    ≡ result (bytes "R U F B D")
unfolding opened bytes
spaces = refl

no_space : shown MAXIMAL (bytes "R" ++ (0xe2 ∷ 0x80 ∷ 0x8b ∷ []) ++ bytes "U") ≡ refusal 4
unfolding opened bytes
no_space = refl

families : map (λ s. shown MAXIMAL (bytes s)) ("β" ∷ "Ωω_a" ∷ []) ≡ map (λ s. result (bytes s)) ("β" ∷ "Ωω_a" ∷ [])
unfolding opened bytes
families = refl

-- four different leaves; `@` has an empty family at offset 0
leaves : map (λ s. tree_in MAXIMAL (bytes s)) ("R{}" ∷ "R" ∷ " @" ∷ "@{A}2'" ∷ "R++" ∷ [])
    ≡ map (λ x. result (cons (leaf x) nil))
    (move false no_layers (span 0 1) (some (span 1 2)) (pos 1)
    ∷ move false no_layers (span 0 1) none (pos 1)
    ∷ rotation (span 0 0) none (pos 1)
    ∷ rotation (span 0 0) (some (span 1 3)) (negsuc 1)
    ∷ megaminx Rpp
    ∷ [])
unfolding opened bytes
leaves = refl

-- nesting: 64 deep is read, 65 is refused 3, and so is a pair inside 64 groups
nested : ℕ → List ℕ → List ℕ
nested n inner = replicate n 40 ++ inner ++ replicate n 41

nesting : map (λ s. refusal_number (tree_in MAXIMAL s)) (nested 64 [] ∷ nested 65 [] ∷ nested 64 (bytes "(1,0)") ∷ nested 63 (bytes "(1,0)") ∷ replicate 65 40 ∷ bytes "))((" ∷ [])
    ≡ 0 ∷ 3 ∷ 3 ∷ 0 ∷ 3 ∷ 4 ∷ []
unfolding opened bytes nested
nesting = refl

-- bytes that are no UTF-8: a lone FF, a lone continuation, an overlong form, a surrogate, past U+10FFFF, a character cut off
not_utf8 : map (λ s. refusal_number (tree_in MAXIMAL s)) ((0xff ∷ []) ∷ (0x80 ∷ []) ∷ (0xc0 ∷ 0xaf ∷ []) ∷ (0xed ∷ 0xa0 ∷ 0x80 ∷ []) ∷ (0xf4 ∷ 0x90 ∷ 0x80 ∷ 0x80 ∷ []) ∷ (0xe2 ∷ 0x80 ∷ []) ∷ [])
    ≡ replicate 6 2
unfolding opened
not_utf8 = refl
