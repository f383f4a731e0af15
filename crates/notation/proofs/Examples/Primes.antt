-- Curly primes: where they negate, where they are rejected, what offsets come to, and that no part of a tree holds one.
use Prim.Native.Nat.{ℕ, zero, suc}
use Prim.Native.String.{String}
use mathlib.Core.Path.{◌≡◌, refl}
use mathlib.Core.Bool.{Bool, true, false}
use mathlib.Core.List.{List, [], ◌∷◌, ◌++◌, map}
use mathlib.Core.Option.{none, some}
use lib.IntN.{pos, negsuc}
use lib.ListN.{replicate}
use Rattle.notation.specs.Features.{MINIMAL, WCA, MAXIMAL, of_bits}
use Rattle.notation.specs.Tree.{span, Leaf, leaf, block, group, nil, cons, rotation, move, no_layers, layer_set}
use Rattle.notation.specs.Packed.{nowhere, leaf_record}
use Rattle.notation.specs.Refusals.{result, ◌>>=◌}
use Rattle.notation.specs.WellFormed.{well_formed}
use Rattle.notation.specs.Entries.{tree_in, refusal_number}
use Rattle.notation.specs.Primes.{straight, given, tree_given, straight_tree_in, without_curly}
use Rattle.notation.specs.declared.features.Features.{Features}
use Rattle.notation.specs.declared.common.GroupKind.TheVariants.{Simple}
use Rattle.notation.proofs.Opened.{opened}
use Rattle.notation.proofs.Examples.Text.{bytes}
use Rattle.notation.proofs.Examples.Reading.{shown, refusals}

-- bit 7: the flag alone, and beside all others; without it a number is what it was
abbrev alone : Features
alone = of_bits 128

abbrev all : Features
all = of_bits 255

settings : (alone.curly_primes ≡ true) × (without_curly alone ≡ MINIMAL) × (all.curly_primes ≡ true) × (without_curly all ≡ MAXIMAL)
    × (of_bits 127 ≡ MAXIMAL) × (of_bits 256 ≡ MINIMAL)
    × (map (λ (f : Features). f.curly_primes) (MINIMAL ∷ WCA ∷ MAXIMAL ∷ []) ≡ false ∷ false ∷ false ∷ [])
settings = (refl, refl, refl, refl, refl, refl, refl)

-- after a number or none, of a move, a rotation and every group; printed with the apostrophe
negates : map (λ s. shown all (bytes s))
    ("R’" ∷ "R′" ∷ "R2’ U007′ F'" ∷ "R0’" ∷ "(R’ U)’" ∷ "[R’: U′]2′" ∷ "[,]’" ∷ "!()’ &()′ ^(R’)" ∷ "@’" ∷ "@U{A}3′" ∷ "~{1}R{A->B}’" ∷ "Ω’" ∷ "R’\t" ∷ [])
    ≡ map (λ s. result (bytes s))
    ("R'" ∷ "R'" ∷ "R2' U7' F'" ∷ "R0" ∷ "(R' U)'" ∷ "[R': U']2'" ∷ "[, ]'" ∷ "!()' &()' ^(R')" ∷ "@'" ∷ "@U{A}3'" ∷ "~{1}R{A->B}'" ∷ "Ω'" ∷ "R'" ∷ [])
unfolding opened bytes
negates = refl

-- refused 4: alone, twice, beside an apostrophe, before a number, inside and before a family, after what has no multiplier, before a group,
-- inside braces, after a space; and signs that only look alike
rejected : refusals all
    ("’" ∷ "R’’" ∷ "R′’" ∷ "R'’" ∷ "R’'" ∷ "R’2" ∷ "R’w" ∷ "’R" ∷ "R’U" ∷ "(1,2)’" ∷ "/′" ∷ ".’" ∷ "R++’" ∷ "’(R)" ∷ "(’R)" ∷ "[R’’, U]"
    ∷ "R{A’}" ∷ "R{’}" ∷ "{1’}R" ∷ "2’R" ∷ "2-’3R" ∷ "~’R" ∷ "R ’" ∷ "R‘" ∷ "R‛" ∷ "R‵" ∷ "R″" ∷ "R´" ∷ "Rʼ" ∷ [])
    ≡ replicate 29 4
unfolding opened bytes
rejected = refl

-- in no other setting
needs_the_flag : (refusals MAXIMAL ("R’" ∷ "R′" ∷ "(R)’" ∷ "@′" ∷ []) ≡ replicate 4 4) × (refusals WCA ("R’" ∷ []) ≡ 4 ∷ []) × (refusals alone ("R’" ∷ "R++" ∷ []) ≡ 0 ∷ 4 ∷ [])
unfolding opened bytes
needs_the_flag = (refl, refl, refl)

-- a sequence that is cut, and one byte too many
cut : map (λ s. refusal_number (tree_in all (bytes "R" ++ s))) ((0xe2 ∷ []) ∷ (0xe2 ∷ 0x80 ∷ []) ∷ (0xe2 ∷ 0x80 ∷ 0x27 ∷ []) ∷ (0xe2 ∷ 0x80 ∷ 0x99 ∷ 0x99 ∷ []) ∷ (0xe2 ∷ 0x80 ∷ 0x99 ∷ []) ∷ [])
    ≡ 2 ∷ 2 ∷ 2 ∷ 2 ∷ 0 ∷ []
unfolding opened bytes
cut = refl

-- 64 levels with a sign behind each, and 65
unfoldable signed_groups : ℕ → List ℕ → List ℕ
signed_groups zero s = s
signed_groups (suc n) s = 40 ∷ (signed_groups n s ++ bytes ")’")

nested : map (λ n. refusal_number (tree_in alone (signed_groups n (bytes "R’")))) (64 ∷ 65 ∷ []) ≡ 0 ∷ 3 ∷ []
unfolding opened bytes signed_groups
nested = refl

-- straight texts: the two signs and no other; U+2028, which begins alike, stays
straightened : map (λ s. straight (bytes s)) ("R’ U2′ F'" ∷ "’′" ∷ "R\u{2028}U’" ∷ "Ω‘" ∷ "" ∷ []) ≡ map bytes ("R' U2' F'" ∷ "''" ∷ "R\u{2028}U'" ∷ "Ω‘" ∷ "" ∷ [])
unfolding opened bytes
straightened = refl

-- offsets: each sign before one takes two bytes more
offsets : map (given (bytes "R’U′F")) (0 ∷ 1 ∷ 2 ∷ 3 ∷ 4 ∷ 5 ∷ 6 ∷ []) ≡ 0 ∷ 1 ∷ 4 ∷ 5 ∷ 8 ∷ 9 ∷ 10 ∷ []
unfolding opened bytes
offsets = refl

-- parts stand where the text as given has them
abbrev parts : String
parts = "R’ @’ ({1}U{A}′)’ F"

spans : tree_in all (bytes parts)
    ≡ result
    (cons (leaf (move false no_layers (span 0 1) none (negsuc 0)))
    (cons (leaf (rotation nowhere none (negsuc 0)))
    (cons (block (group Simple (cons (leaf (move false (layer_set (span 11 3)) (span 14 1) (some (span 15 3)) (negsuc 0))) nil)) (negsuc 0))
    (cons (leaf (move false no_layers (span 26 1) none (pos 1))) nil))))
unfolding opened bytes
spans = refl

same_spans : (do t ← straight_tree_in all (bytes parts); result (tree_given (bytes parts) t)) ≡ tree_in all (bytes parts)
unfolding opened bytes
same_spans = refl

-- refusal 6: no part of a tree may hold a prime, whatever the setting under which its text was read. A move's family, constraints and layer set,
-- each next to the same part with a sign or an apostrophe in it, and a family that begins or ends inside a sign.
abbrev ok : String → Leaf → Bool
ok text x = well_formed (bytes text) (leaf_record x)

no_parts : (map (λ p. ok "R’ U'" (move false no_layers p none (negsuc 0))) (span 0 1 ∷ span 5 1 ∷ span 0 4 ∷ span 0 2 ∷ span 1 3 ∷ span 3 1 ∷ span 5 2 ∷ span 6 1 ∷ [])
    ≡ true ∷ true ∷ replicate 6 false)
    × (map (λ c. ok "R{A}{A’}{A'}" (move false no_layers (span 0 1) (some c) (pos 1))) (span 1 3 ∷ span 4 6 ∷ span 10 4 ∷ []) ≡ true ∷ false ∷ false ∷ [])
    × (map (λ l. ok "R{1}{1’}{1'}" (move false (layer_set l) (span 0 1) none (pos 1))) (span 1 3 ∷ span 4 6 ∷ span 10 4 ∷ []) ≡ true ∷ false ∷ false ∷ [])
    × (map (λ p. ok "@′" (rotation p none (negsuc 0))) (nowhere ∷ span 1 3 ∷ []) ≡ true ∷ false ∷ [])
unfolding opened bytes
no_parts = (refl, refl, refl, refl)
