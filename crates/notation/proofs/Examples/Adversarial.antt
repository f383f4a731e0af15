-- Texts and trees that a reviewer thought of: odd whitespace, empty sets, leading zeros, each flag alone, NISS and −2147483648 at every
-- place, parts that start inside a character, limits of layers, the lister.
use Prim.Native.Nat.{ℕ, ◌<◌}
use Prim.Native.String.{String}
use mathlib.Core.Path.{◌≡◌, refl}
use mathlib.Core.Bool.{Bool, true, false}
use mathlib.Core.List.{List, [], ◌∷◌, ◌++◌, map}
use mathlib.Core.Option.{none, some}
use borrow.Author.Tests.{lt-leb}
use lib.Dec.{lit<}
use lib.IntN.{pos}
use lib.ListN.{length, replicate, length-replicate}
use Rattle.notation.specs.Features.{MAXIMAL}
use Rattle.notation.specs.Tree.{span, rotation, move, pause, no_layers, layer_set}
use Rattle.notation.specs.Packed.{leaf_record, head_record, group_head, binary_head}
use Rattle.notation.specs.Refusals.{Outcome, refusal, result, ◌>>=◌}
use Rattle.notation.specs.Unroll.{copies}
use Rattle.notation.specs.WellFormed.{well_formed}
use Rattle.notation.specs.Layers.{Range}
use Rattle.notation.specs.Entries.{MAX-TEXT, tree_in, refusal_number, reading, deep_inverse, display, layer_ranges}
use Rattle.notation.specs.Lister.{lister}
use Rattle.notation.specs.Marked.{from, step_count, ascii}
use Rattle.notation.specs.declared.features.Features.{Features}
use Rattle.notation.specs.declared.common.GroupKind.TheVariants.{Simple}
use Rattle.notation.specs.declared.common.BinaryGroupKind.TheVariants.{Commutator}
use Rattle.notation.proofs.Opened.{opened}
use Rattle.notation.proofs.Examples.Text.{bytes}

abbrev refusals : Features → List String → List ℕ
refusals f l = map (λ s. refusal_number (tree_in f (bytes s))) l

-- read
odd_but_read : refusals MAXIMAL
    ("" ∷ " " ∷ "{ }R" ∷ "{ 1 , 3 }R" ∷ "{-1 }R" ∷ "R{ }" ∷ "R{ A }" ∷ "R{A->A}" ∷ "R{A\n->\tB}" ∷ "@2" ∷ "@'" ∷ "( ( 1 ,\n2 ) )" ∷ "[ R , U ]" ∷ "[(1,0), /]" ∷ "[R:]" ∷ "(-00,-0002)" ∷ "R00000000000000000002147483647'" ∷ "000000000032767R" ∷ "{-0032767..00032767}R" ∷ "!()" ∷ "&()0'" ∷ "^( )" ∷ "~3-3R" ∷ "~{1-3,-2}R{A}3'" ∷ "_" ∷ "R_" ∷ "Rw_Ω" ∷ "@{}" ∷ "R. " ∷ [])
    ≡ replicate 28 0 ++ (4 ∷ [])
unfolding opened bytes
odd_but_read = refl

-- rejected
odd_and_rejected : refusals MAXIMAL
    ("{- 1}R" ∷ "{1,,3}R" ∷ "{1--3}R" ∷ "{-1-3}R" ∷ "{1..}R" ∷ "{1...3}R" ∷ "{-0}R" ∷ "{1.. 3}R" ∷ "{1 -3}R" ∷ "(+1,0)" ∷ "(1,0)2" ∷ "(1,0)'" ∷ "(1)" ∷ "(1,)" ∷ "(1 2,0)" ∷ "R '" ∷ "R 2" ∷ "R2'2" ∷ "R'2" ∷ "! (R)" ∷ "!!(R)" ∷ "~ R" ∷ "~~R" ∷ "~(R)" ∷ "2(R)" ∷ "[R,U,F]" ∷ "[R:U,F]" ∷ "(R,U)" ∷ "R(U)" ∷ "(R)(U)" ∷ "R+" ∷ "R+++" ∷ "R++'" ∷ "{1}" ∷ "3-1" ∷ "3-1-2R" ∷ "1 R" ∷ "{1} R" ∷ "R{A->}" ∷ "R{->B}" ∷ "R{A->B->C}" ∷ "R{A< >B}" ∷ "R{A,}" ∷ "R{1}" ∷ "R{A}{B}" ∷ "@R{A}{B}" ∷ "@@" ∷ "@(R)" ∷ ".'" ∷ "/2" ∷ "`(R)" ∷ "?(R)" ∷ "32768R" ∷ "{32768}R" ∷ "1-32768R" ∷ "{1..32768}R" ∷ "]" ∷ "{" ∷ "R’" ∷ [])
    ≡ replicate 59 4
unfolding opened bytes
odd_and_rejected = refl

-- 16,777,216 spaces: what their length alone tells, since so many cannot be counted off here
over_long : (text : List ℕ) (n : ℕ) → length text ≡ n → MAX-TEXT < n → tree_in MAXIMAL text ≡ refusal 1
unfolding opened
over_long text n e h = rw (e, lt-leb n MAX-TEXT h)

too_long : tree_in MAXIMAL (replicate 16777216 32) ≡ refusal 1
too_long = over_long (replicate 16777216 32) 16777216 (length-replicate {A = ℕ} 16777216 32) (lit< tt)

-- unrolling
unrolls : map step_count ("[R, (^(U))0]" ∷ "[[^(R), U]0, F]'" ∷ "((^(R))0)2'" ∷ "^(R)0 (-2147483648,0)" ∷ "((-2147483648,0) ^(R))'" ∷ "(^(R) (-2147483648,0))'" ∷ "[(-2147483648,0),]" ∷ "[,(-2147483648,0)]'" ∷ "[:(-2147483648,0)]" ∷ "[:(-2147483648,0)]'" ∷ "[(0,-2147483648):]" ∷ "((-2147483648,0))0" ∷ "([:^()])0' R" ∷ "[^(R)0, R]0" ∷ [])
    ≡ result 2 ∷ result 2 ∷ result 0 ∷ refusal 7 ∷ refusal 7 ∷ refusal 8 ∷ refusal 8 ∷ refusal 8 ∷ result 1 ∷ refusal 8 ∷ refusal 8 ∷ result 0 ∷ result 1 ∷ result 0 ∷ []
unfolding opened copies
unrolls = refl

abbrev deep : String → Outcome (List ℕ)
deep s = do t ← reading MAXIMAL (ascii s); t' ← deep_inverse (ascii s) t; display (ascii s) t'

deep_inverses : map deep ("(^(R))0" ∷ "[^(R), U]" ∷ "[R: [^(U): F]]" ∷ "[R: [F, ^(U)]]2'" ∷ "((-2147483648,0))0" ∷ "[(-2147483648,0): R]" ∷ "[R: (-2147483648,0)]" ∷ "^(R) [R: (-2147483648,0)]" ∷ [])
    ≡ refusal 7 ∷ result (ascii "[U, ^(R)]") ∷ result (ascii "[R: [^(U): F']]") ∷ result (ascii "[R: [^(U), F]]2'") ∷ refusal 8 ∷ result (ascii "[(-2147483648, 0): R']") ∷ refusal 8 ∷ refusal 8 ∷ []
unfolding opened
deep_inverses = refl

-- parts that start or end mid-character, and overlapping lists
well_formed_or_not : map (well_formed (bytes "β{β}R{β}"))
    (leaf_record (move false no_layers (span 0 2) none (pos 1))
    ∷ leaf_record (move false no_layers (span 1 1) none (pos 1))
    ∷ leaf_record (move false no_layers (span 0 1) none (pos 1))
    ∷ leaf_record (move false no_layers (span 0 2) (some (span 2 4)) (pos 1))
    ∷ leaf_record (move false no_layers (span 0 2) (some (span 3 2)) (pos 1))
    ∷ leaf_record (move false no_layers (span 0 2) (some (span 0 0)) (pos 1))
    ∷ leaf_record (move false (layer_set (span 2 4)) (span 0 2) none (pos 1))
    ∷ leaf_record (rotation (span 3 0) none (pos 1))
    ∷ leaf_record (rotation (span 0 0) none (pos 0))
    ∷ (head_record (group_head Simple 1 (pos 1) 0) ++ head_record (group_head Simple 1 (pos 1) 1) ++ leaf_record pause)
    ∷ (head_record (group_head Simple 2 (pos 1) 1) ++ head_record (group_head Simple 1 (pos 1) 1) ++ leaf_record pause)
    ∷ (head_record (binary_head Commutator 0 1 (pos 1) 2) ++ leaf_record pause)
    ∷ (head_record (binary_head Commutator 1 16777215 (pos 1) 2) ++ leaf_record pause)
    ∷ [])
    ≡ true ∷ false ∷ false ∷ true ∷ false ∷ false ∷ false ∷ false ∷ true ∷ false ∷ true ∷ true ∷ false ∷ []
unfolding opened bytes
well_formed_or_not = refl

-- limits of layers
abbrev ranges_at : ℕ → ℕ → Bool → String → Outcome (List Range)
ranges_at k n neg s = do tree ← reading MAXIMAL (ascii s); layer_ranges (ascii s) tree k n neg

layer_limits : (map (ranges_at 0 32767 true) ("{-32767..32767}R" ∷ "{-1,1}R" ∷ "32767R" ∷ []) ≡ map result ((from 1 32767 ∷ []) ∷ (from 1 1 ∷ from 32767 32767 ∷ []) ∷ (from 32767 32767 ∷ []) ∷ []))
    × (map (ranges_at 0 1 true) ("R" ∷ "{-1}R" ∷ "{-2}R" ∷ "{2}R" ∷ "{-2..2}R" ∷ "{2..3}R" ∷ "{-3..-2}R" ∷ "{-2..1}R" ∷ "{1-2}R" ∷ "1-2R" ∷ "2-3R" ∷ "~2R" ∷ []) ≡ map result ((from 1 1 ∷ []) ∷ (from 1 1 ∷ []) ∷ [] ∷ [] ∷ (from 1 1 ∷ []) ∷ [] ∷ [] ∷ (from 1 1 ∷ []) ∷ (from 1 1 ∷ []) ∷ (from 1 1 ∷ []) ∷ [] ∷ (from 1 1 ∷ []) ∷ []))
    × (map (ranges_at 0 5 false) ("{-9..9}R" ∷ "{-1..-1}R" ∷ "{9..9}R" ∷ "{3..3}R" ∷ "{4..2,5}R" ∷ []) ≡ map result ([] ∷ [] ∷ [] ∷ (from 3 3 ∷ []) ∷ (from 2 5 ∷ []) ∷ []))
unfolding opened
layer_limits = (refl, refl, refl)

-- flags one by one
abbrev flags : Bool → Bool → Bool → Bool → Bool → Bool → Bool → Bool → Features
flags il ls h gr tc mm sq cp = record { layers = record { inverted_layers = il; layer_sets = ls; hsc1_layer_ranges = h }; generalized_rotations = gr; transform_constraints = tc; megaminx = mm; sq1 = sq; curly_primes = cp }

abbrev probes : List String
probes = "~R" ∷ "{1}R" ∷ "{1-2}R" ∷ "@" ∷ "R{}" ∷ "R--" ∷ "/" ∷ "(1,2)" ∷ "@{}" ∷ "~{1}R" ∷ "~2R" ∷ "1-2R" ∷ "R’" ∷ []

each_flag_alone : (refusals (flags true false false false false false false false) probes ≡ 0 ∷ 4 ∷ 4 ∷ 4 ∷ 4 ∷ 4 ∷ 4 ∷ 4 ∷ 4 ∷ 4 ∷ 0 ∷ 0 ∷ 4 ∷ [])
    × (refusals (flags false true false false false false false false) probes ≡ 4 ∷ 0 ∷ 4 ∷ 4 ∷ 4 ∷ 4 ∷ 4 ∷ 4 ∷ 4 ∷ 4 ∷ 4 ∷ 0 ∷ 4 ∷ [])
    × (refusals (flags false false true false false false false false) probes ≡ 4 ∷ 4 ∷ 4 ∷ 4 ∷ 4 ∷ 4 ∷ 4 ∷ 4 ∷ 4 ∷ 4 ∷ 4 ∷ 0 ∷ 4 ∷ [])
    × (refusals (flags false false false true false false false false) probes ≡ 4 ∷ 4 ∷ 4 ∷ 0 ∷ 4 ∷ 4 ∷ 4 ∷ 4 ∷ 4 ∷ 4 ∷ 4 ∷ 0 ∷ 4 ∷ [])
    × (refusals (flags false false false false true false false false) probes ≡ 4 ∷ 4 ∷ 4 ∷ 4 ∷ 0 ∷ 4 ∷ 4 ∷ 4 ∷ 4 ∷ 4 ∷ 4 ∷ 0 ∷ 4 ∷ [])
    × (refusals (flags false false false false false true false false) probes ≡ 4 ∷ 4 ∷ 4 ∷ 4 ∷ 4 ∷ 0 ∷ 4 ∷ 4 ∷ 4 ∷ 4 ∷ 4 ∷ 0 ∷ 4 ∷ [])
    × (refusals (flags false false false false false false true false) probes ≡ 4 ∷ 4 ∷ 4 ∷ 4 ∷ 4 ∷ 4 ∷ 0 ∷ 0 ∷ 4 ∷ 4 ∷ 4 ∷ 0 ∷ 4 ∷ [])
    × (refusals (flags false false false false false false false true) probes ≡ 4 ∷ 4 ∷ 4 ∷ 4 ∷ 4 ∷ 4 ∷ 4 ∷ 4 ∷ 4 ∷ 4 ∷ 4 ∷ 0 ∷ 0 ∷ [])
unfolding opened bytes
each_flag_alone = (refl, refl, refl, refl, refl, refl, refl, refl)

lister_of_the_paper : lister (ascii "m\n[R: U2 F]'") ≡ ascii "text [R: U2 F]'\ninverse [R: U2 F]\nsteps 4\n0 R\n1 F'\n2 U2'\n3 R'\n"
unfolding opened copies
lister_of_the_paper = refl

lister_refusals : (lister (ascii "w\n") ≡ ascii "text \ninverse \nsteps 0\n") × (lister (ascii "m\n(-2147483648,0)") ≡ ascii "text (-2147483648, 0)\ninverse refused 8\nsteps 1\n0 (-2147483648, 0)\n") × (lister (ascii "w\n^(R)") ≡ ascii "text ^(R)\ninverse ^(R)'\nsteps refused 7\n") × (lister (ascii "w\nR)") ≡ ascii "text refused 4\n") × (lister (ascii "w") ≡ ascii "refused input\n") × (lister (ascii "w\r\nR") ≡ ascii "refused input\n")
unfolding opened copies
lister_refusals = (refl, refl, refl, refl, refl, refl)

nesting : map (λ s. refusal_number (tree_in MAXIMAL s)) ((replicate 10 41 ++ replicate 74 40) ∷ (replicate 10 41 ++ replicate 75 40) ∷ (replicate 65 91) ∷ (replicate 65 40 ++ (0xff ∷ [])) ∷ (replicate 33 40 ++ replicate 32 91) ∷ (replicate 100 123) ∷ [])
    ≡ 4 ∷ 3 ∷ 3 ∷ 2 ∷ 3 ∷ 4 ∷ []
unfolding opened
nesting = refl
