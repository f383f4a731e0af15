-- Entries with their buffers: refused, too short, exact, with bytes to spare.
use Prim.Native.Nat.{ℕ}
use Prim.Native.String.{String}
use mathlib.Core.Path.{◌≡◌, refl}
use mathlib.Core.Bool.{true}
use mathlib.Core.List.{List, [], ◌∷◌, ◌++◌, map}
use lib.ListN.{replicate}
use Rattle.notation.specs.Features.{MAXIMAL}
use Rattle.notation.specs.Refusals.{Outcome, refusal, result}
use Rattle.notation.specs.Entries.{Lent, parse_notation, reading, display_entry, seek_step, inv_entry, count_steps, simplify_bytes, family, family_refusal}
use Rattle.notation.specs.Unroll.{copies}
use Rattle.notation.specs.Marked.{ascii}
use Rattle.notation.proofs.Opened.{opened}

abbrev tree_of : String → List ℕ
tree_of s = bytes_or (reading MAXIMAL (ascii s))
  where
    bytes_or : Outcome (List ℕ) → List ℕ
    bytes_or (refusal r) = []
    bytes_or (result b) = b

abbrev lent : Outcome ℕ → List ℕ → Lent ℕ
lent a b = record { answer = a; buffer = b }

-- `R U` takes 76 bytes: one short keeps the buffer, two to spare stay as they were
buffers : (parse_notation MAXIMAL (ascii "R U") (replicate 75 9) ≡ lent (refusal 5) (replicate 75 9))
    × (parse_notation MAXIMAL (ascii "R U") (replicate 78 9) ≡ lent (result 76) (tree_of "R U" ++ (9 ∷ 9 ∷ [])))
    × (parse_notation MAXIMAL (ascii "R)") (replicate 3 9) ≡ lent (refusal 4) (9 ∷ 9 ∷ 9 ∷ []))
    × (display_entry (ascii "( R )2") (tree_of "( R )2") (replicate 5 9) ≡ lent (result 4) (ascii "(R)2" ++ (9 ∷ [])))
    × (display_entry (ascii "( R )2") (tree_of "( R )2") (replicate 3 9) ≡ lent (refusal 5) (replicate 3 9))
    × (inv_entry (ascii "R U") (9 ∷ []) (8 ∷ []) ≡ lent (refusal 6) (8 ∷ []))
unfolding opened
buffers = (refl, refl, refl, refl, refl, refl)

-- seeking goes by the unrolled list: place 3 of `[R, U]` is U undone, place 4 is none, and 10 comes before 5
seeking : (seek_step (ascii "[R, U]") (tree_of "[R, U]") 3 (replicate 38 9) ≡ lent (result 38) (tree_of "    U'"))
    × (map (λ k. seek_step (ascii "[R, U]") (tree_of "[R, U]") k []) (3 ∷ 4 ∷ []) ≡ lent (refusal 5) [] ∷ lent (refusal 10) [] ∷ [])
    × (seek_step [] [] 0 [] ≡ lent (refusal 10) [])
unfolding opened copies
seeking = (refl, refl, refl)

-- the refusals come in the document's order
order : map (λ t. count_steps t (9 ∷ [])) ((0xff ∷ []) ∷ [] ∷ []) ≡ refusal 2 ∷ refusal 6 ∷ []
unfolding opened
order = refl

families : (map (family (ascii "(Rw U)2 @ .") (tree_of "(Rw U)2 @ .")) (0 ∷ 1 ∷ 2 ∷ 3 ∷ 4 ∷ 5 ∷ []) ≡ [] ∷ ascii "Rw" ∷ ascii "U" ∷ [] ∷ [] ∷ [] ∷ [])
    × (map (family_refusal (ascii "(Rw U)2 @ .") (tree_of "(Rw U)2 @ .")) (0 ∷ 1 ∷ 2 ∷ 3 ∷ 4 ∷ 5 ∷ []) ≡ 12 ∷ 0 ∷ 0 ∷ 0 ∷ 12 ∷ 12 ∷ [])
unfolding opened
families = (refl, refl)

-- two ranges are eight bytes
ranges : (simplify_bytes (ascii "{1,3..300}R") (tree_of "{1,3..300}R") 0 400 true (replicate 9 7) ≡ lent (result 2) (0 ∷ 1 ∷ 0 ∷ 1 ∷ 0 ∷ 3 ∷ 1 ∷ 44 ∷ 7 ∷ []))
    × (simplify_bytes (ascii "{1,3..300}R") (tree_of "{1,3..300}R") 0 400 true (replicate 7 7) ≡ lent (refusal 5) (replicate 7 7))
unfolding opened
ranges = (refl, refl)

-- with a tilde the room is that of the answer: three ranges where the set has two, none where it has one
tildes : (simplify_bytes (ascii "~{2,4..300}R") (tree_of "~{2,4..300}R") 0 400 true (replicate 13 7) ≡ lent (result 3) (0 ∷ 1 ∷ 0 ∷ 1 ∷ 0 ∷ 3 ∷ 0 ∷ 3 ∷ 1 ∷ 45 ∷ 1 ∷ 144 ∷ 7 ∷ []))
    × (simplify_bytes (ascii "~{2,4..300}R") (tree_of "~{2,4..300}R") 0 400 true (replicate 11 7) ≡ lent (refusal 5) (replicate 11 7))
    × (simplify_bytes (ascii "~{1..9}R") (tree_of "~{1..9}R") 0 9 true [] ≡ lent (result 0) [])
    × (simplify_bytes (ascii "~2R") (tree_of "~2R") 0 9 true (replicate 7 7) ≡ lent (refusal 5) (replicate 7 7))
unfolding opened
tildes = (refl, refl, refl, refl)
