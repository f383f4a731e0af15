-- The undo view: what the shallow inverse plays, and the deep one after it was printed and read back.
use Prim.Native.Nat.{ℕ}
use Prim.Native.String.{String}
use mathlib.Core.Path.{◌≡◌, refl}
use mathlib.Core.List.{List, [], ◌∷◌, map}
use Rattle.notation.specs.Features.{MAXIMAL}
use Rattle.notation.specs.Refusals.{Outcome, refusal, result, ◌>>=◌}
use Rattle.notation.specs.Meaning.{step_of}
use Rattle.notation.specs.Print.{put_step}
use Rattle.notation.specs.Unroll.{copies}
use Rattle.notation.specs.Entries.{reading, inverse, deep_inverse, steps}
use Rattle.notation.specs.Marked.{ascii, as_listed, step_count}
use Rattle.notation.proofs.Opened.{opened}
use Rattle.notation.proofs.Examples.Inverses.{deep}

-- the steps of a tree, printed
abbrev played : List ℕ → List ℕ → Outcome (List (List ℕ))
played text tree = do
  l ← steps text tree
  result (map (λ x. put_step (step_of text x) []) l)

abbrev shallow_view : String → Outcome (List (List ℕ))
shallow_view s = do
  tree ← reading MAXIMAL (ascii s)
  inverted ← inverse (ascii s) tree
  played (ascii s) inverted

abbrev deep_view : String → Outcome (List (List ℕ))
deep_view s = do
  text' ← deep s
  tree' ← reading MAXIMAL text'
  played text' tree'

-- a text, its deep inverse printed, and the steps that both views show
abbrev Views : String → String → List String → Type 0
Views s inverted l = (deep s ≡ result (ascii inverted)) × (shallow_view s ≡ as_listed l) × (deep_view s ≡ as_listed l)

-- the multiplier of a group keeps its sign, and the quote moves inside
conjugate : Views "[R: U]" "[R: U']" ("R" ∷ "U'" ∷ "R'" ∷ [])
unfolding opened copies
conjugate = (refl, refl, refl)

commutator : Views "[R, U]'" "[U, R]'" ("R" ∷ "U" ∷ "R'" ∷ "U'" ∷ [])
unfolding opened copies
commutator = (refl, refl, refl)

-- signs and repeats through the depth of nesting, and what is played 0 times
nested : Views "((R U)' ((F)2')')2" "(((F')2')' (U' R')')2" ("F'" ∷ "F'" ∷ "R" ∷ "U" ∷ "F'" ∷ "F'" ∷ "R" ∷ "U" ∷ [])
    × Views "[(R U)': [F: D]2]'" "[(R U)': [F: D']2]'" ("U'" ∷ "R'" ∷ "F" ∷ "D" ∷ "F'" ∷ "F" ∷ "D" ∷ "F'" ∷ "R" ∷ "U" ∷ [])
    × Views "[[R, U], F]'" "[F, [R, U]]'" ("R" ∷ "U" ∷ "R'" ∷ "U'" ∷ "F" ∷ "U" ∷ "R" ∷ "U'" ∷ "R'" ∷ "F'" ∷ [])
    × Views "(R)0 [U2, F0]' ." ". [F0, U2]' (R')0" ("." ∷ "U2" ∷ "F0" ∷ "U2'" ∷ "F0" ∷ [])
unfolding opened copies
nested = ((refl, refl, refl), (refl, refl, refl), (refl, refl, refl), (refl, refl, refl))

-- A list that is entered is inverted also where it is never played, so these texts unroll and have a shallow inverse but no deep one;
refused : (map step_count ("(^(R))0 U" ∷ "((-2147483648,0))0 U" ∷ []) ≡ result 1 ∷ result 1 ∷ [])
    × (map shallow_view ("(^(R))0 U" ∷ "((-2147483648,0))0 U" ∷ []) ≡ as_listed ("U'" ∷ []) ∷ as_listed ("U'" ∷ []) ∷ [])
    × (map deep ("(^(R))0 U" ∷ "((-2147483648,0))0 U" ∷ []) ≡ refusal 7 ∷ refusal 8 ∷ [])
unfolding opened copies
refused = (refl, refl, refl)

-- in these the lists that would refuse are not entered.
not_entered : Views "([^(R): U])0 F" "F' ([^(R): U'])0" ("F'" ∷ [])
    × Views "([(-2147483648,0), R])0 U" "U' ([R, (-2147483648, 0)])0" ("U'" ∷ [])
unfolding opened copies
not_entered = ((refl, refl, refl), (refl, refl, refl))

-- the second deep inverse has the records of the tree, stored step counts included
abbrev twice : String → Outcome (List ℕ)
twice s = do
  tree ← reading MAXIMAL (ascii s)
  inverted ← deep_inverse (ascii s) tree
  deep_inverse (ascii s) inverted

back : map twice ("[[R, U2]3: (F D')2'] (. / (1,-2) D++ @)0" ∷ "" ∷ [])
    ≡ map (λ s. reading MAXIMAL (ascii s)) ("[[R, U2]3: (F D')2'] (. / (1,-2) D++ @)0" ∷ "" ∷ [])
unfolding opened
back = refl
