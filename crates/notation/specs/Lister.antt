-- The lister program: the bytes that it writes for the bytes that it reads.
use Rattle.std.specs.Prelude.{ℕ, zero, suc, List, [], ◌∷◌, ◌++◌, leb, length, take, drop}
use Prim.Native.Char.{code}
use Rattle.notation.specs.Basics.{pick, choose, same_list}
use Rattle.notation.specs.Features.{WCA, MAXIMAL}
use Rattle.notation.specs.Numbers.{show}
use Rattle.notation.specs.Refusals.{Outcome, refusal, result, ◌>>=◌}
use Rattle.notation.specs.Tree.{Leaf}
use Rattle.notation.specs.Meaning.{step_of}
use Rattle.notation.specs.Print.{put, put_step}
use Rattle.notation.specs.Entries.{reading, inverse, display, steps}
use Rattle.notation.specs.declared.features.Features.{Features}

abbrev pub SPACE : ℕ
SPACE = code " "

abbrev pub NEWLINE : ℕ
NEWLINE = 10

-- label or place, one space, the field and a newline
abbrev pub line : List ℕ → List ℕ → List ℕ → List ℕ
line label field rest = label ++ (SPACE ∷ (field ++ (NEWLINE ∷ rest)))

abbrev pub field : Outcome (List ℕ) → List ℕ
field (refusal r) = put "refused " (show r [])
field (result l) = l

-- so many steps are listed
abbrev pub SHOWN : ℕ
SHOWN = 1000

-- place and step for the first m
unfoldable pub step_lines : List ℕ → ℕ → ℕ → List Leaf → List ℕ
step_lines text zero k l = []
step_lines text (suc m) k [] = []
step_lines text (suc m) k (x ∷ l) = line (show k []) (put_step (step_of text x) []) (step_lines text m (suc k) l)

abbrev pub steps_part : List ℕ → Outcome (List Leaf) → List ℕ
steps_part text (refusal r) = line (put "steps" []) (field (refusal r)) []
steps_part text (result l) = line (put "steps" []) (show (length l) []) (step_lines text SHOWN 0 l)

abbrev pub tree_part : List ℕ → Outcome (List ℕ) → List ℕ
tree_part text (refusal r) = line (put "text" []) (field (refusal r)) []
tree_part text (result tree) =
    line (put "text" []) (field (display text tree))
    (line (put "inverse" []) (field (do t ← inverse text tree; display text t))
    (steps_part text (steps text tree)))

-- so many bytes of text are listed
abbrev pub MAX-INPUT : ℕ
MAX-INPUT = 3072

abbrev pub listing : Features → List ℕ → List ℕ
listing f text = pick (leb (length text) MAX-INPUT) (tree_part text (reading f text)) (put "refused input\n" [])

unfoldable pub lister : List ℕ → List ℕ
lister input =
    choose (same_list (take 2 input) (put "w\n" [])) (λ _. listing WCA (drop 2 input))
    (λ _. choose (same_list (take 2 input) (put "m\n" [])) (λ _. listing MAXIMAL (drop 2 input)) (λ _. put "refused input\n" []))
