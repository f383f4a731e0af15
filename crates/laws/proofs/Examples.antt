-- Closed examples that pin the definitions of specs/Weights, specs/Folds and specs/Opened, over numbers as leaves. Assumes nothing.
use Prim.Native.Nat.{ℕ, ◌+◌}
use mathlib.Core.Path.{◌≡◌, refl}
use mathlib.Core.Bool.{true, false}
use mathlib.Core.List.{List, [], ◌∷◌, ◌++◌}
use lib.IntN.{pos, negsuc}
use Rattle.notation.specs.Refusals.{refusal, result, OVERFLOW}
use Rattle.notation.specs.Tree.{Leaf, pair, Node, leaf, block, Body, group, binary_group, NodeList, nil, cons, append, Tree}
use Rattle.notation.specs.Unroll.{copies, flatten_node, flatten_body, flatten_nodes, flatten}
use Rattle.notation.specs.Counts.{count_node, count_body, count}
use Rattle.notation.specs.declared.common.GroupKind.TheVariants.{Simple, Niss}
use Rattle.notation.specs.declared.common.BinaryGroupKind.TheVariants.{Commutator, Conjugate}
use Rattle.notation.specs.Basics.{total}
use Rattle.laws.specs.Weights.{weight_node, weight_body, weight}
use Rattle.laws.specs.Folds.{again, fold_node, fold_body, fold_nodes}
use Rattle.laws.specs.Opened.{played_node, played_body, played, opened}

-- [1 2, 3]2' (4)0 ((4)0)3 ^(5)3 [6: 7]' 8
abbrev one : ℕ → NodeList ℕ
one x = cons (leaf x) nil

abbrev never : Node ℕ
never = block (group Simple (one 4)) (pos 0)

abbrev commutator : Body ℕ
commutator = binary_group Commutator (cons (leaf 1) (one 2)) (one 3)

abbrev behind : NodeList ℕ
behind =
    cons never (cons (block (group Simple (cons never nil)) (pos 3)) (cons (block (group Niss (one 5)) (pos 3))
    (cons (block (binary_group Conjugate (one 6) (one 7)) (negsuc 0)) (one 8))))

abbrev tree : NodeList ℕ
tree = cons (block commutator (negsuc 1)) behind

-- each leaf by its own number: twice 2 (3 + 3), 2 6 + 7, and 8
weighs : (total (λ x. x) (1 ∷ 2 ∷ 3 ∷ []) ≡ 6) × (weight (λ x. x) tree ≡ 51)
unfolding total weight_node weight_body weight
weighs = (refl, refl)

-- The fold that builds the list, where undoing adds 100: B A B' A' twice, A B' A' and 8; inverted 8', A B A' and A B A' B' twice.
abbrev listed : List ℕ → ℕ → List ℕ
listed l x = l ++ (x ∷ [])

folds : (fold_nodes listed (λ x. x + 100) false tree []
    ≡ 3 ∷ 1 ∷ 2 ∷ 103 ∷ 102 ∷ 101 ∷ 3 ∷ 1 ∷ 2 ∷ 103 ∷ 102 ∷ 101 ∷ 6 ∷ 107 ∷ 106 ∷ 8 ∷ [])
    × (fold_nodes listed (λ x. x + 100) true tree []
    ≡ 108 ∷ 6 ∷ 7 ∷ 106 ∷ 1 ∷ 2 ∷ 3 ∷ 102 ∷ 101 ∷ 103 ∷ 1 ∷ 2 ∷ 3 ∷ 102 ∷ 101 ∷ 103 ∷ [])
unfolding again fold_node fold_body fold_nodes
folds = (refl, refl)

-- what counts 0 is not played, be it by its own multiplier, by what it holds, or as a NISS group
plays : played tree ≡ 1 ∷ 2 ∷ 3 ∷ 6 ∷ 7 ∷ 8 ∷ []
unfolding played_node played_body played count_node count_body count
plays = refl

opens : opened commutator behind ≡ cons (leaf 1) (cons (leaf 2) (cons (leaf 3) behind))
unfolding append
opens = refl

-- why the laws of opened lists are said over `flat`: (((-2147483648,0))')' unrolls, and what it is opened to is refused 8
abbrev least : Leaf
least = pair (negsuc 2147483647) (pos 0)

abbrev undone_once : Tree
undone_once = cons (block (group Simple (cons (leaf least) nil)) (negsuc 0)) nil

refused : (flatten (cons (block (group Simple undone_once) (negsuc 0)) nil) ≡ result (least ∷ []))
    × (flatten (opened (group Simple undone_once) nil) ≡ refusal OVERFLOW)
unfolding copies flatten_node flatten_body flatten_nodes append
refused = (refl, refl)
