-- What a fold over an unrolled list comes to, by the tree and without unrolling it: `fold_is` (proofs/Folds) says that it is that fold.
-- A list is what it makes of the state that it is given, in either direction.
use Rattle.std.specs.Prelude.{ℕ, zero, suc, Bool, true, false}
use Rattle.notation.specs.Basics.{pick}
use Rattle.notation.specs.Tree.{Node, leaf, block, Body, group, binary_group, NodeList, nil, cons}
use Rattle.notation.specs.Counts.{times}
use Rattle.notation.specs.Unroll.{turned}
use Rattle.notation.specs.declared.common.BinaryGroupKind.{BinaryGroupKind}
use Rattle.notation.specs.declared.common.BinaryGroupKind.TheVariants.{Commutator, Conjugate}

-- one change of the state, then another
infixr 30 ◌before◌
abbrev pub ◌before◌ : {S : Type 0} → (S → S) → (S → S) → S → S
◌before◌ f g s = g (f s)

-- a change of the state made n times
unfoldable pub again : {S : Type 0} → ℕ → (S → S) → S → S
again zero f s = s
again (suc n) f s = again n f (f s)

-- A B A' B', inverted B A B' A'; A B A', inverted A B' A'
abbrev pub fold_binary : {S : Type 0} → BinaryGroupKind → Bool → (Bool → S → S) → (Bool → S → S) → S → S
fold_binary Commutator false a b = a false before b false before a true before b true
fold_binary Commutator true a b = b false before a false before b true before a true
fold_binary Conjugate inverted a b = a false before b inverted before a true

abbrev pub fold_in_order : {S : Type 0} → Bool → (S → S) → (S → S) → S → S
fold_in_order false a b = a before b
fold_in_order true a b = b before a

unfoldable mutual
  pub fold_node : {L S : Type 0} → (S → L → S) → (L → L) → Bool → Node L → S → S
  fold_node f undo inverted (leaf x) = λ s. f s (pick inverted (undo x) x)
  fold_node f undo inverted (block b m) = again (times b m) (fold_body f undo (turned m inverted) b)

  pub fold_body : {L S : Type 0} → (S → L → S) → (L → L) → Bool → Body L → S → S
  fold_body f undo inverted (group k a) = fold_nodes f undo inverted a
  fold_body f undo inverted (binary_group k a b) = fold_binary k inverted (λ d. fold_nodes f undo d a) (λ d. fold_nodes f undo d b)

  pub fold_nodes : {L S : Type 0} → (S → L → S) → (L → L) → Bool → NodeList L → S → S
  fold_nodes f undo inverted nil = λ s. s
  fold_nodes f undo inverted (cons n l) = fold_in_order inverted (fold_node f undo inverted n) (fold_nodes f undo inverted l)
