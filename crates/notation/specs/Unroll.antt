-- Unrolling (expand.rs and `flatten`), and with it counting and seeking: both go by the unrolled list, which may be very long.
use Rattle.std.specs.Prelude.{ℕ, zero, suc, Bool, true, false, not, List, [], ◌∷◌, ◌++◌, ℤ, pos, negsuc, nat_abs}
use Rattle.notation.specs.Basics.{pick}
use Rattle.notation.specs.Refusals.{Outcome, refusal, result, ◌>>=◌, NISS}
use Rattle.notation.specs.Tree.{Leaf, Node, leaf, block, Body, group, binary_group, NodeList, nil, cons, Tree}
use Rattle.notation.specs.Invert.{undone}
use Rattle.notation.specs.declared.common.GroupKind.TheVariants.{Simple, Macro, Simultaneous, Niss}
use Rattle.notation.specs.declared.common.BinaryGroupKind.{BinaryGroupKind}
use Rattle.notation.specs.declared.common.BinaryGroupKind.TheVariants.{Commutator, Conjugate}

-- Nodes over any leaves that can be undone, or refuse to be. The document's direction is a Bool: `true` is inverted.
abbrev pub Steps : Type 0 → Type 0
Steps L = Outcome (List L)

-- the steps of one, then those of another; the first refusal is the one met first
infixr 30 ◌then◌
abbrev pub ◌then◌ : {L : Type 0} → Steps L → Steps L → Steps L
◌then◌ p q = do a ← p; b ← q; result (a ++ b)

-- n copies of a list
unfoldable pub copies : {A : Type 0} → ℕ → List A → List A
copies zero l = []
copies (suc n) l = l ++ copies n l

-- contents repeated; those of multiplier 0 are never reached
abbrev pub repeated : {L : Type 0} → ℕ → Steps L → Steps L
repeated zero p = result []
repeated (suc n) (refusal r) = refusal r
repeated (suc n) (result l) = result (copies (suc n) l)

-- a negative multiplier turns the direction round
abbrev pub turned : ℤ → Bool → Bool
turned (pos n) inverted = inverted
turned (negsuc n) inverted = not inverted

-- each list in either direction: A B A' B', inverted B A B' A'; A B A', inverted A B' A'
abbrev pub flatten_binary : {L : Type 0} → BinaryGroupKind → Bool → (Bool → Steps L) → (Bool → Steps L) → Steps L
flatten_binary Commutator false a b = a false then b false then a true then b true
flatten_binary Commutator true a b = b false then a false then b true then a true
flatten_binary Conjugate inverted a b = a false then b inverted then a true

abbrev pub is_niss : {L : Type 0} → Body L → Bool
is_niss (group Niss a) = true
is_niss (group Simple a) = false
is_niss (group Macro a) = false
is_niss (group Simultaneous a) = false
is_niss (binary_group k a b) = false

abbrev pub in_direction : {L : Type 0} → Bool → Steps L → Steps L → Steps L
in_direction false first rest = first then rest
in_direction true first rest = rest then first

abbrev pub flatten_leaf : {L : Type 0} → (L → Outcome L) → Bool → L → Steps L
flatten_leaf undone false x = result (x ∷ [])
flatten_leaf undone true x = do x' ← undone x; result (x' ∷ [])

unfoldable mutual
  -- a NISS group that is reached is refused even at multiplier 0
  pub flatten_node : {L : Type 0} → (L → Outcome L) → Bool → Node L → Steps L
  flatten_node undone inverted (leaf x) = flatten_leaf undone inverted x
  flatten_node undone inverted (block b m) =
      pick (is_niss b) (refusal NISS) (repeated (nat_abs m) (flatten_body undone (turned m inverted) b))

  pub flatten_body : {L : Type 0} → (L → Outcome L) → Bool → Body L → Steps L
  flatten_body undone inverted (group k a) = flatten_nodes undone inverted a
  flatten_body undone inverted (binary_group k a b) = flatten_binary k inverted (λ d. flatten_nodes undone d a) (λ d. flatten_nodes undone d b)

  pub flatten_nodes : {L : Type 0} → (L → Outcome L) → Bool → NodeList L → Steps L
  flatten_nodes undone inverted nil = result []
  flatten_nodes undone inverted (cons n l) = in_direction inverted (flatten_node undone inverted n) (flatten_nodes undone inverted l)

-- the unrolled list of a tree
abbrev pub flatten : Tree → Steps Leaf
flatten t = flatten_nodes undone false t
