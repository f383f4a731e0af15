-- Unrolling without refusals, and the first refusal apart: `flatten-is` (proofs/Unrolling) says that the rule of specs/Unroll is
-- the two together.
use Rattle.std.specs.Prelude.{ℕ, zero, suc, Bool, true, false, ◌&&◌, List, [], ◌∷◌, ◌++◌, map, reverse, nat_abs}
use Rattle.std.proofs.Math.Option.{Option, none, some}
use Rattle.notation.specs.Basics.{pick}
use Rattle.notation.specs.Refusals.{NISS, OVERFLOW}
use Rattle.notation.specs.Tree.{Leaf, Node, leaf, block, Body, group, binary_group, NodeList, nil, cons, Tree}
use Rattle.notation.specs.Invert.{undo, overflows}
use Rattle.notation.specs.Counts.{times}
use Rattle.notation.specs.Unroll.{copies, turned, is_niss}
use Rattle.notation.specs.declared.common.BinaryGroupKind.{BinaryGroupKind}
use Rattle.notation.specs.declared.common.BinaryGroupKind.TheVariants.{Commutator, Conjugate}

-- a list reversed, each step undone
abbrev pub backwards : List Leaf → List Leaf
backwards l = reverse (map undo l)

-- The walk without refusals. A step that is undone is undone whatever its numbers, and a NISS group gives no steps.
abbrev pub flat_binary : {L : Type 0} → BinaryGroupKind → Bool → (Bool → List L) → (Bool → List L) → List L
flat_binary Commutator false a b = a false ++ (b false ++ (a true ++ b true))
flat_binary Commutator true a b = b false ++ (a false ++ (b true ++ a true))
flat_binary Conjugate inverted a b = a false ++ (b inverted ++ a true)

abbrev pub in_order : {L : Type 0} → Bool → List L → List L → List L
in_order false a b = a ++ b
in_order true a b = b ++ a

unfoldable mutual
  pub flat_node : {L : Type 0} → (L → L) → Bool → Node L → List L
  flat_node undo inverted (leaf x) = pick inverted (undo x) x ∷ []
  flat_node undo inverted (block b m) = copies (times b m) (flat_body undo (turned m inverted) b)

  pub flat_body : {L : Type 0} → (L → L) → Bool → Body L → List L
  flat_body undo inverted (group k a) = flat undo inverted a
  flat_body undo inverted (binary_group k a b) = flat_binary k inverted (λ d. flat undo d a) (λ d. flat undo d b)

  pub flat : {L : Type 0} → (L → L) → Bool → NodeList L → List L
  flat undo inverted nil = []
  flat undo inverted (cons n l) = in_order inverted (flat_node undo inverted n) (flat undo inverted l)

-- The first refusal that the walk meets.
abbrev pub first : Option ℕ → Option ℕ → Option ℕ
first none q = q
first (some r) q = some r

abbrev pub if_reached : ℕ → Option ℕ → Option ℕ
if_reached zero q = none
if_reached (suc n) q = q

abbrev pub refusal_binary : BinaryGroupKind → Bool → (Bool → Option ℕ) → (Bool → Option ℕ) → Option ℕ
refusal_binary Commutator false a b = first (a false) (first (b false) (first (a true) (b true)))
refusal_binary Commutator true a b = first (b false) (first (a false) (first (b true) (a true)))
refusal_binary Conjugate inverted a b = first (a false) (first (b inverted) (a true))

abbrev pub first_in_order : Bool → Option ℕ → Option ℕ → Option ℕ
first_in_order false a b = first a b
first_in_order true a b = first b a

unfoldable mutual
  pub refusal_node : Bool → Node Leaf → Option ℕ
  refusal_node inverted (leaf x) = pick (inverted && overflows x) (some OVERFLOW) none
  refusal_node inverted (block b m) = pick (is_niss b) (some NISS) (if_reached (nat_abs m) (refusal_body (turned m inverted) b))

  pub refusal_body : Bool → Body Leaf → Option ℕ
  refusal_body inverted (group k a) = first_refusal inverted a
  refusal_body inverted (binary_group k a b) = refusal_binary k inverted (λ d. first_refusal d a) (λ d. first_refusal d b)

  pub first_refusal : Bool → Tree → Option ℕ
  first_refusal inverted nil = none
  first_refusal inverted (cons n l) = first_in_order inverted (refusal_node inverted n) (first_refusal inverted l)

-- a step, undone or not
abbrev pub undo_if : Bool → Option Leaf → Option Leaf
undo_if inverted none = none
undo_if inverted (some x) = some (pick inverted (undo x) x)
