-- Both inverses without refusals, and the first refusal of each apart: `inv-is` and `inv_deep-is` (proofs/Inverses) say that the
-- rules of specs/Invert are the two together.
use Rattle.std.specs.Prelude.{ℕ, neg_ℤ}
use Rattle.std.proofs.Math.Option.{Option, none, some}
use Rattle.notation.specs.Basics.{pick}
use Rattle.notation.specs.Refusals.{NISS, OVERFLOW}
use Rattle.notation.specs.Tree.{Leaf, Node, leaf, block, Body, group, binary_group, nil, cons, append, Tree}
use Rattle.notation.specs.Invert.{undo, overflows}
use Rattle.notation.specs.declared.common.GroupKind.{GroupKind}
use Rattle.notation.specs.declared.common.GroupKind.TheVariants.{Simple, Macro, Simultaneous, Niss}
use Rattle.notation.specs.declared.common.BinaryGroupKind.{BinaryGroupKind}
use Rattle.notation.specs.declared.common.BinaryGroupKind.TheVariants.{Commutator, Conjugate}
use Rattle.laws.specs.Unrolled.{first}

-- The shallow inverse without refusals.
abbrev pub inverted_node : Node Leaf → Node Leaf
inverted_node (leaf x) = leaf (undo x)
inverted_node (block b m) = block b (neg_ℤ m)

unfoldable pub inverted : Tree → Tree
inverted nil = nil
inverted (cons n l) = append (inverted l) (cons (inverted_node n) nil)

abbrev pub leaf_refusal : Leaf → Option ℕ
leaf_refusal x = pick (overflows x) (some OVERFLOW) none

abbrev pub inv_refusal_node : Node Leaf → Option ℕ
inv_refusal_node (leaf x) = leaf_refusal x
inv_refusal_node (block b m) = none

unfoldable pub inv_refusal : Tree → Option ℕ
inv_refusal nil = none
inv_refusal (cons n l) = first (inv_refusal l) (inv_refusal_node n)

-- The deep inverse without refusals.
abbrev pub deep_body : BinaryGroupKind → Tree → Tree → Tree → Body Leaf
deep_body Commutator a b b' = binary_group Commutator b a
deep_body Conjugate a b b' = binary_group Conjugate a b'

unfoldable mutual
  pub deeply_node : Node Leaf → Node Leaf
  deeply_node (leaf x) = leaf (undo x)
  deeply_node (block b m) = block (deeply_body b) m

  pub deeply_body : Body Leaf → Body Leaf
  deeply_body (group k a) = group k (deeply a)
  deeply_body (binary_group k a b) = deep_body k a b (deeply b)

  pub deeply : Tree → Tree
  deeply nil = nil
  deeply (cons n l) = append (deeply l) (cons (deeply_node n) nil)

abbrev pub niss_first : GroupKind → Option ℕ → Option ℕ
niss_first Niss q = some NISS
niss_first Simple q = q
niss_first Macro q = q
niss_first Simultaneous q = q

abbrev pub conjugate_only : BinaryGroupKind → Option ℕ → Option ℕ
conjugate_only Commutator q = none
conjugate_only Conjugate q = q

unfoldable mutual
  pub deep_refusal_node : Node Leaf → Option ℕ
  deep_refusal_node (leaf x) = leaf_refusal x
  deep_refusal_node (block b m) = deep_refusal_body b

  pub deep_refusal_body : Body Leaf → Option ℕ
  deep_refusal_body (group k a) = niss_first k (deep_refusal a)
  deep_refusal_body (binary_group k a b) = conjugate_only k (deep_refusal b)

  pub deep_refusal : Tree → Option ℕ
  deep_refusal nil = none
  deep_refusal (cons n l) = first (deep_refusal l) (deep_refusal_node n)
