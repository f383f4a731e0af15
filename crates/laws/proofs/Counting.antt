-- Counting without unrolling, by multiplication: what a record stores is the capped length of what its node unrolls into. Assumes nothing.
use Prim.Native.Nat.{ℕ, zero, suc, ◌+◌, ◌*◌, ◌≤◌, ◌<◌}
use mathlib.Core.Path.{◌≡◌, refl, sym, ap, ap₂, ◌∙◌}
use mathlib.Core.Bool.{Bool, true, false}
use mathlib.Core.List.{List, [], ◌∷◌}
use mathlib.Core.Option.{Option, none, some}
use native.Mathlib.Nat.{zero-mul}
use native.Mathlib.Omega.{arith}
use borrow.Author.Tests.{leb-true, leb-false}
use lib.Dec.{leb}
use lib.ListN.{length}
use Rattle.notation.specs.Refusals.{result}
use Rattle.notation.specs.Tree.{Leaf, Node, leaf, block, Body, group, binary_group, NodeList, nil, cons, Tree}
use Rattle.notation.specs.Invert.{undo, undone}
use Rattle.notation.specs.Unroll.{flatten_node}
use Rattle.notation.specs.Counts.{CAP, cap, times, count_binary, count_node, count_body, count, stored}
use Rattle.notation.specs.declared.common.BinaryGroupKind.{BinaryGroupKind}
use Rattle.notation.specs.declared.common.BinaryGroupKind.TheVariants.{Commutator, Conjugate}
use Rattle.laws.proofs.Bools.{no-refusal}
use Rattle.laws.specs.Unrolled.{flat_node, flat_body, flat, refusal_node}
use Rattle.notation.specs.Basics.{total}
use Rattle.laws.specs.Weights.{weight_node, weight_body, weight}
use Rattle.laws.proofs.Unrolling.{verdict, flatten_node-is}
use Rattle.laws.proofs.Weights.{weight_node-is, weight_body-is, weight_is}

-- The count is the weight 1.
pub total-one : {L : Type 0} (l : List L) → total (λ x. 1) l ≡ length l
unfolding total
total-one [] = refl
total-one (x ∷ l) = omega (arith, total-one l)

mutual
  unfolding count_node count_body count weight_node weight_body weight

  pub weight_node-one : {L : Type 0} (n : Node L) → weight_node (λ x. 1) n ≡ count_node n
  weight_node-one (leaf x) = refl
  weight_node-one (block b m) = ap (λ (c : ℕ). times b m * c) (weight_body-one b)

  pub weight_body-one : {L : Type 0} (b : Body L) → weight_body (λ x. 1) b ≡ count_body b
  weight_body-one (group k a) = weight-one a
  weight_body-one (binary_group k a b) = ap₂ (count_binary k) (weight-one a) (weight-one b)

  pub weight-one : {L : Type 0} (t : NodeList L) → weight (λ x. 1) t ≡ count t
  weight-one nil = refl
  weight-one (cons n l) = ap₂ (λ (a b : ℕ). a + b) (weight_node-one n) (weight-one l)

-- The number of steps is the same in both directions, whatever the steps are.
module _ {L : Type 0} (undo : L → L) where
  pub length-flat_node : (n : Node L) (d : Bool) → length (flat_node undo d n) ≡ count_node n
  length-flat_node n d = sym (total-one (flat_node undo d n)) ∙ weight_node-is undo (λ x. 1) (λ x. refl) n d ∙ weight_node-one n

  pub length-flat_body : (b : Body L) (d : Bool) → length (flat_body undo d b) ≡ count_body b
  length-flat_body b d = sym (total-one (flat_body undo d b)) ∙ weight_body-is undo (λ x. 1) (λ x. refl) b d ∙ weight_body-one b

  pub length-flat : (t : NodeList L) (d : Bool) → length (flat undo d t) ≡ count t
  length-flat t d = sym (total-one (flat undo d t)) ∙ weight_is undo (λ x. 1) (λ x. refl) t d ∙ weight-one t

  -- so a node that counts 0 has none
  pub none-counted : (n : Node L) (d : Bool) → count_node n ≡ 0 → flat_node undo d n ≡ []
  none-counted n d e = go (flat_node undo d n) (length-flat_node n d ∙ e)
    where
      go : (l : List L) → length l ≡ 0 → l ≡ []
      go [] h = refl
      go (x ∷ l) h = absurd (omega arith)

-- The same of the leaves of a record.
pub count_node-is : (n : Node Leaf) (d : Bool) → length (flat_node undo d n) ≡ count_node n
count_node-is n d = length-flat_node undo n d

pub count_body-is : (b : Body Leaf) (d : Bool) → length (flat_body undo d b) ≡ count_body b
count_body-is b d = length-flat_body undo b d

pub count-is : (t : Tree) (d : Bool) → length (flat undo d t) ≡ count t
count-is t d = length-flat undo t d

-- Capped sums and products come to what capping the whole comes to.
pub cap-times : (n c : ℕ) → cap (n * cap c) ≡ cap (n * c)
cap-times zero c = rw (zero-mul (cap c), zero-mul c)
cap-times (suc k) c = go (leb c CAP) refl
  where
    go : (b : Bool) → leb c CAP ≡ b → cap (suc k * cap c) ≡ cap (suc k * c)
    go true e =
        let h : c ≤ CAP = leb-true c CAP e in
        let m : cap c ≡ c = omega arith in
        rw m
    go false e =
        let h : CAP < c = leb-false c CAP e in
        let m : cap c ≡ CAP = omega arith in
        rw m (omega arith)

pub cap-binary : (k : BinaryGroupKind) (a b : ℕ) → cap (count_binary k (cap a) (cap b)) ≡ cap (count_binary k a b)
cap-binary Commutator a b = omega arith
cap-binary Conjugate a b = omega arith

-- The law of the field: whichever way the node is walked, it is the capped length of the plain list. Where the node unrolls that is the unrolled list;
-- where it does not, the list without what NISS groups hold, each step that cannot be undone still being one.
pub stored_is : (n : Node Leaf) (d : Bool) → stored n ≡ cap (length (flat_node undo d n))
stored_is n d = ap cap (sym (count_node-is n d))

pub stored-unrolled : (n : Node Leaf) (d : Bool) (l : List Leaf) → flatten_node undone d n ≡ result l → stored n ≡ cap (length l)
stored-unrolled n d l e = stored_is n d ∙ ap (λ (s : List Leaf). cap (length s)) (unrolls (refusal_node d n) (sym (flatten_node-is n d) ∙ e))
  where
    unrolls : (r : Option ℕ) → verdict r (flat_node undo d n) ≡ result l → flat_node undo d n ≡ l
    unrolls none h = cc
    unrolls (some r) h = no-refusal h

-- so a node that stores 0 has no steps
pub stored-none : (n : Node Leaf) (d : Bool) → stored n ≡ 0 → flat_node undo d n ≡ []
stored-none n d e = none-counted undo n d (omega arith)
