-- Weights: the sum of a weight over an unrolled list is what multiplication gives, for every weight that undoing keeps. Assumes nothing.
use Prim.Native.Nat.{ℕ, zero, suc, ◌+◌, ◌*◌, ◌≤◌}
use mathlib.Core.Path.{◌≡◌, refl, sym, ap, ap₂, ◌∙◌}
use mathlib.Core.Bool.{Bool, true, false}
use mathlib.Core.List.{List, [], ◌∷◌, ◌++◌}
use native.Mathlib.Nat.{zero-mul, mul-le-mul_left}
use native.Mathlib.Omega.{arith}
use Rattle.notation.specs.Basics.{pick, total}
use Rattle.notation.specs.Tree.{Node, leaf, block, Body, group, binary_group, NodeList, nil, cons}
use Rattle.notation.specs.Counts.{times, count_binary}
use Rattle.notation.specs.Unroll.{copies, turned}
use Rattle.notation.specs.declared.common.BinaryGroupKind.{BinaryGroupKind}
use Rattle.notation.specs.declared.common.BinaryGroupKind.TheVariants.{Commutator, Conjugate}
use Rattle.laws.specs.Unrolled.{in_order, flat_binary, flat_node, flat_body, flat}
use Rattle.laws.specs.Weights.{weight_node, weight_body, weight}

-- Sums over lists.
module _ {L : Type 0} (w : L → ℕ) where
  pub total-append : (a b : List L) → total w (a ++ b) ≡ total w a + total w b
  unfolding total
  total-append [] b = omega arith
  total-append (x ∷ a) b = omega (arith, total-append a b)

  pub total-copies : (n : ℕ) (l : List L) → total w (copies n l) ≡ n * total w l
  unfolding total copies
  total-copies zero l = sym (zero-mul _)
  total-copies (suc n) l = total-append l (copies n l) ∙ omega (arith, total-copies n l)

  total-order : (d : Bool) (a b : List L) → total w (in_order d a b) ≡ total w a + total w b
  total-order true a b = total-append b a ∙ omega arith
  total-order false a b = total-append a b

  total-binary : (k : BinaryGroupKind) (d : Bool) (a b : Bool → List L) (m n : ℕ) →
      ((e : Bool) → total w (a e) ≡ m) → ((e : Bool) → total w (b e) ≡ n) → total w (flat_binary k d a b) ≡ count_binary k m n
  total-binary Commutator false a b m n p q = simp (total-append, p false, q false, p true, q true) (omega arith)
  total-binary Commutator true a b m n p q = simp (total-append, p false, q false, p true, q true) (omega arith)
  total-binary Conjugate d a b m n p q = simp (total-append, p false, q d, p true) (omega arith)

-- The sum is the same in both directions.
module _ {L : Type 0} (undo : L → L) (w : L → ℕ) (keeps : (x : L) → w (undo x) ≡ w x) where
  leaf-weight : (d : Bool) (x : L) → total w (pick d (undo x) x ∷ []) ≡ w x
  unfolding total
  leaf-weight true x = omega (arith, keeps x)
  leaf-weight false x = omega arith

  mutual
    unfolding weight_node weight_body weight flat_node flat_body flat total

    pub weight_node-is : (n : Node L) (d : Bool) → total w (flat_node undo d n) ≡ weight_node w n
    weight_node-is (leaf x) d = leaf-weight d x
    weight_node-is (block b m) d =
        total-copies w (times b m) (flat_body undo (turned m d) b) ∙ ap (λ (c : ℕ). times b m * c) (weight_body-is b (turned m d))

    pub weight_body-is : (b : Body L) (d : Bool) → total w (flat_body undo d b) ≡ weight_body w b
    weight_body-is (group k a) d = weight_is a d
    weight_body-is (binary_group k a b) d =
        total-binary w k d (λ e. flat undo e a) (λ e. flat undo e b) (weight w a) (weight w b) (λ e. weight_is a e) (λ e. weight_is b e)

    pub weight_is : (t : NodeList L) (d : Bool) → total w (flat undo d t) ≡ weight w t
    weight_is nil d = refl
    weight_is (cons n l) d =
        total-order w d (flat_node undo d n) (flat undo d l) ∙ ap₂ (λ (a b : ℕ). a + b) (weight_node-is n d) (weight_is l d)

-- A weight that is nowhere more than another weighs no more.
binary-most : (k : BinaryGroupKind) (a b c d : ℕ) → a ≤ c → b ≤ d → count_binary k a b ≤ count_binary k c d
binary-most Commutator a b c d p q = omega arith
binary-most Conjugate a b c d p q = omega arith

module _ {L : Type 0} (w v : L → ℕ) (most : (x : L) → w x ≤ v x) where
  mutual
    unfolding weight_node weight_body weight

    pub weight_node-most : (n : Node L) → weight_node w n ≤ weight_node v n
    weight_node-most (leaf x) = most x
    weight_node-most (block b m) = mul-le-mul_left (times b m) (weight_body-most b)

    pub weight_body-most : (b : Body L) → weight_body w b ≤ weight_body v b
    weight_body-most (group k a) = weight-most a
    weight_body-most (binary_group k a b) = binary-most k (weight w a) (weight w b) (weight v a) (weight v b) (weight-most a) (weight-most b)

    pub weight-most : (t : NodeList L) → weight w t ≤ weight v t
    weight-most nil = omega arith
    weight-most (cons n l) = omega (arith, weight_node-most n, weight-most l)
