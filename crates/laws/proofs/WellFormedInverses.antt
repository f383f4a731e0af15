-- The inverses of a well-formed tree are well formed over the same text: leaves and multipliers stay in bounds, sizes, nesting and step counts
-- stay as they are. Leaves that do not overflow keep fitting their records. Assumes nothing.
use Prim.Native.Nat.{ℕ, suc, ◌+◌, ◌*◌, ◌<◌, max}
use mathlib.Core.Path.{◌≡◌, refl, ap, ap₂, ◌∙◌}
use mathlib.Core.Bool.{Bool, true, false, ◌&&◌}
use mathlib.Core.List.{List}
use native.Mathlib.Omega.{arith}
use borrow.Author.Tests.{ltb-true, lt-ltb, eqb-false}
use lib.Dec.{ltb}
use lib.IntN.{ℤ, pos, negsuc, neg_ℤ, nat_abs}
use Rattle.notation.specs.Basics.{pick}
use Rattle.notation.specs.Tree.{Leaf, rotation, move, pause, pair, slash, megaminx, Node, leaf, block, Body, group, binary_group, nil, cons, append, Tree}
use Rattle.notation.specs.Packed.{node_size, body_size, size}
use Rattle.notation.specs.WellFormed.{family_ok, constraints_ok, layers_ok, multiplier_ok, leaf_ok, node_ok, body_ok, tree_ok, node_depth, body_depth, depth}
use Rattle.notation.specs.Invert.{undo, is_min, overflows}
use Rattle.notation.specs.Unroll.{is_niss}
use Rattle.notation.specs.Counts.{count_node, count_body, count}
use Rattle.notation.specs.declared.common.BinaryGroupKind.TheVariants.{Commutator, Conjugate}
use Rattle.numbers.proofs.TwosComplement.{nat_abs-neg}
use Rattle.record.specs.Range.{FitsNumber, FitsLeaf}
use Rattle.laws.proofs.Bools.{and_left, and_right, and_both, or-false}
use Rattle.laws.proofs.Packing.{number_fits}
use Rattle.laws.specs.Inverted.{inverted, inverted_node, deeply, deeply_node, deeply_body}
use Rattle.laws.proofs.Inverses.{niss-deeply}

pub multiplier-neg : (m : ℤ) → multiplier_ok (neg_ℤ m) ≡ multiplier_ok m
multiplier-neg m = ap (λ (n : ℕ). ltb n 2147483648) (nat_abs-neg m)

-- numbers negated fit their field: a multiplier in bounds, and a number of a pair that is not −2147483648, which is in the same bounds
pub negated_fits : (m : ℤ) → multiplier_ok m ≡ true → FitsNumber (neg_ℤ m)
negated_fits m h = number_fits (neg_ℤ m) (multiplier-neg m ∙ h)

pub not-min-ok : (u : ℤ) → is_min u ≡ false → FitsNumber u → multiplier_ok u ≡ true
not-min-ok (pos n) h f = f
not-min-ok (negsuc n) h f =
    let e : n < 2147483648 = ltb-true n 2147483648 f in
    let d : (n ≡ 2147483647 → ⊥) = eqb-false n 2147483647 h in
    lt-ltb (suc n) 2147483648 (omega arith)

-- undoing keeps a leaf in bounds
pub undo-ok : (text : List ℕ) (x : Leaf) → leaf_ok text (undo x) ≡ leaf_ok text x
unfolding leaf_ok
undo-ok text (rotation f c m) = rw (multiplier-neg m)
undo-ok text (move t l f c m) = rw (multiplier-neg m)
undo-ok text pause = refl
undo-ok text (pair u d) = refl
undo-ok text slash = refl
undo-ok text (megaminx k) = refl

-- and within its record, where it does not overflow
pub undone-fits : (text : List ℕ) (x : Leaf) → leaf_ok text x ≡ true → overflows x ≡ false → FitsLeaf x → FitsLeaf (undo x)
unfolding leaf_ok
undone-fits text (rotation f c m) h o (a, b, n) = (a, b, negated_fits m (and_right (family_ok text 0 f && constraints_ok text c) _ h))
undone-fits text (move t l f c m) h o (e, a, b, n) =
    (e, a, b, negated_fits m (and_right (layers_ok text l && family_ok text 1 f && constraints_ok text c) _ h))
undone-fits text pause h o f = tt
undone-fits text (pair u d) h o (a, b) =
    let e = or-false (is_min u) (is_min d) o in
    (negated_fits u (not-min-ok u e.0 a), negated_fits d (not-min-ok d e.1 b))
undone-fits text slash h o f = tt
undone-fits text (megaminx k) h o f = tt

-- what a list's nodes give one after another, for a sum, a maximum or a test of all of them
pub ok-append : (text : List ℕ) (a b : Tree) → tree_ok text a ≡ true → tree_ok text b ≡ true → tree_ok text (append a b) ≡ true
unfolding append tree_ok
ok-append text nil b p q = q
ok-append text (cons n a) b p q = and_both (node_ok text n) _ (and_left _ _ p) (ok-append text a b (and_right (node_ok text n) _ p) q)

pub size-append : (a b : Tree) → size (append a b) ≡ size a + size b
unfolding append size
size-append nil b = omega arith
size-append (cons n a) b = omega (arith, size-append a b)

depth-append : (a b : Tree) → depth (append a b) ≡ max (depth a) (depth b)
unfolding append depth
depth-append nil b = omega arith
depth-append (cons n a) b = omega (arith, depth-append a b)

ok-last : (text : List ℕ) (n : Node Leaf) → node_ok text n ≡ true → tree_ok text (cons n nil) ≡ true
unfolding tree_ok
ok-last text n p = and_both (node_ok text n) true p refl

size-last : (n : Node Leaf) → size (cons n nil) ≡ node_size n
unfolding size
size-last n = omega arith

depth-last : (n : Node Leaf) → depth (cons n nil) ≡ node_depth n
unfolding depth
depth-last n = omega arith

-- Shallow.
node_ok_lem : (text : List ℕ) (n : Node Leaf) → node_ok text n ≡ true → node_ok text (inverted_node n) ≡ true
unfolding node_ok
node_ok_lem text (leaf x) p = undo-ok text x ∙ p
node_ok_lem text (block b m) p = and_both (multiplier_ok (neg_ℤ m)) _ (multiplier-neg m ∙ and_left _ _ p) (and_right (multiplier_ok m) _ p)

node-size : (n : Node Leaf) → node_size (inverted_node n) ≡ node_size n
unfolding node_size
node-size (leaf x) = refl
node-size (block b m) = refl

node-depth : (n : Node Leaf) → node_depth (inverted_node n) ≡ node_depth n
unfolding node_depth
node-depth (leaf x) = refl
node-depth (block b m) = refl

pub inverted-ok : (text : List ℕ) (t : Tree) → tree_ok text t ≡ true → tree_ok text (inverted t) ≡ true
unfolding inverted tree_ok
inverted-ok text nil p = refl
inverted-ok text (cons n l) p =
    ok-append text (inverted l) (cons (inverted_node n) nil) (inverted-ok text l (and_right (node_ok text n) _ p))
    (ok-last text (inverted_node n) (node_ok_lem text n (and_left _ _ p)))

pub inverted-size : (t : Tree) → size (inverted t) ≡ size t
unfolding inverted size
inverted-size nil = refl
inverted-size (cons n l) =
    size-append (inverted l) (cons (inverted_node n) nil)
    ∙ omega (arith, size-last (inverted_node n), node-size n, inverted-size l)

pub inverted-depth : (t : Tree) → depth (inverted t) ≡ depth t
unfolding inverted depth
inverted-depth nil = refl
inverted-depth (cons n l) =
    depth-append (inverted l) (cons (inverted_node n) nil)
    ∙ omega (arith, depth-last (inverted_node n), node-depth n, inverted-depth l)

-- Deep.
mutual
  unfolding deeply_node deeply_body deeply node_ok body_ok tree_ok

  deeply_node-ok : (n : Node Leaf) (text : List ℕ) → node_ok text n ≡ true → node_ok text (deeply_node n) ≡ true
  deeply_node-ok (leaf x) text p = undo-ok text x ∙ p
  deeply_node-ok (block b m) text p = and_both (multiplier_ok m) _ (and_left _ _ p) (deeply_body-ok b text (and_right (multiplier_ok m) _ p))

  deeply_body-ok : (b : Body Leaf) (text : List ℕ) → body_ok text b ≡ true → body_ok text (deeply_body b) ≡ true
  deeply_body-ok (group k a) text p = deeply-ok a text p
  deeply_body-ok (binary_group Commutator a b) text p = and_both (tree_ok text b) _ (and_right (tree_ok text a) _ p) (and_left _ _ p)
  deeply_body-ok (binary_group Conjugate a b) text p =
      and_both (tree_ok text a) _ (and_left _ _ p) (deeply-ok b text (and_right (tree_ok text a) _ p))

  pub deeply-ok : (t : Tree) (text : List ℕ) → tree_ok text t ≡ true → tree_ok text (deeply t) ≡ true
  deeply-ok nil text p = refl
  deeply-ok (cons n l) text p =
      ok-append text (deeply l) (cons (deeply_node n) nil) (deeply-ok l text (and_right (node_ok text n) _ p))
      (ok-last text (deeply_node n) (deeply_node-ok n text (and_left _ _ p)))

mutual
  unfolding deeply_node deeply_body deeply node_size body_size size

  pub deeply_node-size : (n : Node Leaf) → node_size (deeply_node n) ≡ node_size n
  deeply_node-size (leaf x) = refl
  deeply_node-size (block b m) = ap (λ (s : ℕ). 1 + s) (deeply_body-size b)

  deeply_body-size : (b : Body Leaf) → body_size (deeply_body b) ≡ body_size b
  deeply_body-size (group k a) = deeply-size a
  deeply_body-size (binary_group Commutator a b) = omega arith
  deeply_body-size (binary_group Conjugate a b) = ap (λ (s : ℕ). size a + s) (deeply-size b)

  pub deeply-size : (t : Tree) → size (deeply t) ≡ size t
  deeply-size nil = refl
  deeply-size (cons n l) =
      size-append (deeply l) (cons (deeply_node n) nil)
      ∙ omega (arith, size-last (deeply_node n), deeply_node-size n, deeply-size l)

mutual
  unfolding deeply_node deeply_body deeply node_depth body_depth depth

  deeply_node-depth : (n : Node Leaf) → node_depth (deeply_node n) ≡ node_depth n
  deeply_node-depth (leaf x) = refl
  deeply_node-depth (block b m) = ap suc (deeply_body-depth b)

  deeply_body-depth : (b : Body Leaf) → body_depth (deeply_body b) ≡ body_depth b
  deeply_body-depth (group k a) = deeply-depth a
  deeply_body-depth (binary_group Commutator a b) = omega arith
  deeply_body-depth (binary_group Conjugate a b) = ap (max (depth a)) (deeply-depth b)

  pub deeply-depth : (t : Tree) → depth (deeply t) ≡ depth t
  deeply-depth nil = refl
  deeply-depth (cons n l) =
      depth-append (deeply l) (cons (deeply_node n) nil)
      ∙ omega (arith, depth-last (deeply_node n), deeply_node-depth n, deeply-depth l)

-- Step counts stay as they are, in both: the inverse of a node is as long.
count-append : (a b : Tree) → count (append a b) ≡ count a + count b
unfolding append count
count-append nil b = omega arith
count-append (cons n a) b = omega (arith, count-append a b)

count-last : (n : Node Leaf) → count (cons n nil) ≡ count_node n
unfolding count
count-last n = omega arith

pub node-count : (n : Node Leaf) → count_node (inverted_node n) ≡ count_node n
unfolding count_node
node-count (leaf x) = refl
node-count (block b m) = ap (λ (k : ℕ). pick (is_niss b) 0 k * count_body b) (nat_abs-neg m)

mutual
  unfolding deeply_node deeply_body deeply count_node count_body count

  pub deeply_node-count : (n : Node Leaf) → count_node (deeply_node n) ≡ count_node n
  deeply_node-count (leaf x) = refl
  deeply_node-count (block b m) =
      ap₂ (λ (t : Bool) (c : ℕ). pick t 0 (nat_abs m) * c) (niss-deeply b) (deeply_body-count b)

  deeply_body-count : (b : Body Leaf) → count_body (deeply_body b) ≡ count_body b
  deeply_body-count (group k a) = deeply-count a
  deeply_body-count (binary_group Commutator a b) = omega arith
  deeply_body-count (binary_group Conjugate a b) = ap (λ (c : ℕ). 2 * count a + c) (deeply-count b)

  pub deeply-count : (t : Tree) → count (deeply t) ≡ count t
  deeply-count nil = refl
  deeply-count (cons n l) =
      count-append (deeply l) (cons (deeply_node n) nil)
      ∙ omega (arith, count-last (deeply_node n), deeply_node-count n, deeply-count l)
