-- Which nodes unrolling reaches, and where it is refused for them. As in specs/Unroll.antt a direction is a Bool: `true` is inverted.
use Rattle.std.specs.Prelude.{ℕ, ◌≡◌, Bool, true, false, ℤ, pos}
use Rattle.notation.specs.Refusals.{refusal, NISS, OVERFLOW}
use Rattle.notation.specs.Tree.{Leaf, Node, leaf, block, Body, group, binary_group, NodeList, cons, Tree}
use Rattle.notation.specs.Invert.{overflows}
use Rattle.notation.specs.Unroll.{turned, flatten}
use Rattle.notation.specs.declared.common.GroupKind.{GroupKind}
use Rattle.notation.specs.declared.common.GroupKind.TheVariants.{Niss}
use Rattle.notation.specs.declared.common.BinaryGroupKind.{BinaryGroupKind}
use Rattle.notation.specs.declared.common.BinaryGroupKind.TheVariants.{Commutator, Conjugate}

-- `Enters d g c a`: unrolling the group g in direction d enters its list a in direction c.
pub data Enters {L : Type 0} : Bool → Body L → Bool → NodeList L → Type 0 where
  in_group : {d : Bool} {k : GroupKind} {a : NodeList L} → Enters d (group k a) d a
  -- A and A', B and B' of a commutator
  in_first : {d c : Bool} {k : BinaryGroupKind} {a b : NodeList L} → Enters d (binary_group k a b) c a
  in_commutator : {d c : Bool} {a b : NodeList L} → Enters d (binary_group Commutator a b) c b
  -- B of a conjugate, inverted B'
  in_conjugate : {d : Bool} {a b : NodeList L} → Enters d (binary_group Conjugate a b) d b

-- `Reached d l e x`: unrolling the list l in direction d reaches the node x in direction e. A node is reached if no group around
-- it has multiplier 0.
pub data Reached {L : Type 0} : Bool → NodeList L → Bool → Node L → Type 0 where
  here : {d : Bool} {x : Node L} {l : NodeList L} → Reached d (cons x l) d x
  later : {d e : Bool} {n x : Node L} {l : NodeList L} → Reached d l e x → Reached d (cons n l) e x
  inside : {d c e : Bool} {g : Body L} {m : ℤ} {a l : NodeList L} {x : Node L} →
      (m ≡ pos 0 → ⊥) → Enters (turned m d) g c a → Reached c a e x → Reached d (cons (block g m) l) e x

-- The refusal that a node causes where it is reached: a NISS group 7, whatever its multiplier; a pair with −2147483648 8, if it is
-- to be negated.
pub data Causes : Bool → Node Leaf → ℕ → Type 0 where
  niss : {e : Bool} {a : Tree} {m : ℤ} → Causes e (block (group Niss a) m) NISS
  least : {x : Leaf} → overflows x ≡ true → Causes true (leaf x) OVERFLOW

-- Unrolling is refused if and only if a node is reached that causes a refusal, and with the number of such a node.
pub record RefusedWhereReached (t : Tree) : Type 0 where
  pub caused : (r : ℕ) → flatten t ≡ refusal r → (e : Bool) × (n : Node Leaf) × Reached false t e n × Causes e n r
  pub refused : (e : Bool) (n : Node Leaf) (r : ℕ) → Reached false t e n → Causes e n r → (r' : ℕ) × (flatten t ≡ refusal r')

-- Unrolled in direction d, a tree reaches no NISS group and no pair with −2147483648. Of an accepted text whose tree is such, and whose
-- steps can be counted, demand 3 assumes nothing more (laws/proofs/Harmless.antt).
pub record Harmless (d : Bool) (t : Tree) : Type 0 where
  pub no_niss : (e : Bool) (a : Tree) (m : ℤ) → Reached d t e (block (group Niss a) m) → ⊥
  pub no_least : (e : Bool) (x : Leaf) → Reached d t e (leaf x) → overflows x ≡ false
