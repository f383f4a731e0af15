-- Inverses (invert.rs and the `Invert` impls). Both walk from the last node to the first.
use Rattle.std.specs.Prelude.{Bool, false, ◌||◌, eqb, ℤ, pos, negsuc, neg_ℤ}
use Rattle.notation.specs.Basics.{pick}
use Rattle.notation.specs.Refusals.{Outcome, refusal, result, ◌>>=◌, NISS, OVERFLOW}
use Rattle.notation.specs.Tree.{LeafOf, rotation, move, pause, pair, slash, megaminx, Leaf, Node, leaf, block, Body, group, binary_group, nil, cons, append, Tree}
use Rattle.notation.specs.declared.common.GroupKind.{GroupKind}
use Rattle.notation.specs.declared.common.GroupKind.TheVariants.{Simple, Macro, Simultaneous, Niss}
use Rattle.notation.specs.declared.common.BinaryGroupKind.{BinaryGroupKind}
use Rattle.notation.specs.declared.common.BinaryGroupKind.TheVariants.{Commutator, Conjugate}
use Rattle.notation.specs.declared.common.MegaminxScrambleMove.{MegaminxScrambleMove}
use Rattle.notation.specs.declared.common.MegaminxScrambleMove.TheVariants.{Rpp, Rmm, Dpp, Dmm}

-- `++` and `--` exchanged
abbrev pub exchanged : MegaminxScrambleMove → MegaminxScrambleMove
exchanged Rpp = Rmm
exchanged Rmm = Rpp
exchanged Dpp = Dmm
exchanged Dmm = Dpp

-- a step undone
abbrev pub undo : {F C S : Type 0} → LeafOf F C S → LeafOf F C S
undo (rotation f c m) = rotation f c (neg_ℤ m)
undo (move t l f c m) = move t l f c (neg_ℤ m)
undo pause = pause
undo (pair u d) = pair (neg_ℤ u) (neg_ℤ d)
undo slash = slash
undo (megaminx k) = megaminx (exchanged k)

-- −2147483648, which has no negative in 32 bits
abbrev pub is_min : ℤ → Bool
is_min (pos n) = false
is_min (negsuc n) = eqb n 2147483647

-- a pair with such a number
abbrev pub overflows : {F C S : Type 0} → LeafOf F C S → Bool
overflows (rotation f c m) = false
overflows (move t l f c m) = false
overflows pause = false
overflows (pair u d) = is_min u || is_min d
overflows slash = false
overflows (megaminx k) = false

abbrev pub undone : Leaf → Outcome Leaf
undone x = pick (overflows x) (refusal OVERFLOW) (result (undo x))

-- a list of inverted nodes, of which n was met last
abbrev pub then_last : Outcome Tree → Outcome (Node Leaf) → Outcome Tree
then_last l n = do
  l' ← l
  n' ← n
  result (append l' (cons n' nil))

abbrev pub as_leaf : Outcome Leaf → Outcome (Node Leaf)
as_leaf x = do x' ← x; result (leaf x')

-- Shallow: what stands inside a group is kept as it is.
abbrev pub inv_node : Node Leaf → Outcome (Node Leaf)
inv_node (leaf x) = as_leaf (undone x)
inv_node (block b m) = result (block b (neg_ℤ m))

unfoldable pub inv : Tree → Outcome Tree
inv nil = result nil
inv (cons n l) = then_last (inv l) (inv_node n)

-- Deep: multipliers of groups are kept, their contents inverted.
abbrev pub deep_group : GroupKind → Outcome Tree → Outcome (Body Leaf)
deep_group Niss a = refusal NISS
deep_group Simple a = do a' ← a; result (group Simple a')
deep_group Macro a = do a' ← a; result (group Macro a')
deep_group Simultaneous a = do a' ← a; result (group Simultaneous a')

-- a, b and the inverse of b
abbrev pub deep_binary : BinaryGroupKind → Tree → Tree → Outcome Tree → Outcome (Body Leaf)
deep_binary Commutator a b inv_b = result (binary_group Commutator b a)
deep_binary Conjugate a b inv_b = do b' ← inv_b; result (binary_group Conjugate a b')

unfoldable mutual
  pub inv_deep_node : Node Leaf → Outcome (Node Leaf)
  inv_deep_node (leaf x) = as_leaf (undone x)
  inv_deep_node (block b m) = do b' ← inv_deep_body b; result (block b' m)

  pub inv_deep_body : Body Leaf → Outcome (Body Leaf)
  inv_deep_body (group k a) = deep_group k (inv_deep a)
  inv_deep_body (binary_group k a b) = deep_binary k a b (inv_deep b)

  pub inv_deep : Tree → Outcome Tree
  inv_deep nil = result nil
  inv_deep (cons n l) = then_last (inv_deep l) (inv_deep_node n)
