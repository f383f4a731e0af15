-- Nodes and lists, read at once from the text as given and from the straight text. A list enters a node and a node enters lists, with fewer bytes
-- left. Assumes nothing.
use Prim.Native.Nat.{ℕ, zero, suc, ◌≤◌}
use mathlib.Core.Path.{◌≡◌, refl, ap}
use mathlib.Core.Bool.{Bool, true}
use mathlib.Core.List.{List}
use mathlib.Core.Option.{Option}
use native.Mathlib.Omega.{arith}
use lib.IntN.{ℤ}
use Rattle.notation.specs.Basics.{every}
use Rattle.notation.specs.Tree.{
  Span,
  Layers,
  Leaf,
  rotation,
  move,
  pause,
  pair,
  slash,
  megaminx,
  Node,
  leaf,
  block,
  group,
  binary_group,
  nil,
  cons,
  Tree,
  map_node,
  map_body,
  map_nodes,
}
use Rattle.notation.specs.Grammar.{
  Reader,
  MAX-I32,
  rotation_node,
  tilde,
  move_node,
  group_kind,
  group_node,
  binary_group_kind,
  binary_group_node,
  megaminx_scramble_move,
  sq1_move,
  node_by,
  node,
  node_list_by,
  node_list,
}
use Rattle.notation.specs.Meaning.{step_of}
use Rattle.notation.specs.Primes.{straight, leaf_given, without_curly}
use Rattle.notation.specs.declared.features.Features.{Features}
use Rattle.notation.specs.declared.common.GroupKind.{GroupKind}
use Rattle.notation.specs.declared.common.BinaryGroupKind.{BinaryGroupKind}
use Rattle.notation.specs.declared.common.MegaminxScrambleMove.{MegaminxScrambleMove}
use Rattle.prime_laws.proofs.Follows.{Places, Follows, finished, loosely, ◌next◌, ◌past◌, ◌then◌, either, admitted}
use Rattle.prime_laws.proofs.Readers.{Alike, just-alike, word-alike, some_whites, padded-follows, sint-alike, separated}
use Rattle.prime_laws.proofs.Parts.{within, Told, Spans, Constrained, Layered, family-follows, constraints-follow, layers-follow}
use Rattle.prime_laws.proofs.Signs.{multiplier-follows}

-- What is read without an offset.
group_kind-alike : {c : Places} {m : ℕ} → Alike c m 0 group_kind
group_kind-alike =
    either (loosely (just-alike "!" refl) then λ _. finished refl)
    (either (loosely (just-alike "&" refl) then λ _. finished refl)
    (either (loosely (just-alike "^" refl) then λ _. finished refl) (finished refl)))

binary_group_kind-alike : {c : Places} {m : ℕ} → Alike c m 0 binary_group_kind
binary_group_kind-alike =
    either (loosely (just-alike "," refl) then λ _. finished refl) (loosely (just-alike ":" refl) then λ _. finished refl)

megaminx-alike : {c : Places} {m : ℕ} → Alike c m 0 megaminx_scramble_move
unfolding megaminx_scramble_move every
megaminx-alike =
    either (word-alike "R++" refl then λ _. finished refl)
    (either (word-alike "R--" refl then λ _. finished refl)
    (either (word-alike "D++" refl then λ _. finished refl) (word-alike "D--" refl then λ _. finished refl)))

tilde-alike : {c : Places} {m : ℕ} (f : Features) → Alike c m 0 (tilde f)
tilde-alike f = either (admitted f.layers.inverted_layers (loosely (just-alike "~" refl) then λ _. finished refl)) (finished refl)

abbrev pub Leaves : List ℕ → Leaf → Leaf → Type 0
Leaves text = Told (leaf_given text) (step_of text) (step_of (straight text))

abbrev pub Nodes : List ℕ → Node Leaf → Node Leaf → Type 0
Nodes text = Told (map_node (leaf_given text)) (map_node (step_of text)) (map_node (step_of (straight text)))

abbrev pub Trees : List ℕ → Tree → Tree → Type 0
Trees text = Told (map_nodes (leaf_given text)) (map_nodes (step_of text)) (map_nodes (step_of (straight text)))

-- nodes that wait for their multiplier
abbrev Waiting : List ℕ → (ℤ → Node Leaf) → (ℤ → Node Leaf) → Type 0
Waiting text n n' = (m : ℤ) → Nodes text (n m) (n' m)

module _ (text : List ℕ) where
  a-leaf : {x x' : Leaf} → Leaves text x x' → Nodes text (leaf x) (leaf x')
  unfolding map_node
  a-leaf t = record { offsets = ap leaf t.offsets; meaning = ap leaf t.meaning }

  a-rotation : {a a' : Span} {c c' : Option Span} → Spans text a a' → Constrained text c c' → Waiting text (λ m. leaf (rotation a c m)) (λ m. leaf (rotation a' c' m))
  unfolding leaf_given step_of
  a-rotation t u m = a-leaf (record { offsets = rw (t.offsets, u.offsets); meaning = rw (t.meaning, u.meaning) })

  a_move : (b : Bool) {l l' : Layers Span} {a a' : Span} {c c' : Option Span} → Layered text l l' → Spans text a a' → Constrained text c c' →
      Waiting text (λ m. leaf (move b l a c m)) (λ m. leaf (move b l' a' c' m))
  unfolding leaf_given step_of
  a_move b v t u m = a-leaf (record { offsets = rw (v.offsets, t.offsets, u.offsets); meaning = rw (v.meaning, t.meaning, u.meaning) })

  a-pause : Nodes text (leaf pause) (leaf pause)
  unfolding leaf_given step_of
  a-pause = a-leaf (record { offsets = refl; meaning = refl })

  a-slash : Leaves text slash slash
  unfolding leaf_given step_of
  a-slash = record { offsets = refl; meaning = refl }

  a_pair : (u d : ℤ) → Leaves text (pair u d) (pair u d)
  unfolding leaf_given step_of
  a_pair u d = record { offsets = refl; meaning = refl }

  a-scramble : (k : MegaminxScrambleMove) → Nodes text (leaf (megaminx k)) (leaf (megaminx k))
  unfolding leaf_given step_of
  a-scramble k = a-leaf (record { offsets = refl; meaning = refl })

  a-group : (k : GroupKind) {a a' : Tree} → Trees text a a' → Waiting text (λ m. block (group k a) m) (λ m. block (group k a') m)
  unfolding map_node map_body
  a-group k t m = record { offsets = ap (λ x. block (group k x) m) t.offsets; meaning = ap (λ x. block (group k x) m) t.meaning }

  a-binary : (k : BinaryGroupKind) {a a' b b' : Tree} → Trees text a a' → Trees text b b' →
      Waiting text (λ m. block (binary_group k a b) m) (λ m. block (binary_group k a' b') m)
  unfolding map_node map_body
  a-binary k t u m = record { offsets = rw (t.offsets, u.offsets); meaning = rw (t.meaning, u.meaning) }

  no-nodes : Trees text nil nil
  unfolding map_nodes
  no-nodes = record { offsets = refl; meaning = refl }

  one_more : (n n' : Node Leaf) (a a' : Tree) → Nodes text n n' → Trees text a a' → Trees text (cons n a) (cons n' a')
  unfolding map_nodes
  one_more n n' a a' t u = record { offsets = rw (t.offsets, u.offsets); meaning = rw (t.meaning, u.meaning) }

  rotation-follows : {m : ℕ} (f : Features) → Follows (within text) m 0 (Waiting text) (rotation_node f) (rotation_node (without_curly f))
  unfolding rotation_node
  rotation-follows f =
      admitted f.generalized_rotations
      (loosely (just-alike "@" refl) then λ _. family-follows text 0 next λ a a' t. constraints-follow text f next λ c c' u. finished (a-rotation t u))

  move-follows : {m : ℕ} (f : Features) → Follows (within text) m 0 (Waiting text) (move_node f) (move_node (without_curly f))
  unfolding move_node
  move-follows f =
      tilde-alike f then λ b. layers-follow text f next λ l l' v. family-follows text 1 next λ a a' t. constraints-follow text f
      next λ c c' u. finished (a_move b v t u)

  sq1-follows : {m : ℕ} → Follows (within text) m 0 (Leaves text) sq1_move sq1_move
  unfolding sq1_move
  sq1-follows =
      either (loosely (just-alike "/" refl) then λ _. finished a-slash)
      (loosely (just-alike "(" refl) then λ _. padded-follows (sint-alike 0 MAX-I32 2147483648) then λ u. loosely (just-alike "," refl)
      then λ _. padded-follows (sint-alike 0 MAX-I32 2147483648) then λ d. loosely (just-alike ")" refl) then λ _. finished (a_pair u d))

  -- groups, by lists that have fewer bytes left
  module _ {m : ℕ} {list list' : Reader Tree} (g : Follows (within text) m 0 (Trees text) list list') where
    group-follows : Follows (within text) (suc m) 0 (Waiting text) (group_node list) (group_node list')
    unfolding group_node
    group-follows =
        group_kind-alike then λ k.
        loosely (just-alike "(" refl past λ _ _ _. g next λ a a' t. loosely (just-alike ")" refl) then λ _. finished (a-group k t))

    binary-follows : Follows (within text) (suc m) 0 (Waiting text) (binary_group_node list) (binary_group_node list')
    unfolding binary_group_node
    binary-follows =
        loosely (just-alike "[" refl past λ _ _ _. g next λ a a' t. binary_group_kind-alike then λ k. g next λ b b' u. loosely (just-alike "]" refl)
        then λ _. finished (a-binary k t u))

    node-follows : (f : Features) → f.curly_primes ≡ true → Follows (within text) (suc m) 0 (Nodes text) (node f list) (node (without_curly f) list')
    unfolding node_by
    node-follows f e =
        either (loosely (just-alike "." refl) then λ _. finished a-pause)
        (either (admitted f.megaminx (megaminx-alike then λ k. finished (a-scramble k)))
        (either
        (either (rotation-follows f) (either group-follows (either binary-follows (move-follows f)))
        next λ n n' t. multiplier-follows text f e then λ i. finished (t i))
        (admitted f.sq1 (sq1-follows next λ x x' t. finished (a-leaf t)))))

  -- lists; k and k' are more than the nesting
  pub list-follows : (f : Features) → f.curly_primes ≡ true → (m k k' : ℕ) → m ≤ k → m ≤ k' →
      Follows (within text) m 0 (Trees text) (node_list f k) (node_list (without_curly f) k')
  unfolding node_list_by
  list-follows f e zero k k' h h' = record { meets = λ at s at' i l. absurd (omega arith) }
  list-follows f e (suc m) zero k' h h' = absurd (omega arith)
  list-follows f e (suc m) (suc k) zero h h' = absurd (omega arith)
  list-follows f e (suc m) (suc k) (suc k') h h' =
      padded-follows
      (separated cons nil _ _ _ no-nodes one_more (λ m. some_whites) (node-follows (list-follows f e m k k' (omega arith) (omega arith)) f e))
