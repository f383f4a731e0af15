-- How long well-formed steps and trees are as printed: a step at most 5/4 of its bytes and two more, a tree at most 7/4 of its bytes and one quarter.
-- No less will do: signs are not counted, so that `[U',U']'` counts 5 bytes, and it prints `[U', U']'`, which are 9. Assumes nothing.
use Prim.Native.Nat.{ℕ, zero, suc, ◌+◌, ◌*◌, ◌≤◌}
use mathlib.Core.Path.{◌≡◌}
use mathlib.Core.Bool.{Bool, true, false, ◌&&◌}
use mathlib.Core.List.{List, [], ◌∷◌, ◌++◌}
use mathlib.Core.Option.{Option, none, some}
use native.Mathlib.Omega.{arith}
use lib.IntN.{nat_abs}
use lib.ListN.{length, drop, length-append, length-take}
use Rattle.notation.specs.Numbers.{show, show_signed}
use Rattle.notation.specs.Tree.{
  Span,
  part_of,
  Layers,
  no_layers,
  single_layer,
  layer_range,
  layer_set,
  Leaf,
  rotation,
  move,
  pause,
  pair,
  slash,
  megaminx,
  Node,
  leaf,
  block,
  Body,
  group,
  binary_group,
  nil,
  cons,
  Tree,
  map_node,
  map_body,
  map_nodes,
}
use Rattle.notation.specs.Packed.{or_nowhere, bit}
use Rattle.notation.specs.Meaning.{constraint_meaning, layer_meaning, step_of, unspanned}
use Rattle.notation.specs.WellFormed.{inside, family_ok, constraints_ok, layers_ok, multiplier_ok, leaf_ok, node_ok, body_ok, tree_ok}
use Rattle.notation.specs.Print.{
  put_constraints,
  put_layers,
  put_tilde,
  put_megaminx,
  put_multiplier,
  put_step,
  put_prefix,
  put_separator,
  put_node,
  put_body,
  put_nodes,
  put_others,
  printed,
}
use Rattle.notation.specs.declared.common.GroupKind.{GroupKind}
use Rattle.notation.specs.declared.common.GroupKind.TheVariants.{Simple, Macro, Simultaneous, Niss}
use Rattle.notation.specs.declared.common.BinaryGroupKind.{BinaryGroupKind}
use Rattle.notation.specs.declared.common.BinaryGroupKind.TheVariants.{Commutator, Conjugate}
use Rattle.notation.specs.declared.common.MegaminxScrambleMove.{MegaminxScrambleMove}
use Rattle.notation.specs.declared.common.MegaminxScrambleMove.TheVariants.{Rpp, Rmm, Dpp, Dmm}
use Rattle.laws.proofs.Bools.{and_left, and_right}
use Rattle.size_laws.proofs.Digits.{some-digit, show-long, signed-long, signed-most, multiplier-most}
use Rattle.size_laws.proofs.Sets.{constraints-long, layers-long}
use Rattle.size_laws.proofs.Bytes.{layer_bytes, leaf_bytes, prefix_bytes, node_bytes, body_bytes, spaced, bytes}
use Rattle.size_laws.proofs.Records.{some_byte}

-- Parts of a step.
pub part-long : (text : List ℕ) (p : Span) → length (part_of text p) ≤ p.size
part-long text p = omega (arith, length-take p.size (drop p.offset text))

pub family-long : (text : List ℕ) (p : Span) (rest : List ℕ) → length (part_of text p ++ rest) ≤ p.size + length rest
family-long text p rest = omega (arith, length-append (part_of text p) rest, part-long text p)

constraint-part : (text : List ℕ) (c : Option Span) (rest : List ℕ) → constraints_ok text c ≡ true →
    4 * length (put_constraints (constraint_meaning text c) rest) ≤ 5 * (or_nowhere c).size + 4 * length rest
constraint-part text none rest h = omega arith
constraint-part text (some p) rest h =
    omega (arith, constraints-long (part_of text p) rest (and_right (inside text p) _ h), part-long text p)

layer-part : (text : List ℕ) (l : Layers Span) (rest : List ℕ) → layers_ok text l ≡ true →
    4 * length (put_layers (layer_meaning text l) rest) ≤ 5 * layer_bytes l + 4 * length rest
layer-part text no_layers rest h = omega arith
layer-part text (single_layer i) rest h = omega (arith, show-long i rest)
layer-part text (layer_range i j) rest h = omega (arith, show-long i (45 ∷ show j rest), show-long j rest)
layer-part text (layer_set p) rest h = omega (arith, layers-long (part_of text p) rest (and_right (inside text p) _ h), part-long text p)

pub tilde-long : (t : Bool) (rest : List ℕ) → length (put_tilde t rest) ≡ bit t + length rest
tilde-long true rest = omega arith
tilde-long false rest = omega arith

megaminx-long : (k : MegaminxScrambleMove) (rest : List ℕ) → length (put_megaminx k rest) ≡ 3 + length rest
megaminx-long Rpp rest = omega arith
megaminx-long Rmm rest = omega arith
megaminx-long Dpp rest = omega arith
megaminx-long Dmm rest = omega arith

-- What a step prints, forward or undone, four times its bytes, beyond five times those that it is read from: its prime, or the signs and the space of a pair.
abbrev beyond : Leaf → ℕ
beyond (rotation f c m) = 4
beyond (move t l f c m) = 4
beyond pause = 0
beyond (pair u d) = 7
beyond slash = 0
beyond (megaminx k) = 0

step-long : (text : List ℕ) (x : Leaf) (rest : List ℕ) → leaf_ok text x ≡ true →
    4 * length (put_step (step_of text x) rest) ≤ 5 * leaf_bytes x + beyond x + 4 * length rest
unfolding put_step step_of leaf_ok leaf_bytes
step-long text (rotation f c m) rest h =
    let after = put_multiplier m rest in
    let behind = put_constraints (constraint_meaning text c) after in
    omega (arith, family-long text f behind, constraint-part text c after (and_right (family_ok text 0 f) _ (and_left _ _ h)), multiplier-most m rest)
step-long text (move t l f c m) rest h =
    let after = put_multiplier m rest in
    let behind = put_constraints (constraint_meaning text c) after in
    let family = part_of text f ++ behind in
    omega (
      arith,
      tilde-long t (put_layers (layer_meaning text l) family),
      layer-part text l family (and_left _ _ (and_left _ _ (and_left _ _ h))),
      family-long text f behind,
      constraint-part text c after (and_right (layers_ok text l && family_ok text 1 f) _ (and_left _ _ h)),
      multiplier-most m rest,
    )
step-long text pause rest h = omega arith
step-long text (pair u d) rest h =
    omega (
      arith,
      signed-long u (44 ∷ 32 ∷ show_signed d (41 ∷ rest)),
      signed-most u,
      some-digit (nat_abs u),
      signed-long d (41 ∷ rest),
      signed-most d,
      some-digit (nat_abs d),
    )
step-long text slash rest h = omega arith
step-long text (megaminx k) rest h = omega (arith, megaminx-long k rest)

-- as a few bytes
beyond-most : (x : Leaf) → beyond x ≤ 7
beyond-most (rotation f c m) = omega arith
beyond-most (move t l f c m) = omega arith
beyond-most pause = omega arith
beyond-most (pair u d) = omega arith
beyond-most slash = omega arith
beyond-most (megaminx k) = omega arith

pub printed-step : (text : List ℕ) (x : Leaf) (rest : List ℕ) → leaf_ok text x ≡ true →
    4 * length (put_step (step_of text x) rest) ≤ 5 * leaf_bytes x + 7 + 4 * length rest
printed-step text x rest h = omega (arith, step-long text x rest h, beyond-most x)

-- by the bytes that it is read from
beyond-least : (text : List ℕ) (x : Leaf) → leaf_ok text x ≡ true → beyond x ≤ leaf_bytes x + 3
unfolding leaf_bytes
beyond-least text (rotation f c m) h = omega arith
beyond-least text (move t l f c m) h = omega (arith, some_byte text (move t l f c m) h)
beyond-least text pause h = omega arith
beyond-least text (pair u d) h = omega (arith, some-digit (nat_abs u), some-digit (nat_abs d))
beyond-least text slash h = omega arith
beyond-least text (megaminx k) h = omega arith

-- of whole numbers of bytes
whole-bytes : (p s r : ℕ) → 4 * p ≤ 6 * s + 3 + 4 * r → 4 * p ≤ 7 * s + 1 + 4 * r
whole-bytes p zero r h = omega arith
whole-bytes p (suc zero) r h = omega arith
whole-bytes p (suc (suc s)) r h = omega arith

printed-leaf : (text : List ℕ) (x : Leaf) (rest : List ℕ) → leaf_ok text x ≡ true →
    4 * length (put_step (step_of text x) rest) ≤ 7 * leaf_bytes x + 1 + 4 * length rest
printed-leaf text x rest h =
    whole-bytes (length (put_step (step_of text x) rest)) (leaf_bytes x) (length rest) (omega (arith, step-long text x rest h, beyond-least text x h))

-- Nodes.
pub prefix-long : (k : GroupKind) (rest : List ℕ) → length (put_prefix k rest) ≡ prefix_bytes k + length rest
prefix-long Simple rest = omega arith
prefix-long Macro rest = omega arith
prefix-long Simultaneous rest = omega arith
prefix-long Niss rest = omega arith

pub separator-long : (k : BinaryGroupKind) (rest : List ℕ) → length (put_separator k rest) ≡ 2 + length rest
separator-long Commutator rest = omega arith
separator-long Conjugate rest = omega arith

mutual
  unfolding put_node put_body put_nodes put_others map_node map_body map_nodes node_bytes body_bytes spaced node_ok body_ok tree_ok

  printed-node : (text : List ℕ) (n : Node Leaf) (rest : List ℕ) → node_ok text n ≡ true →
      4 * length (put_node (map_node (step_of text) n) rest) ≤ 7 * node_bytes n + 1 + 4 * length rest
  printed-node text (leaf x) rest h = printed-leaf text x rest h
  printed-node text (block b m) rest h =
      omega (arith, printed-body text b (put_multiplier m rest) (and_right (multiplier_ok m) _ h), multiplier-most m rest)

  -- a place is left for the sign of the multiplier
  printed-body : (text : List ℕ) (b : Body Leaf) (rest : List ℕ) → body_ok text b ≡ true →
      3 + 4 * length (put_body (map_body (step_of text) b) rest) ≤ 7 * body_bytes b + 4 * length rest
  printed-body text (group k a) rest h =
      omega (arith, prefix-long k (40 ∷ put_nodes (unspanned text a) (41 ∷ rest)), printed-nodes text a (41 ∷ rest) h)
  printed-body text (binary_group k a b) rest h =
      let second = put_nodes (unspanned text b) (93 ∷ rest) in
      omega (
        arith,
        printed-nodes text a (put_separator k second) (and_left _ _ h),
        separator-long k second,
        printed-nodes text b (93 ∷ rest) (and_right (tree_ok text a) _ h),
      )

  printed-nodes : (text : List ℕ) (l : Tree) (rest : List ℕ) → tree_ok text l ≡ true →
      4 * length (put_nodes (unspanned text l) rest) ≤ 7 * bytes l + 1 + 4 * length rest
  printed-nodes text nil rest h = omega arith
  printed-nodes text (cons n l) rest h =
      omega (arith, printed-node text n (put_others (unspanned text l) rest) (and_left _ _ h), printed-others text l rest (and_right (node_ok text n) _ h))

  -- each with the space before it
  printed-others : (text : List ℕ) (l : Tree) (rest : List ℕ) → tree_ok text l ≡ true →
      4 * length (put_others (unspanned text l) rest) ≤ 7 * spaced l + 4 * length rest
  printed-others text nil rest h = omega arith
  printed-others text (cons n l) rest h =
      omega (arith, printed-node text n (put_others (unspanned text l) rest) (and_left _ _ h), printed-others text l rest (and_right (node_ok text n) _ h))

pub printed-tree : (text : List ℕ) (t : Tree) → tree_ok text t ≡ true → 4 * length (printed text t) ≤ 7 * bytes t + 1
printed-tree text t h = omega (arith, printed-nodes text t [] h)
