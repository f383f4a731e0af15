-- What a record prints by itself is no longer than what is allowed for it and its layer set, and so is what a tree prints by all of its
-- records. Assumes nothing.
use Prim.Native.Nat.{ℕ, zero, suc, ◌+◌, ◌*◌, ◌/◌, ◌%◌, ◌^◌, ◌≤◌, ◌<◌}
use mathlib.Core.Path.{◌≡◌, refl, ap}
use mathlib.Core.Bool.{Bool, true, false, not}
use mathlib.Core.List.{List, [], ◌∷◌, ◌++◌}
use mathlib.Core.Option.{Option, none, some}
use native.Mathlib.Omega.{arith}
use native.Mathlib.Nat.{pow-suc}
use borrow.Author.Tests.{lt-ltb, ltb-false}
use lib.Dec.{ltb, eqb, lit<}
use lib.IntN.{ℤ, nat_abs}
use lib.ListN.{length, length-append}
use Rattle.notation.specs.Basics.{pick, total}
use Rattle.notation.specs.Chars.{white_space}
use Rattle.notation.specs.Utf8.{after_first, width_if}
use Rattle.notation.specs.Numbers.{show_from, show, show_signed, to_bits}
use Rattle.notation.specs.Counts.{stored}
use Rattle.notation.specs.Tree.{
  Span,
  part_of,
  Layers,
  no_layers,
  single_layer,
  layer_range,
  layer_set,
  Leaf,
  Step,
  rotation,
  move,
  pause,
  pair,
  slash,
  megaminx,
  Node,
  leaf,
  block,
  Body,
  group,
  binary_group,
  NodeList,
  nil,
  cons,
  Tree,
  map_node,
  map_body,
  map_nodes,
}
use Rattle.notation.specs.Packed.{
  Head,
  leaf_head,
  head_fields,
  in_order,
  nowhere,
  bit,
  present,
  or_nowhere,
  layer_form,
  low_and_high,
  set_part,
  group_number,
  binary_number,
  body_head,
  size,
}
use Rattle.notation.specs.Clauses.{set}
use Rattle.notation.specs.Meaning.{constraint_meaning, layer_meaning, step_of, unspanned}
use Rattle.notation.specs.WellFormed.{inside, constraints_ok, layers_ok, multiplier_ok, leaf_ok, node_ok, body_ok, tree_ok}
use Rattle.notation.specs.Print.{
  put_constraints,
  put_layers,
  put_prime,
  put_multiplier,
  put_step,
  put_separator,
  put_node,
  put_body,
  put_nodes,
  put_others,
  printed,
}
use Rattle.notation.specs.declared.common.GroupKind.{GroupKind}
use Rattle.notation.specs.declared.common.GroupKind.TheVariants.{Simple, Macro, Simultaneous, Niss}
use Rattle.notation.specs.declared.common.BinaryGroupKind.{BinaryGroupKind}
use Rattle.notation.specs.declared.common.BinaryGroupKind.TheVariants.{Commutator, Conjugate}
use Rattle.notation.specs.declared.common.MegaminxScrambleMove.TheVariants.{Rpp, Rmm, Dpp, Dmm}
use Rattle.numbers.proofs.TwosComplement.{from_bits-to_bits}
use Rattle.record.specs.Range.{FitsNumber, FitsLayers, FitsLeaf, FitsHead}
use Rattle.record.proofs.Packed.{bit-lt, present-lt, layer_form-lt}
use Rattle.laws.specs.Packed.{FitsNode, FitsBody, FitsTree}
use Rattle.laws.specs.Heads.{node_heads, body_heads, heads}
use Rattle.laws.proofs.Bools.{and_left, and_right}
use Rattle.size_laws.proofs.Digits.{show-long, ten-digits, signed-long, signed-most, prime-most}
use Rattle.size_laws.proofs.Sets.{layers-long}
use Rattle.size_laws.proofs.Bytes.{prefix-most}
use Rattle.size_laws.proofs.Printed.{part-long, family-long, tilde-long, prefix-long, separator-long}
use Rattle.display.specs.Squeezed.{squeezed_from, squeezed}
use Rattle.display.specs.Bound.{allowed_for, allowed}
use Rattle.display.proofs.Squeezing.{set-squeezed}
use Rattle.display.proofs.Leaves.{rotation-parts, move-parts}

-- Numbers: below 10^(i + 1) there are at most i + 1 digits.
show-size : (k n i : ℕ) (rest : List ℕ) → n < 10 ^ suc i → length (show_from k n rest) ≤ suc i + length rest
unfolding show_from
show-size zero n i rest h = omega arith
show-size (suc k) n i rest h = go (ltb n 10) refl i h (λ j. show-size k (n / 10) j ((48 + n % 10) ∷ rest))
  where
    go : (t : Bool) → ltb n 10 ≡ t → (i : ℕ) → n < 10 ^ suc i →
        ((j : ℕ) → n / 10 < 10 ^ suc j → length (show_from k (n / 10) ((48 + n % 10) ∷ rest)) ≤ suc j + length ((48 + n % 10) ∷ rest)) →
        length (pick t ((48 + n) ∷ rest) (show_from k (n / 10) ((48 + n % 10) ∷ rest))) ≤ suc i + length rest
    go true e i h f = omega arith
    go false e zero h f = absurd (omega (arith, ltb-false n 10 e))
    go false e (suc i) h f = omega (arith, f i (omega (arith, pow-suc 10 (suc i))))

multiplier-size : (m : ℤ) (rest : List ℕ) → length (put_multiplier m rest) ≤ 2 + pick (ltb 9 (nat_abs m)) 9 0 + length rest
multiplier-size m rest = go (eqb (nat_abs m) 1) (ltb 9 (nat_abs m)) refl
  where
    go : (t u : Bool) → ltb 9 (nat_abs m) ≡ u → length (pick t (put_prime m rest) (show (nat_abs m) (put_prime m rest))) ≤ 2 + pick u 9 0 + length rest
    go true u e = omega (arith, prime-most m rest)
    go false true e = omega (arith, show-long (nat_abs m) (put_prime m rest), ten-digits (nat_abs m), prime-most m rest)
    go false false e = omega (arith, show-size 10 (nat_abs m) 0 (put_prime m rest) (omega (arith, ltb-false 9 (nat_abs m) e)), prime-most m rest)

-- Parts of the text: without its white space one is no longer.
squeezed-size : (k : ℕ) (s : List ℕ) → length (squeezed_from k s) ≤ length s
unfolding squeezed_from
squeezed-size k [] = omega arith
squeezed-size (suc k) (b ∷ s) = omega (arith, squeezed-size k s)
squeezed-size zero (b ∷ s) = go (width_if white_space (b ∷ s)) (λ k. squeezed-size k s)
  where
    go : (w : ℕ) → ((k : ℕ) → length (squeezed_from k s) ≤ length s) →
        length (after_first w (b ∷ squeezed s) (λ k. squeezed_from k s)) ≤ length (b ∷ s)
    go zero f = omega (arith, f 0)
    go (suc k) f = omega (arith, f k)

constraints-size : (text : List ℕ) (c : Option Span) (rest : List ℕ) → constraints_ok text c ≡ true →
    length (put_constraints (constraint_meaning text c) rest) ≤ (or_nowhere c).size + length rest
constraints-size text none rest h = omega arith
constraints-size text (some p) rest h =
    let e = ap length (set-squeezed (part_of text p) (and_right (inside text p) _ h) rest) in
    omega (arith, e, length-append (squeezed (part_of text p)) rest, squeezed-size 0 (part_of text p), part-long text p)

-- a layer set may print a quarter longer than it is written
abbrev set_allowed : ℕ → ℕ
set_allowed n = n + n / 4

layers-size : (text : List ℕ) (l : Layers Span) (rest : List ℕ) → layers_ok text l ≡ true → FitsLayers l →
    length (put_layers (layer_meaning text l) rest) ≤ pick (not (eqb (layer_form l) 0)) 11 0 + set_allowed (set_part l).size + length rest
layers-size text no_layers rest h f = omega arith
layers-size text (single_layer i) rest h f = omega (arith, show-size 10 i 4 rest (omega arith))
layers-size text (layer_range i j) rest h f =
    omega (arith, show-size 10 i 4 (45 ∷ show j rest) (omega (arith, f.0)), show-size 10 j 4 rest (omega (arith, f.1)))
layers-size text (layer_set p) rest h f =
    omega (arith, layers-long (part_of text p) rest (and_right (inside text p) _ h), part-long text p)

-- what is allowed for a record and its layer set, where it has one
abbrev pub allowed_with_set : List ℕ → ℕ
allowed_with_set fs = allowed fs + set_allowed (set fs).size

-- by its fields, where its number fits
allowed-is : (kind t f p n n' : ℕ) (m : ℤ) (o : ℕ) (family constraints set : Span) (c : ℕ) → t < 2 → f < 4 → p < 2 → FitsNumber m →
    allowed_with_set (in_order kind t f p n n' (to_bits 32 m) o family constraints set c)
    ≡ allowed_for kind (nat_abs m) family.size constraints.size f + set_allowed set.size
allowed-is kind t f p n n' m o family constraints set c t-fits f-fits p-fits h =
    let k : (kind * 16 + t * 8 + f * 2 + p) / 16 ≡ kind = omega arith in
    let l : (kind * 16 + t * 8 + f * 2 + p) / 2 % 4 ≡ f = omega arith in
    rw (k, l, from_bits-to_bits 32 m (lit< tt) h)

-- a leaf and the space after it
leaf-size : (text : List ℕ) (x : Leaf) (rest : List ℕ) → leaf_ok text x ≡ true → FitsLeaf x →
    length (put_step (step_of text x) rest) + 1 ≤ allowed_with_set (head_fields (leaf_head x)) + length rest
unfolding put_step step_of
leaf-size text (rotation f c m) rest h e =
    let p = rotation-parts text f c m h in
    let after = put_multiplier m rest in
    let behind = put_constraints (constraint_meaning text c) after in
    omega (
      arith,
      allowed-is 6 0 0 (present c) 0 0 m 0 f (or_nowhere c) nowhere 1 (lit< tt) (lit< tt) (present-lt c) e.2,
      family-long text f behind,
      constraints-size text c after p.constraints,
      multiplier-size m rest,
    )
leaf-size text (move t l f c m) rest h e =
    let p = move-parts text t l f c m h in
    let after = put_multiplier m rest in
    let behind = put_constraints (constraint_meaning text c) after in
    let family = part_of text f ++ behind in
    omega (
      arith,
      allowed-is 7 (bit t) (layer_form l) (present c) 0 0 m (low_and_high l) f (or_nowhere c) (set_part l) 1 (bit-lt t) (layer_form-lt l) (present-lt c) e.3,
      bit-lt t,
      tilde-long t (put_layers (layer_meaning text l) family),
      layers-size text l family p.layers e.0,
      family-long text f behind,
      constraints-size text c after p.constraints,
      multiplier-size m rest,
    )
leaf-size text pause rest h e = omega arith
leaf-size text (pair u d) rest h e =
    omega (
      arith,
      allowed-is 9 0 0 0 0 0 u (to_bits 32 d) nowhere nowhere nowhere 1 (lit< tt) (lit< tt) (lit< tt) e.0,
      signed-long u (44 ∷ 32 ∷ show_signed d (41 ∷ rest)),
      signed-most u,
      ten-digits (nat_abs u),
      signed-long d (41 ∷ rest),
      signed-most d,
      ten-digits (nat_abs d),
    )
leaf-size text slash rest h e = omega arith
leaf-size text (megaminx Rpp) rest h e = omega arith
leaf-size text (megaminx Rmm) rest h e = omega arith
leaf-size text (megaminx Dpp) rest h e = omega arith
leaf-size text (megaminx Dmm) rest h e = omega arith

-- a group's four signs at most, its multiplier and the space after it
group-low : (k : GroupKind) → group_number k < 6
group-low Simple = lit< tt
group-low Macro = lit< tt
group-low Simultaneous = lit< tt
group-low Niss = lit< tt

binary-low : (k : BinaryGroupKind) → binary_number k < 6
binary-low Commutator = lit< tt
binary-low Conjugate = lit< tt

low-size : (kind n n' : ℕ) (m : ℤ) (c : ℕ) (rest : List ℕ) → kind < 6 → FitsNumber m →
    5 + length (put_multiplier m rest) ≤ allowed_with_set (in_order kind 0 0 0 n n' (to_bits 32 m) 0 nowhere nowhere nowhere c) + length rest
low-size kind n n' m c rest h f =
    let a = allowed-is kind 0 0 0 n n' m 0 nowhere nowhere nowhere c (lit< tt) (lit< tt) (lit< tt) f in
    let signs : ◌≡◌ {A = ℕ} (pick (ltb kind 6) 3 0) 3 = rw (lt-ltb kind 6 h) in
    omega (arith, a, signs, multiplier-size m rest)

body-size : (b : Body Leaf) (m : ℤ) (rest : List ℕ) → FitsHead (body_head b m) →
    5 + length (put_multiplier m rest) ≤ allowed_with_set (head_fields (body_head b m)) + length rest
body-size (group k a) m rest f = low-size (group_number k) (size a) 0 m (stored (block (group k a) m)) rest (group-low k) f.1
body-size (binary_group k a b) m rest f = low-size (binary_number k) (size a) (size b) m (stored (block (binary_group k a b) m)) rest (binary-low k) f.2

-- The first node of a list has no space before it.
first-unspaced : (l : NodeList Step) (rest : List ℕ) → length (put_nodes l rest) ≤ length (put_others l rest)
unfolding put_nodes put_others
first-unspaced nil rest = omega arith
first-unspaced (cons n l) rest = omega arith

-- The law: a node and the space after it, a group's contents with at most four signs, and a list with a space before each node, use what is
-- allowed for their records. What follows them is not counted.
abbrev pub allowed_all : List Head → ℕ
allowed_all hs = total (λ h. allowed_with_set (head_fields h)) hs

mutual
  unfolding node_heads body_heads heads total FitsNode FitsBody FitsTree node_ok body_ok tree_ok put_node put_body put_nodes put_others map_node map_body map_nodes

  node-size : (text : List ℕ) (n : Node Leaf) (hs : List Head) (rest : List ℕ) → node_ok text n ≡ true → FitsNode n →
      length (put_node (map_node (step_of text) n) rest) + 1 + allowed_all hs ≤ allowed_all (node_heads n hs) + length rest
  node-size text (leaf x) hs rest o f = omega (arith, leaf-size text x rest o f)
  node-size text (block b m) hs rest o f =
      omega (arith, contents-size text b hs (put_multiplier m rest) (and_right (multiplier_ok m) _ o) f.1, body-size b m rest f.0)

  contents-size : (text : List ℕ) (b : Body Leaf) (hs : List Head) (rest : List ℕ) → body_ok text b ≡ true → FitsBody b →
      length (put_body (map_body (step_of text) b) rest) + allowed_all hs ≤ 4 + allowed_all (body_heads b hs) + length rest
  contents-size text (group k a) hs rest o f =
      let inner = unspanned text a in
      omega (arith, list-size text a hs (41 ∷ rest) o f, first-unspaced inner (41 ∷ rest), prefix-long k (40 ∷ put_nodes inner (41 ∷ rest)), prefix-most k)
  contents-size text (binary_group k a b) hs rest o f =
      let second = put_nodes (unspanned text b) (93 ∷ rest) in
      omega (
        arith,
        list-size text a (heads b hs) (put_separator k second) (and_left (tree_ok text a) (tree_ok text b) o) f.0,
        list-size text b hs (93 ∷ rest) (and_right (tree_ok text a) (tree_ok text b) o) f.1,
        first-unspaced (unspanned text a) (put_separator k second),
        first-unspaced (unspanned text b) (93 ∷ rest),
        separator-long k second,
      )

  list-size : (text : List ℕ) (l : Tree) (hs : List Head) (rest : List ℕ) → tree_ok text l ≡ true → FitsTree l →
      length (put_others (unspanned text l) rest) + allowed_all hs ≤ allowed_all (heads l hs) + length rest
  list-size text nil hs rest o f = omega arith
  list-size text (cons n l) hs rest o f =
      omega (
        arith,
        node-size text n (heads l hs) (put_others (unspanned text l) rest) (and_left (node_ok text n) (tree_ok text l) o) f.0,
        list-size text l hs rest (and_right (node_ok text n) (tree_ok text l) o) f.1,
      )

pub printed-size : (text : List ℕ) (t : Tree) → tree_ok text t ≡ true → FitsTree t → length (printed text t) ≤ allowed_all (heads t [])
unfolding total
printed-size text t o f = omega (arith, list-size text t [] [] o f, first-unspaced (unspanned text t) [])
