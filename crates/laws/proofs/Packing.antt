-- Packing and unpacking undo one another, and what that says of well-formed trees. Assumes nothing.
use Prim.Native.Nat.{ℕ, zero, suc, ◌+◌, ◌*◌, ◌≤◌, ◌<◌}
use mathlib.Core.Path.{◌≡◌, refl, sym, ap, ap₂, subst, ◌∙◌}
use mathlib.Core.Bool.{Bool, true, false, ◌&&◌}
use mathlib.Core.List.{List, [], ◌∷◌, ◌++◌, append_assoc}
use mathlib.Core.Option.{Option, none, some}
use native.Mathlib.Omega.{arith}
use borrow.Author.Tests.{leb-true, le-leb, eq-eqb, eqb-true, ltb-true, lt-ltb}
use lib.Dec.{leb, eqb, lit<}
use lib.IntN.{ℤ, pos, negsuc}
use lib.ListN.{length, take, drop, length-append}
use lib.Seq.{take_at, drop_at, drop-drop}
use Rattle.notation.specs.Basics.{pick, same_list}
use Rattle.notation.specs.Numbers.{fits_bits}
use Rattle.notation.specs.Tree.{
  Span,
  Layers,
  no_layers,
  single_layer,
  layer_range,
  layer_set,
  Leaf,
  rotation,
  move,
  pause,
  pair,
  slash,
  megaminx,
  Node,
  leaf,
  block,
  Body,
  group,
  binary_group,
  nil,
  cons,
  append,
  Tree,
}
use Rattle.notation.specs.WellFormed.{
  inside,
  family_ok,
  constraints_ok,
  layers_ok,
  multiplier_ok,
  leaf_ok,
  node_ok,
  body_ok,
  tree_ok,
  depth,
  well_formed,
  MAX-NESTING,
}
use Rattle.notation.specs.Packed.{
  RECORD,
  Head,
  leaf_head,
  group_head,
  binary_head,
  head_record,
  node_size,
  body_size,
  size,
  body_head,
  pack_node,
  pack_body,
  pack,
  head_at,
  open_head,
  unpack_from,
  unpack,
}
use Rattle.notation.specs.Entries.{MAX-TEXT}
use Rattle.numbers.proofs.Positional.{Below, below-nil, below-append}
use Rattle.record.specs.Range.{FitsSpan, FitsFamily, FitsConstraints, FitsLayers, FitsNumber, FitsLeaf, FitsHead}
use Rattle.record.proofs.RoundTrip.{length-head_record, head_at-head_record, head_record-below}
use Rattle.record.proofs.Same.{same_refl, same-eq}
use Rattle.laws.proofs.Bools.{and_left, and_right, and_both}
use Rattle.laws.proofs.Fits.{family_fits, leaf_fits, node_fits, body_fits, tree_fits}
use Rattle.laws.specs.Packed.{FitsNode, FitsBody, FitsTree}

-- Each record takes as many bytes.
mutual
  unfolding node_size body_size size pack_node pack_body pack

  pub length-pack_node : (n : Node Leaf) → length (pack_node n) ≡ RECORD * node_size n
  length-pack_node (leaf x) = length-head_record (leaf_head x)
  length-pack_node (block b m) =
      length-append (head_record (body_head b m)) (pack_body b)
      ∙ omega (arith, length-head_record (body_head b m), length-pack_body b)

  pub length-pack_body : (b : Body Leaf) → length (pack_body b) ≡ RECORD * body_size b
  length-pack_body (group k a) = length-pack a
  length-pack_body (binary_group k a b) = length-append (pack a) (pack b) ∙ omega (arith, length-pack a, length-pack b)

  pub length-pack : (t : Tree) → length (pack t) ≡ RECORD * size t
  length-pack nil = refl
  length-pack (cons n l) = length-append (pack_node n) (pack l) ∙ omega (arith, length-pack_node n, length-pack l)

-- Appended lists stand one behind the other, and fit where both do.
pub pack-append : (a b : Tree) → pack (append a b) ≡ pack a ++ pack b
unfolding pack append
pack-append nil b = refl
pack-append (cons n a) b = ap (λ (s : List ℕ). pack_node n ++ s) (pack-append a b) ∙ sym (append_assoc (pack_node n) (pack a) (pack b))

pub append-fits : (a b : Tree) → FitsTree a → FitsTree b → FitsTree (append a b)
unfolding FitsTree append
append-fits nil b f g = g
append-fits (cons n a) b f g = (f.0, append-fits a b f.1 g)

-- One step of unpacking.
abbrev pub unpacked_by : ℕ → List ℕ → Head → Tree
unpacked_by k bs h =
    open_head h
    (λ n. unpack_from k (take (RECORD * n) (drop RECORD bs)))
    (λ n n'. unpack_from k (take (RECORD * n') (drop (RECORD + RECORD * n) bs)))
    (λ n. unpack_from k (drop (RECORD + RECORD * n) bs))

pub unpack-step : (k : ℕ) (bs : List ℕ) → 0 < length bs → unpack_from (suc k) bs ≡ unpacked_by k bs (head_at bs)
unfolding unpack_from
unpack-step k [] h = absurd (omega arith)
unpack-step k (b ∷ bs) h = refl

record-step : (k : ℕ) (h : Head) (rest : List ℕ) → FitsHead h →
    unpack_from (suc k) (head_record h ++ rest)
    ≡ open_head h (λ n. unpack_from k (take (RECORD * n) rest)) (λ n n'. unpack_from k (take (RECORD * n') (drop (RECORD * n) rest))) (λ n. unpack_from k (drop (RECORD * n) rest))
record-step k h rest f =
    unpack-step k (head_record h ++ rest) (rw (length-append (head_record h) rest, length-head_record h) (omega arith))
    ∙ ap (unpacked_by k (head_record h ++ rest)) (head_at-head_record h rest f)
    ∙ dropped h
  where
    past : (n : ℕ) → drop (RECORD + n) (head_record h ++ rest) ≡ drop n rest
    past n = sym (drop-drop n RECORD (head_record h ++ rest)) ∙ ap (drop n) (drop_at (head_record h) rest RECORD (length-head_record h))

    dropped : (g : Head) → unpacked_by k (head_record h ++ rest) g
        ≡ open_head g (λ n. unpack_from k (take (RECORD * n) rest)) (λ n n'. unpack_from k (take (RECORD * n') (drop (RECORD * n) rest))) (λ n. unpack_from k (drop (RECORD * n) rest))
    dropped (leaf_head x) = ap (λ (s : List ℕ). cons (leaf x) (unpack_from k s)) (past 0)
    dropped (group_head g n m c) =
        ap₂ (λ (a b : Tree). cons (block (group g a) m) b)
        (ap (λ (s : List ℕ). unpack_from k (take (RECORD * n) s)) (drop_at (head_record h) rest RECORD (length-head_record h)))
        (ap (unpack_from k) (past (RECORD * n)))
    dropped (binary_head g n n' m c) =
        ap₂ (λ (a b : Tree). cons (block (binary_group g a b) m) (unpack_from k (drop (RECORD + RECORD * (n + n')) (head_record h ++ rest))))
        (ap (λ (s : List ℕ). unpack_from k (take (RECORD * n) s)) (drop_at (head_record h) rest RECORD (length-head_record h)))
        (ap (λ (s : List ℕ). unpack_from k (take (RECORD * n') s)) (past (RECORD * n)))
        ∙ ap (λ (s : List ℕ). cons (block (binary_group g (unpack_from k (take (RECORD * n) rest)) (unpack_from k (take (RECORD * n') (drop (RECORD * n) rest)))) m) (unpack_from k s)) (past (RECORD * (n + n')))

pub unpack-nil : (k : ℕ) → unpack_from k [] ≡ nil
unfolding unpack_from
unpack-nil zero = refl
unpack-nil (suc k) = refl

front : (a : Tree) (rest : List ℕ) → take (RECORD * size a) (pack a ++ rest) ≡ pack a
front a rest = take_at (pack a) rest (RECORD * size a) (length-pack a)

back : (a : Tree) (rest : List ℕ) → drop (RECORD * size a) (pack a ++ rest) ≡ rest
back a rest = drop_at (pack a) rest (RECORD * size a) (length-pack a)

back-both : (a b : Tree) (rest : List ℕ) → drop (RECORD * (size a + size b)) (pack a ++ (pack b ++ rest)) ≡ rest
back-both a b rest =
    let e : RECORD * (size a + size b) ≡ RECORD * size a + RECORD * size b = omega arith in
    ap (λ (n : ℕ). drop n (pack a ++ (pack b ++ rest))) e
    ∙ sym (drop-drop (RECORD * size b) (RECORD * size a) (pack a ++ (pack b ++ rest)))
    ∙ ap (drop (RECORD * size b)) (back a (pack b ++ rest))
    ∙ back b rest

abbrev Back : ℕ → Tree → Type 0
Back k t = FitsTree t → size t ≤ k → unpack_from k (pack t) ≡ t

-- one more record, where fewer are given back
deeper : (k : ℕ) → ((t : Tree) → Back k t) → (t : Tree) → Back (suc k) t
unfolding FitsTree FitsNode FitsBody node_size body_size size pack_node pack_body pack
deeper k ih nil f h = unpack-nil (suc k)
deeper k ih (cons (leaf x) l) f h =
    record-step k (leaf_head x) (pack l) f.0 ∙ ap (cons (leaf x)) (ih l f.1 (omega arith))
deeper k ih (cons (block (group g a) m) l) f h =
    ap (unpack_from (suc k)) (append_assoc (head_record (body_head (group g a) m)) (pack a) (pack l))
    ∙ record-step k (body_head (group g a) m) (pack a ++ pack l) f.0.0
    ∙ ap₂ (λ (x y : Tree). cons (block (group g x) m) y)
    (ap (unpack_from k) (front a (pack l)) ∙ ih a f.0.1 (omega arith))
    (ap (unpack_from k) (back a (pack l)) ∙ ih l f.1 (omega arith))
deeper k ih (cons (block (binary_group g a b) m) l) f h =
    ap (unpack_from (suc k)) (append_assoc (head_record (body_head (binary_group g a b) m)) (pack a ++ pack b) (pack l)
    ∙ ap (λ (s : List ℕ). head_record (body_head (binary_group g a b) m) ++ s) (append_assoc (pack a) (pack b) (pack l)))
    ∙ record-step k (body_head (binary_group g a b) m) (pack a ++ (pack b ++ pack l)) f.0.0
    ∙ ap₂ (λ (x y : Tree). cons (block (binary_group g x y) m) (unpack_from k (drop (RECORD * (size a + size b)) (pack a ++ (pack b ++ pack l)))))
    (ap (unpack_from k) (front a (pack b ++ pack l)) ∙ ih a f.0.1.0 (omega arith))
    (ap (λ (s : List ℕ). unpack_from k (take (RECORD * size b) s)) (back a (pack b ++ pack l)) ∙ ap (unpack_from k) (front b (pack l)) ∙ ih b f.0.1.1 (omega arith))
    ∙ ap (λ (y : Tree). cons (block (binary_group g a b) m) y)
    (ap (unpack_from k) (back-both a b (pack l)) ∙ ih l f.1 (omega arith))

-- what packing writes, unpacking gives back
none_left : (t : Tree) → Back 0 t
unfolding node_size body_size size pack
none_left nil f h = unpack-nil 0
none_left (cons (leaf x) l) f h = absurd (omega arith)
none_left (cons (block b m) l) f h = absurd (omega arith)

pub unpack_from-pack : (k : ℕ) (t : Tree) → FitsTree t → size t ≤ k → unpack_from k (pack t) ≡ t
unpack_from-pack zero t = none_left t
unpack_from-pack (suc k) t = deeper k (λ t. unpack_from-pack k t) t

pub unpack-pack : (t : Tree) → FitsTree t → unpack (pack t) ≡ t
unpack-pack t f = unpack_from-pack (length (pack t)) t f (omega (arith, length-pack t))

-- A multiplier in bounds fits its field.
pub number_fits : (m : ℤ) → multiplier_ok m ≡ true → FitsNumber m
number_fits (pos n) h = h
number_fits (negsuc n) h =
    let e : suc n < 2147483648 = ltb-true (suc n) 2147483648 h in
    lt-ltb n 2147483648 (omega arith)

-- A tree in bounds over a text within the limit fits its records.
module _ (text : List ℕ) (short : length text ≤ MAX-TEXT) where
  span_fits : (p : Span) → inside text p ≡ true → FitsSpan p
  span_fits p h =
      let e : p.offset + p.size ≤ length text = leb-true (p.offset + p.size) (length text) h in
      record { offset = omega arith; size = omega arith }

  empty-family : (p : Span) → family_fits p ≡ true → p.size ≡ 0 → p.offset ≡ 0
  empty-family p h e = eqb-true p.offset 0 (rw e at h)

  family-fits : (p : Span) (n : ℕ) → family_ok text n p ≡ true → family_fits p ≡ true → FitsFamily p
  family-fits p n h e = record { span = span_fits p (and_left _ _ (and_left _ _ h)); empty = empty-family p e }

  named-fits : (p : Span) → family_ok text 1 p ≡ true → FitsFamily p
  named-fits p h =
      let e : 1 ≤ p.size = leb-true 1 p.size (and_right (inside text p) _ (and_left _ _ h)) in
      record { span = span_fits p (and_left _ _ (and_left _ _ h)); empty = λ z. absurd (omega arith) }

  constraints-fit : (c : Option Span) → constraints_ok text c ≡ true → FitsConstraints c
  constraints-fit none h = tt
  constraints-fit (some p) h = span_fits p (and_left _ _ h)

  layers-fit : (l : Layers Span) → layers_ok text l ≡ true → FitsLayers l
  layers-fit no_layers h = tt
  layers-fit (single_layer i) h = let e : i ≤ 32767 = leb-true i 32767 (and_right (leb 1 i) _ h) in omega arith
  layers-fit (layer_range i j) h =
      let e : j ≤ 32767 = leb-true j 32767 (and_right (leb 1 i && leb i j) _ h) in
      let d : i ≤ j = leb-true i j (and_right (leb 1 i) _ (and_left _ _ h)) in
      (omega arith, omega arith)
  layers-fit (layer_set p) h = span_fits p (and_left _ _ h)

  leaf-fits : (x : Leaf) → leaf_ok text x ≡ true → leaf_fits x ≡ true → FitsLeaf x
  unfolding leaf_ok leaf_fits
  leaf-fits (rotation f c m) h e = (
    family-fits f 0 (and_left _ _ (and_left _ _ h)) e,
    constraints-fit c (and_right (family_ok text 0 f) _ (and_left _ _ h)),
    number_fits m (and_right (family_ok text 0 f && constraints_ok text c) _ h),
  )
  leaf-fits (move t l f c m) h e = (
    layers-fit l (and_left _ _ (and_left _ _ (and_left _ _ h))),
    named-fits f (and_right (layers_ok text l) _ (and_left _ _ (and_left _ _ h))),
    constraints-fit c (and_right (layers_ok text l && family_ok text 1 f) _ (and_left _ _ h)),
    number_fits m (and_right (layers_ok text l && family_ok text 1 f && constraints_ok text c) _ h),
  )
  leaf-fits pause h e = tt
  leaf-fits (pair u d) h e = (and_left _ _ e, and_right (fits_bits 32 u) _ e)
  leaf-fits slash h e = tt
  leaf-fits (megaminx k) h e = tt

  mutual
    unfolding FitsTree FitsNode FitsBody node_ok body_ok tree_ok node_fits body_fits tree_fits node_size body_size size

    node-fits : (n : Node Leaf) → node_ok text n ≡ true → node_fits n ≡ true → node_size n ≤ MAX-TEXT → FitsNode n
    node-fits (leaf x) h e z = leaf-fits x h e
    node-fits (block b m) h e z =
        (body-head b m (and_left _ _ h) (omega arith), body-fits b (and_right (multiplier_ok m) _ h) e (omega arith))

    body-head : (b : Body Leaf) (m : ℤ) → multiplier_ok m ≡ true → body_size b ≤ MAX-TEXT → FitsHead (body_head b m)
    body-head (group k a) m h z = (omega arith, number_fits m h, omega arith)
    body-head (binary_group k a b) m h z = (omega arith, omega arith, number_fits m h, omega arith)

    body-fits : (b : Body Leaf) → body_ok text b ≡ true → body_fits b ≡ true → body_size b ≤ MAX-TEXT → FitsBody b
    body-fits (group k a) h e z = tree-fits a h e z
    body-fits (binary_group k a b) h e z = (
      tree-fits a (and_left _ _ h) (and_left _ _ e) (omega arith),
      tree-fits b (and_right (tree_ok text a) _ h) (and_right (tree_fits a) _ e) (omega arith),
    )

    pub tree-fits : (t : Tree) → tree_ok text t ≡ true → tree_fits t ≡ true → size t ≤ MAX-TEXT → FitsTree t
    tree-fits nil h e z = tt
    tree-fits (cons n l) h e z = (
      node-fits n (and_left _ _ h) (and_left _ _ e) (omega arith),
      tree-fits l (and_right (node_ok text n) _ h) (and_right (node_fits n) _ e) (omega arith),
    )

-- What fits its record has the numbers of what was read or unpacked.
family-fitted : (p : Span) → (p.size ≡ 0 → p.offset ≡ 0) → family_fits p ≡ true
family-fitted p h = go (eqb p.size 0) refl
  where
    go : (t : Bool) → eqb p.size 0 ≡ t → pick t (eqb p.offset 0) true ≡ true
    go true e = eq-eqb p.offset 0 (h (eqb-true p.size 0 e))
    go false e = refl

pub leaf-fitted : (x : Leaf) → FitsLeaf x → leaf_fits x ≡ true
unfolding leaf_fits
leaf-fitted (rotation f c m) h = family-fitted f h.0.empty
leaf-fitted (move t l f c m) h = refl
leaf-fitted pause h = refl
leaf-fitted (pair u d) h = and_both (fits_bits 32 u) _ h.0 h.1
leaf-fitted slash h = refl
leaf-fitted (megaminx k) h = refl

mutual
  unfolding FitsTree FitsNode FitsBody node_fits body_fits tree_fits

  node-fitted : (n : Node Leaf) → FitsNode n → node_fits n ≡ true
  node-fitted (leaf x) h = leaf-fitted x h
  node-fitted (block b m) h = body-fitted b h.1

  body-fitted : (b : Body Leaf) → FitsBody b → body_fits b ≡ true
  body-fitted (group k a) h = tree-fitted a h
  body-fitted (binary_group k a b) h = and_both (tree_fits a) _ (tree-fitted a h.0) (tree-fitted b h.1)

  pub tree-fitted : (t : Tree) → FitsTree t → tree_fits t ≡ true
  tree-fitted nil h = refl
  tree-fitted (cons n l) h = and_both (node_fits n) _ (node-fitted n h.0) (tree-fitted l h.1)

-- what packing writes of a tree in bounds is well formed, and a well-formed tree is what packing writes of its nodes
pub packed-well-formed : (text : List ℕ) (t : Tree) → FitsTree t → tree_ok text t ≡ true → depth t ≤ MAX-NESTING → well_formed text (pack t) ≡ true
unfolding well_formed
packed-well-formed text t f o d =
    rw (unpack-pack t f, same_refl (pack t), o, le-leb (depth t) MAX-NESTING d)

pub well-formed-packed : (text tree : List ℕ) → well_formed text tree ≡ true → pack (unpack tree) ≡ tree
unfolding well_formed
well-formed-packed text tree h = same-eq (pack (unpack tree)) tree (and_left _ _ (and_left _ _ h))

pub well-formed-ok : (text tree : List ℕ) → well_formed text tree ≡ true → tree_ok text (unpack tree) ≡ true
unfolding well_formed
well-formed-ok text tree h = and_right (same_list (pack (unpack tree)) tree) _ (and_left _ _ h)

pub well-formed-depth : (text tree : List ℕ) → well_formed text tree ≡ true → depth (unpack tree) ≤ MAX-NESTING
unfolding well_formed
well-formed-depth text tree h =
    leb-true (depth (unpack tree)) MAX-NESTING (and_right (same_list (pack (unpack tree)) tree && tree_ok text (unpack tree)) _ h)

-- packing writes bytes
mutual
  unfolding pack_node pack_body pack

  node-below : (n : Node Leaf) → Below 256 (pack_node n)
  node-below (leaf x) = head_record-below (leaf_head x)
  node-below (block b m) = below-append 256 _ (pack_body b) (head_record-below (body_head b m)) (body_below b)

  body_below : (b : Body Leaf) → Below 256 (pack_body b)
  body_below (group k a) = pack-below a
  body_below (binary_group k a b) = below-append 256 (pack a) (pack b) (pack-below a) (pack-below b)

  pub pack-below : (t : Tree) → Below 256 (pack t)
  pack-below nil = below-nil 256 (lit< tt)
  pack-below (cons n l) = below-append 256 (pack_node n) (pack l) (node-below n) (pack-below l)

pub well-formed-below : (text tree : List ℕ) → well_formed text tree ≡ true → Below 256 tree
well-formed-below text tree h = subst (Below 256) (well-formed-packed text tree h) (pack-below (unpack tree))
