-- Walking a packed list: its first node, the list after it, and a group's lists, each again packed. What walkers' proofs use.
-- Assumes nothing.
use Prim.Native.Nat.{ℕ, ◌+◌, ◌*◌, ◌≤◌, ◌<◌}
use mathlib.Core.Path.{◌≡◌, refl, sym, ap, ap₂, ◌∙◌, subst}
use mathlib.Core.List.{List, [], ◌∷◌, ◌++◌, append-nil, append_assoc}
use native.Mathlib.Omega.{arith}
use lib.IntN.{ℤ}
use lib.ListN.{length, get_or, take, drop, length-append}
use lib.Seq.{take_at, drop_at, drop-drop}
use Rattle.notation.specs.Tree.{Leaf, rotation, move, pause, pair, slash, megaminx, Node, leaf, block, group, binary_group, nil, cons, Tree}
use Rattle.notation.specs.Packed.{RECORD, widths, cut, Head, leaf_head, head_fields, head_record, node_size, body_size, size, body_head, node_head, pack_node, pack_body, pack, head_at, unpack}
use Rattle.notation.specs.Counts.{count_node, stored}
use Rattle.notation.specs.declared.common.GroupKind.{GroupKind}
use Rattle.notation.specs.declared.common.BinaryGroupKind.{BinaryGroupKind}
use Rattle.record.specs.Meaning.{field, FIRST, SECOND, COUNT}
use Rattle.record.specs.Range.{FitsHead}
use Rattle.record.proofs.RoundTrip.{length-head_record, head_at-head_record, cut-head_record}
use Rattle.laws.specs.Packed.{FitsNode, FitsBody, FitsTree}
use Rattle.laws.proofs.Packing.{length-pack_node, length-pack, unpack-pack}
use Rattle.laws.specs.Packed.{Packed}

pub packed : (t : Tree) → FitsTree t → Packed (pack t)
packed t f =
    record {
      whole = ap pack (unpack-pack t f);
      fits = subst FitsTree (sym (unpack-pack t f)) f;
    }

pub packed-nil : Packed []
unfolding pack FitsTree
packed-nil = packed nil tt

-- The bytes of a node behind its record.
abbrev pub inside : Node Leaf → List ℕ
inside (leaf x) = []
inside (block b m) = pack_body b

pub node-bytes : (n : Node Leaf) → pack_node n ≡ head_record (node_head n) ++ inside n
unfolding pack_node
node-bytes (leaf x) = sym (append-nil _)
node-bytes (block b m) = refl

pub node-head-fits : (n : Node Leaf) → FitsNode n → FitsHead (node_head n)
unfolding FitsNode
node-head-fits (leaf x) f = f
node-head-fits (block b m) f = f.0

-- the two counts of a record, both 0 in a leaf, give the end of its node
leaf-counts : (x : Leaf) → get_or (head_fields (leaf_head x)) FIRST 0 + get_or (head_fields (leaf_head x)) SECOND 0 ≡ 0
leaf-counts (rotation f c m) = refl
leaf-counts (move t l f c m) = refl
leaf-counts pause = refl
leaf-counts (pair u d) = refl
leaf-counts slash = refl
leaf-counts (megaminx k) = refl

node_counts : (n : Node Leaf) → 1 + (get_or (head_fields (node_head n)) FIRST 0 + get_or (head_fields (node_head n)) SECOND 0) ≡ node_size n
unfolding node_size body_size
node_counts (leaf x) = ap (λ (k : ℕ). 1 + k) (leaf-counts x)
node_counts (block (group k a) m) = omega arith
node_counts (block (binary_group k a b) m) = refl

-- the record of a node stores its step count, that of a leaf 1
pub leaf-stored : (x : Leaf) → get_or (head_fields (leaf_head x)) COUNT 0 ≡ 1
leaf-stored (rotation f c m) = refl
leaf-stored (move t l f c m) = refl
leaf-stored pause = refl
leaf-stored (pair u d) = refl
leaf-stored slash = refl
leaf-stored (megaminx k) = refl

pub head-stored : (n : Node Leaf) → get_or (head_fields (node_head n)) COUNT 0 ≡ stored n
unfolding count_node
head-stored (leaf x) = leaf-stored x
head-stored (block (group g a) m) = refl
head-stored (block (binary_group g a b) m) = refl

abbrev pub node_end : List ℕ → ℕ
node_end bs = RECORD * (1 + (field FIRST bs + field SECOND bs))

-- What stands at the front of a packed list.
pub record Step (bs : List ℕ) (node : Node Leaf) (rest : Tree) (e : ℕ) : Type 0 where
  pub unpacks : unpack bs ≡ cons node rest
  pub head : head_at bs ≡ node_head node
  pub fields : (i : ℕ) → field i bs ≡ get_or (head_fields (node_head node)) i 0
  pub ends : node_end bs ≡ e
  pub least : RECORD ≤ e
  pub most : e ≤ length bs
  pub front : take e bs ≡ pack_node node
  pub back : drop e bs ≡ pack rest
  pub unpacks_back : unpack (drop e bs) ≡ rest
  pub packed_front : Packed (take e bs)
  pub unpacks_front : unpack (take e bs) ≡ cons node nil
  pub packed_back : Packed (drop e bs)
  pub fits_node : FitsNode node

step_of : (n : Node Leaf) (l : Tree) (bs : List ℕ) → FitsTree (cons n l) → pack (cons n l) ≡ bs → Step bs n l (RECORD * node_size n)
unfolding FitsTree pack
step_of n l bs f e =
    record {
      unpacks = unpacks;
      head = ap head_at shape ∙ head_at-head_record (node_head n) (inside n ++ pack l) (node-head-fits n f.0);
      fields = fields;
      ends = ap (λ (k : ℕ). RECORD * k) (ap₂ (λ (x y : ℕ). 1 + (x + y)) (fields 1) (fields 2) ∙ node_counts n);
      least = omega (arith, positive n);
      most = let z : length bs ≡ RECORD * node_size n + length (pack l) = (ap length (sym e) ∙ length-append (pack_node n) (pack l) ∙ ap (λ (k : ℕ). k + length (pack l)) (length-pack_node n)) in omega arith;
      front = front;
      back = back;
      unpacks_back = ap unpack back ∙ unpack-pack l f.1;
      packed_front = subst Packed (sym (front ∙ single)) (packed (cons n nil) (f.0, tt));
      unpacks_front = ap unpack (front ∙ single) ∙ unpack-pack (cons n nil) (f.0, tt);
      packed_back = subst Packed (sym back) (packed l f.1);
      fits_node = f.0;
    }
  where
    shape : bs ≡ head_record (node_head n) ++ (inside n ++ pack l)
    shape = sym e ∙ ap (λ (s : List ℕ). s ++ pack l) (node-bytes n) ∙ append_assoc (head_record (node_head n)) (inside n) (pack l)

    unpacks : unpack bs ≡ cons n l
    unpacks = ap unpack (sym e) ∙ unpack-pack (cons n l) f

    fields : (i : ℕ) → field i bs ≡ get_or (head_fields (node_head n)) i 0
    fields i = ap (λ (s : List ℕ). get_or (cut widths (take RECORD s)) i 0) shape ∙ ap (λ (s : List ℕ). get_or s i 0) (cut-head_record (node_head n) (inside n ++ pack l) (node-head-fits n f.0))

    positive : (n : Node Leaf) → 1 ≤ node_size n
    positive n = omega (arith, node_counts n)

    front : take (RECORD * node_size n) bs ≡ pack_node n
    front = ap (take (RECORD * node_size n)) (sym e) ∙ take_at (pack_node n) (pack l) (RECORD * node_size n) (length-pack_node n)

    back : drop (RECORD * node_size n) bs ≡ pack l
    back = ap (drop (RECORD * node_size n)) (sym e) ∙ drop_at (pack_node n) (pack l) (RECORD * node_size n) (length-pack_node n)

    single : pack_node n ≡ pack_node n ++ []
    single = sym (append-nil (pack_node n))

-- a packed list is empty or has a first node
pub first-node : (bs : List ℕ) → Packed bs → 0 < length bs → (n : Node Leaf) × (l : Tree) × Step bs n l (node_end bs)
unfolding pack
first-node bs p h = go (unpack bs) p.whole p.fits
  where
    go : (t : Tree) → pack t ≡ bs → FitsTree t → (n : Node Leaf) × (l : Tree) × Step bs n l (node_end bs)
    go nil w f = absurd (let z : 0 ≡ length bs = ap length w in omega arith)
    go (cons n l) w f =
        let s = step_of n l bs f w in
        (n, l, subst (Step bs n l) (sym s.ends) s)

pub no_node : (bs : List ℕ) → Packed bs → length bs ≡ 0 → unpack bs ≡ nil
unfolding pack FitsTree
no_node [] p h = unpack-pack nil tt
no_node (b ∷ bs) p h = absurd (omega arith)

-- A group's lists.
pub record OneList (bs : List ℕ) (a : Tree) (n : ℕ) : Type 0 where
  pub count : n ≡ size a
  pub long : length bs ≡ RECORD + RECORD * n
  pub packed_list : Packed (drop RECORD bs)
  pub unpacks_list : unpack (drop RECORD bs) ≡ a

pub record TwoLists (bs : List ℕ) (a b : Tree) (n n' : ℕ) : Type 0 where
  pub count : n ≡ size a
  pub count' : n' ≡ size b
  pub long : length bs ≡ RECORD + (RECORD * n + RECORD * n')
  pub packed_first : Packed (take (RECORD * n) (drop RECORD bs))
  pub unpacks_first : unpack (take (RECORD * n) (drop RECORD bs)) ≡ a
  pub packed_second : Packed (drop (RECORD + RECORD * n) bs)
  pub unpacks_second : unpack (drop (RECORD + RECORD * n) bs) ≡ b

-- of the bytes of one node that is a group
pub one_list : (bs : List ℕ) (k : GroupKind) (a : Tree) (m : ℤ) → FitsNode (block (group k a) m) → pack_node (block (group k a) m) ≡ bs → OneList bs a (field FIRST bs)
unfolding FitsNode FitsBody pack_node pack_body
one_list bs k a m f e =
    record {
      count = fields 1;
      long = ap length (sym e) ∙ length-append (head_record h) (pack a) ∙ omega (arith, length-head_record h, length-pack a, fields 1);
      packed_list = subst Packed (sym list) (packed a f.1);
      unpacks_list = ap unpack list ∙ unpack-pack a f.1;
    }
  where
    h : Head
    h = body_head (group k a) m

    list : drop RECORD bs ≡ pack a
    list = ap (drop RECORD) (sym e) ∙ drop_at (head_record h) (pack a) RECORD (length-head_record h)

    fields : (i : ℕ) → field i bs ≡ get_or (head_fields h) i 0
    fields i = ap (λ (s : List ℕ). get_or (cut widths (take RECORD s)) i 0) (sym e) ∙ ap (λ (s : List ℕ). get_or s i 0) (cut-head_record h (pack a) f.0)

pub two-lists : (bs : List ℕ) (k : BinaryGroupKind) (a b : Tree) (m : ℤ) → FitsNode (block (binary_group k a b) m) → pack_node (block (binary_group k a b) m) ≡ bs →
    TwoLists bs a b (field FIRST bs) (field SECOND bs)
unfolding FitsNode FitsBody pack_node pack_body
two-lists bs k a b m f e =
    record {
      count = fields 1;
      count' = fields 2;
      long = ap length (sym e) ∙ length-append (head_record h) (pack a ++ pack b) ∙ omega (arith, length-head_record h, length-append (pack a) (pack b), length-pack a, length-pack b, fields 1, fields 2);
      packed_first = subst Packed (sym first) (packed a f.1.0);
      unpacks_first = ap unpack first ∙ unpack-pack a f.1.0;
      packed_second = subst Packed (sym second) (packed b f.1.1);
      unpacks_second = ap unpack second ∙ unpack-pack b f.1.1;
    }
  where
    h : Head
    h = body_head (binary_group k a b) m

    lists : drop RECORD bs ≡ pack a ++ pack b
    lists = ap (drop RECORD) (sym e) ∙ drop_at (head_record h) (pack a ++ pack b) RECORD (length-head_record h)

    fields : (i : ℕ) → field i bs ≡ get_or (head_fields h) i 0
    fields i = ap (λ (s : List ℕ). get_or (cut widths (take RECORD s)) i 0) (sym e) ∙ ap (λ (s : List ℕ). get_or s i 0) (cut-head_record h (pack a ++ pack b) f.0)

    first : take (RECORD * field FIRST bs) (drop RECORD bs) ≡ pack a
    first = ap₂ (λ (n : ℕ) (s : List ℕ). take (RECORD * n) s) (fields 1) lists ∙ take_at (pack a) (pack b) (RECORD * size a) (length-pack a)

    second : drop (RECORD + RECORD * field FIRST bs) bs ≡ pack b
    second =
        sym (drop-drop (RECORD * field FIRST bs) RECORD bs)
        ∙ ap₂ (λ (n : ℕ) (s : List ℕ). drop (RECORD * n) s) (fields 1) lists
        ∙ drop_at (pack a) (pack b) (RECORD * size a) (length-pack a)
