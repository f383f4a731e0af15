-- The bytes of a node: its record, its lists, and its place at the front of a list. Assumes nothing.
use Prim.Native.Nat.{ℕ, zero, suc, ◌+◌, ◌-◌, ◌*◌, ◌/◌, ◌≤◌, ◌<◌}
use mathlib.Core.Path.{◌≡◌, refl, sym, ap, ◌∙◌, subst}
use mathlib.Core.Bool.{Bool, true}
use mathlib.Core.List.{List, [], append-nil}
use native.Mathlib.Omega.{arith}
use lib.Dec.{ltb, lit<, lit≤}
use lib.IntN.{ℤ}
use lib.ListN.{length, get_or, take, drop, length-take, length-drop}
use lib.Seq.{take_all, take-take, length-take-le}
use Rattle.notation.specs.Numbers.{from_bits, to_bits}
use Rattle.notation.specs.Tree.{Leaf, rotation, move, pause, pair, slash, megaminx, Node, leaf, block, Body, group, binary_group, nil, cons, Tree}
use Rattle.notation.specs.Packed.{
  RECORD,
  widths,
  cut,
  leaf_head,
  body_head,
  head_fields,
  pack_node,
  unpack,
  pack,
  head_of,
  head_at,
  group_number,
  binary_number,
  node_head,
}
use Rattle.notation.specs.declared.common.GroupKind.{GroupKind}
use Rattle.notation.specs.declared.common.GroupKind.TheVariants.{Simple, Macro, Simultaneous, Niss}
use Rattle.notation.specs.declared.common.BinaryGroupKind.{BinaryGroupKind}
use Rattle.notation.specs.declared.common.BinaryGroupKind.TheVariants.{Commutator, Conjugate}
use Rattle.notation.specs.declared.common.MegaminxScrambleMove.TheVariants.{Rpp, Rmm, Dpp, Dmm}
use Rattle.numbers.proofs.TwosComplement.{from_bits-to_bits}
use Rattle.record.specs.Meaning.{field, kind_at, FIRST, NUMBER}
use Rattle.record.specs.Range.{FitsNumber, FitsHead}
use Rattle.record.proofs.KindTests.{leaf-high}
use Rattle.record.proofs.Numbered.{kind_of, kind-field}
use Rattle.record.proofs.RoundTrip.{length-head_record}
use Rattle.laws.specs.Packed.{FitsNode, FitsTree, Packed}
use Rattle.laws.proofs.Packing.{unpack-pack}
use Rattle.laws.proofs.Walking.{packed, packed-nil, no_node, node_end, Step, first-node, one_list, two-lists}
use Rattle.nodes.specs.Nodes.{IsNode, part, FirstNode, first_list, second_list, Lists}

pub part-rest : (a : ℕ) (bs : List ℕ) → part a (length bs) bs ≡ drop a bs
part-rest a bs = take_all (length bs - a) (drop a bs) (omega (arith, length-drop a bs))

pub part_length : (a e : ℕ) (bs : List ℕ) → length (part a e bs) ≤ length bs - a
part_length a e bs = omega (arith, length-take (e - a) (drop a bs), length-drop a bs)

pub length_part : (a e : ℕ) (bs : List ℕ) → e ≤ length bs → length (part a e bs) ≡ e - a
length_part a e bs h = length-take-le (e - a) (drop a bs) (omega (arith, length-drop a bs))

-- what makes walkers end: a node stands in its list, a list behind the record of its node, and what follows a node is shorter
pub node-less : (list bs : List ℕ) (e t : ℕ) → length bs ≤ length list → length list * 2 + 1 ≡ t → length (part 0 e bs) * 2 < t
node-less list bs e t h p = omega (arith, part_length 0 e bs)

pub list-less : (bs : List ℕ) (a e t : ℕ) → RECORD ≤ a → RECORD ≤ length bs → length bs * 2 ≡ t → length (part a e bs) * 2 + 1 < t
list-less bs a e t h l p = omega (arith, part_length a e bs)

pub rest-less : (bs : List ℕ) (e : ℕ) → RECORD ≤ e → e ≤ length bs → length (part e (length bs) bs) < length bs
rest-less bs e h l = omega (arith, part_length e (length bs) bs)

pub part-front : (e : ℕ) (bs : List ℕ) → part 0 e bs ≡ take e bs
part-front e bs = let z : e - 0 ≡ e = omega arith in ap (λ (k : ℕ). take k bs) z

-- the law of `node_end`
pub first_of : (bs : List ℕ) → Packed bs → 0 < length bs → FirstNode bs (node_end bs)
first_of bs p h = go (first-node bs p h)
  where
    go : (n : Node Leaf) × (l : Tree) × Step bs n l (node_end bs) → FirstNode bs (node_end bs)
    go (n, l, s) =
        record {
          node = n;
          least = s.least;
          most = s.most;
          is_node = record { bytes = sym (part-front (node_end bs) bs ∙ s.front); fits = s.fits_node };
          packed_rest = subst Packed (sym (part-rest (node_end bs) bs)) s.packed_back;
          unpacks = s.unpacks ∙ ap (cons n) (sym (ap unpack (part-rest (node_end bs) bs) ∙ s.unpacks_back));
        }

pub record-room : (bs : List ℕ) → Packed bs → 0 < length bs → RECORD ≤ length bs
record-room bs p h = let f = first_of bs p h in omega (arith, f.least, f.most)

-- A node's bytes are those of a list of one.
module _ {bs : List ℕ} {n : Node Leaf} (s : IsNode bs n) where
  one-bytes : pack (cons n nil) ≡ bs
  unfolding pack
  one-bytes = append-nil (pack_node n) ∙ s.bytes

  one-fits : FitsTree (cons n nil)
  unfolding FitsTree
  one-fits = (s.fits, tt)

  pub node-packed : Packed bs
  node-packed = subst Packed one-bytes (packed (cons n nil) one-fits)

  pub alone : unpack bs ≡ cons n nil
  alone = ap unpack (sym one-bytes) ∙ unpack-pack (cons n nil) one-fits

  node-some : 0 < length bs
  node-some = go (length bs) refl
    where
      go : (k : ℕ) → length bs ≡ k → 0 < length bs
      go zero e = absurd (let z : cons n nil ≡ nil = sym alone ∙ no_node bs node-packed e in let y : ◌≡◌ {A = ℕ} 0 1 = cc in omega arith)
      go (suc k) e = omega arith

  node-step : (l : Tree) × Step bs n l (node_end bs)
  node-step = go (first-node bs node-packed node-some)
    where
      go : (n₀ : Node Leaf) × (l : Tree) × Step bs n₀ l (node_end bs) → (l : Tree) × Step bs n l (node_end bs)
      go (n₀, l, t) = let e : cons n₀ l ≡ cons n nil = sym t.unpacks ∙ alone in let q : n₀ ≡ n = cc in (l, subst (λ (z : Node Leaf). Step bs z l (node_end bs)) q t)

  pub node-room : RECORD ≤ length bs
  node-room = omega (arith, node-step.1.least, node-step.1.most)

  pub node-head : head_at bs ≡ node_head n
  node-head = node-step.1.head

  pub fields-of : (i : ℕ) → field i bs ≡ get_or (head_fields (node_head n)) i 0
  fields-of = node-step.1.fields

pub node-unique : {bs : List ℕ} {n n₀ : Node Leaf} → IsNode bs n → IsNode bs n₀ → n ≡ n₀
node-unique {bs} {n} {n₀} s s₀ = let e : cons n nil ≡ cons n₀ nil = sym (alone s) ∙ alone s₀ in cc

-- The kind of each record.
pub leaf-kind : (x : Leaf) → (5 < kind_of (leaf_head x)) × (kind_of (leaf_head x) < 15)
leaf-kind (rotation f c m) = (lit< tt, lit< tt)
leaf-kind (move t l f c m) = (lit< tt, lit< tt)
leaf-kind pause = (lit< tt, lit< tt)
leaf-kind (pair u d) = (lit< tt, lit< tt)
leaf-kind slash = (lit< tt, lit< tt)
leaf-kind (megaminx Rpp) = (lit< tt, lit< tt)
leaf-kind (megaminx Rmm) = (lit< tt, lit< tt)
leaf-kind (megaminx Dpp) = (lit< tt, lit< tt)
leaf-kind (megaminx Dmm) = (lit< tt, lit< tt)

pub group-kind : (k : GroupKind) → group_number k < 4
group-kind Simple = lit< tt
group-kind Macro = lit< tt
group-kind Simultaneous = lit< tt
group-kind Niss = lit< tt

pub binary-kind : (k : BinaryGroupKind) → (4 ≤ binary_number k) × (binary_number k < 6)
binary-kind Commutator = (lit≤ tt, lit< tt)
binary-kind Conjugate = (lit≤ tt, lit< tt)

pub kind-of : {bs : List ℕ} {n : Node Leaf} → IsNode bs n → kind_at bs ≡ kind_of (node_head n)
kind-of {bs} {n} s = ap (λ (b : ℕ). b / 16) (fields-of s 0) ∙ kind-field (node_head n)

pub multiplier-of : {bs : List ℕ} (b : Body Leaf) {m : ℤ} → IsNode bs (block b m) → m ≡ from_bits 32 (field NUMBER bs)
unfolding FitsNode
multiplier-of {bs} b {m} s = go b s.fits.0 (fields-of s 3)
  where
    read : FitsNumber m → field NUMBER bs ≡ to_bits 32 m → m ≡ from_bits 32 (field NUMBER bs)
    read f e = sym (ap (from_bits 32) e ∙ from_bits-to_bits 32 m (lit< tt) f)

    go : (b : Body Leaf) → FitsHead (body_head b m) → field NUMBER bs ≡ get_or (head_fields (body_head b m)) 3 0 → m ≡ from_bits 32 (field NUMBER bs)
    go (group k a) f e = read f.1 e
    go (binary_group k a b) f e = read f.2 e

empty : {l : List ℕ} → l ≡ [] → Packed l × (unpack l ≡ nil)
unfolding pack FitsTree
empty e = (subst Packed (sym e) packed-nil, ap unpack e ∙ unpack-pack nil tt)

none-taken : (n : ℕ) (l : List ℕ) → n ≡ 0 → take n l ≡ []
none-taken n l e = ap (λ (k : ℕ). take k l) e

leaf-long : {bs : List ℕ} (x : Leaf) → IsNode bs (leaf x) → length bs ≡ RECORD
unfolding pack_node
leaf-long x s = ap length (sym s.bytes) ∙ length-head_record (leaf_head x)

-- the law of `first_end`
pub lists_of : (n : Node Leaf) {bs : List ℕ} → IsNode bs n → Lists bs (RECORD + RECORD * field FIRST bs)
lists_of (leaf x) {bs} s =
    let long = leaf-long x s in
    let one : field FIRST bs ≡ 0 = omega (arith, (node-step s).1.most) in
    let a = empty (none-taken (RECORD + RECORD * field FIRST bs - RECORD) (drop RECORD bs) (omega arith)) in
    let b = empty (none-taken (length bs - (RECORD + RECORD * field FIRST bs)) (drop (RECORD + RECORD * field FIRST bs) bs) (omega arith)) in
    record { least = omega arith; most = omega arith; packed_first = a.0; packed_second = b.0; unpacks_first = λ n i. a.1 ∙ ap first_list (node-unique s i); unpacks_second = λ n i. b.1 ∙ ap second_list (node-unique s i) }
lists_of (block (group k a) m) {bs} s =
    let o = one_list bs k a m s.fits s.bytes in
    let whole : part RECORD (RECORD + RECORD * field FIRST bs) bs ≡ drop RECORD bs = take_all (RECORD + RECORD * field FIRST bs - RECORD) (drop RECORD bs) (omega (arith, length-drop RECORD bs, o.long)) in
    let b = empty (none-taken (length bs - (RECORD + RECORD * field FIRST bs)) (drop (RECORD + RECORD * field FIRST bs) bs) (omega (arith, o.long))) in
    record {
      least = omega arith;
      most = omega (arith, o.long);
      packed_first = subst Packed (sym whole) o.packed_list;
      packed_second = b.0;
      unpacks_first = λ n i. ap unpack whole ∙ o.unpacks_list ∙ ap first_list (node-unique s i);
      unpacks_second = λ n i. b.1 ∙ ap second_list (node-unique s i);
    }
lists_of (block (binary_group k a b) m) {bs} s =
    let o = two-lists bs k a b m s.fits s.bytes in
    let e : RECORD + RECORD * field FIRST bs - RECORD ≡ RECORD * field FIRST bs = omega arith in
    let front : part RECORD (RECORD + RECORD * field FIRST bs) bs ≡ take (RECORD * field FIRST bs) (drop RECORD bs) = ap (λ (j : ℕ). take j (drop RECORD bs)) e in
    let back = part-rest (RECORD + RECORD * field FIRST bs) bs in
    record {
      least = omega arith;
      most = omega (arith, o.long);
      packed_first = subst Packed (sym front) o.packed_first;
      packed_second = subst Packed (sym back) o.packed_second;
      unpacks_first = λ n i. ap unpack front ∙ o.unpacks_first ∙ ap first_list (node-unique s i);
      unpacks_second = λ n i. ap unpack back ∙ o.unpacks_second ∙ ap second_list (node-unique s i);
    }

-- The first node of a list, by the kind k in the list's first record, which is the node's.
front-record : (bs : List ℕ) (e : ℕ) → RECORD ≤ e → take RECORD (part 0 e bs) ≡ take RECORD bs
front-record bs e h = ap (take RECORD) (part-front e bs) ∙ take-take RECORD e bs h

pub front-field : (bs : List ℕ) (e : ℕ) → RECORD ≤ e → (i : ℕ) → field i (part 0 e bs) ≡ field i bs
front-field bs e h i = ap (λ (l : List ℕ). get_or (cut widths l) i 0) (front-record bs e h)

pub first-low : {bs : List ℕ} {e k : ℕ} → FirstNode bs e → k ≡ kind_at bs → k ≤ 5 → kind_at (part 0 e bs) ≤ 5
first-low {bs} {e} f q h = omega (arith, front-field bs e f.least 0)

pub first_head : {bs : List ℕ} {e : ℕ} (f : FirstNode bs e) → head_at bs ≡ node_head f.node
first_head {bs} {e} f = ap (λ (b : List ℕ). head_of (cut widths b)) (sym (front-record bs e f.least)) ∙ node-head f.is_node

-- a leaf, which is one record
pub record FirstLeaf (bs : List ℕ) : Type 0 where
  pub step : Leaf
  pub first : FirstNode bs RECORD
  pub is_step : first.node ≡ leaf step

leaf-of : {bs : List ℕ} (n : Node Leaf) → IsNode bs n → 5 < kind_at bs → (x : Leaf) × (n ≡ leaf x)
leaf-of (leaf x) s h = (x, refl)
leaf-of (block (group g a) m) s h = absurd (omega (arith, kind-of s, group-kind g))
leaf-of (block (binary_group g a b) m) s h = absurd (omega (arith, kind-of s, (binary-kind g).1))

pub first_leaf : {bs : List ℕ} {r : Bool} → Packed bs → 0 < length bs → r ≡ ltb 5 (kind_at bs) → r ≡ true → FirstLeaf bs
first_leaf {bs} p h q taken =
    let f = first_of bs p h in
    let l : 5 < kind_at bs = leaf-high q taken in
    go (node_end bs) f (leaf-of f.node f.is_node (omega (arith, front-field bs (node_end bs) f.least 0)))
  where
    go : (e : ℕ) (f : FirstNode bs e) → (x : Leaf) × (f.node ≡ leaf x) → FirstLeaf bs
    go e f (x, i) =
        let long : e ≡ RECORD = omega (arith, length_part 0 e bs f.most, leaf-long x (subst (IsNode (part 0 e bs)) i f.is_node)) in
        let g : (g : FirstNode bs RECORD) × (g.node ≡ leaf x) = subst (λ (j : ℕ). (g : FirstNode bs j) × (g.node ≡ leaf x)) long (f, i) in
        record { step = x; first = g.0; is_step = g.1 }

pub leaf-node : {bs : List ℕ} (l : FirstLeaf bs) → IsNode (part 0 RECORD bs) (leaf l.step)
leaf-node {bs} l = subst (IsNode (part 0 RECORD bs)) l.is_step l.first.is_node

pub leaf-record : {bs : List ℕ} (l : FirstLeaf bs) → length (part 0 RECORD bs) ≡ RECORD
leaf-record l = leaf-long l.step (leaf-node l)

pub leaf-head : {bs : List ℕ} (l : FirstLeaf bs) → head_at bs ≡ leaf_head l.step
leaf-head l = first_head l.first ∙ ap node_head l.is_step
