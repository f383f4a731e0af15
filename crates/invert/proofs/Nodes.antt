-- The bytes of one node: its record, its inverses, and the list that the deep inverse enters. Assumes nothing.
use Prim.Native.Nat.{ℕ, ◌+◌, ◌-◌, ◌≤◌, ◌<◌}
use mathlib.Core.Path.{◌≡◌, refl, sym, ap, ap₂, ◌∙◌, subst}
use mathlib.Core.List.{List, ◌++◌, append-nil, append_assoc}
use mathlib.Core.Option.{Option, none, some}
use native.Mathlib.Omega.{arith}
use lib.Dec.{lit≤}
use lib.IntN.{ℤ, neg_ℤ}
use lib.ListN.{length, take}
use lib.Seq.{take_at, take-add}
use Rattle.notation.specs.Refusals.{NISS}
use Rattle.notation.specs.Tree.{Leaf, Node, leaf, block, Body, group, binary_group, append, Tree}
use Rattle.notation.specs.Packed.{RECORD, Head, group_head, binary_head, head_record, group_number, size, body_head, pack_node, pack_body, pack, head_at, unpack, node_head}
use Rattle.notation.specs.Counts.{cap}
use Rattle.notation.specs.declared.common.GroupKind.{GroupKind}
use Rattle.notation.specs.declared.common.GroupKind.TheVariants.{Simple, Macro, Simultaneous, Niss}
use Rattle.notation.specs.declared.common.BinaryGroupKind.TheVariants.{Commutator, Conjugate}
use Rattle.record.specs.Meaning.{kind_at}
use Rattle.record.specs.Undone.{StartsRecord, undone_head}
use Rattle.record.proofs.RoundTrip.{length-head_record}
use Rattle.record.proofs.Undoing.{Undone, starts_with, undone-with}
use Rattle.laws.specs.Packed.{Packed}
use Rattle.laws.proofs.Walking.{inside, node-bytes, node-head-fits, node_end, one_list}
use Rattle.laws.specs.Inverted.{inverted, deeply, deeply_node, deeply_body, deep_refusal, deep_refusal_node, deep_refusal_body, niss_first}
use Rattle.laws.proofs.WellFormedInverses.{deeply-size, node-count, deeply_node-count}
use Rattle.nodes.specs.Nodes.{IsNode, part, Lists}
use Rattle.nodes.proofs.Nodes.{part-rest, first_of, node-room, node-head, alone, kind-of, leaf-kind, group-kind, binary-kind}
use Rattle.invert.specs.Nodes.{head_refusal, Inner}

pub packed-starts : (bs : List ℕ) → Packed bs → 0 < length bs → StartsRecord bs
unfolding pack
packed-starts bs p h =
    let f = first_of bs p h in
    let n = f.node in
    let rest = pack (unpack (part (node_end bs) (length bs) bs)) in
    starts_with bs (node_head n) (inside n ++ rest) (node-head-fits n f.is_node.fits)
    (sym p.whole ∙ ap pack f.unpacks ∙ ap (λ (s : List ℕ). s ++ rest) (node-bytes n) ∙ append_assoc (head_record (node_head n)) (inside n) rest)

undone-body : (b : Body Leaf) (m : ℤ) → undone_head (body_head b m) ≡ body_head b (neg_ℤ m)
undone-body (group k a) m = ap (group_head k (size a) (neg_ℤ m)) (ap cap (sym (node-count (block (group k a) m))))
undone-body (binary_group k a b) m = ap (binary_head k (size a) (size b) (neg_ℤ m)) (ap cap (sym (node-count (block (binary_group k a b) m))))

undone-node : (n : Node Leaf) {bs : List ℕ} → IsNode bs n → head_record (undone_head (node_head n)) ++ inside n ≡ pack (inverted (unpack bs))
unfolding pack pack_node inverted append
undone-node (leaf x) s = sym (ap (λ (t : Tree). pack (inverted t)) (alone s))
undone-node (block b m) s =
    ap (λ (h : Head). head_record h ++ pack_body b) (undone-body b m)
    ∙ sym (append-nil (head_record (body_head b (neg_ℤ m)) ++ pack_body b))
    ∙ sym (ap (λ (t : Tree). pack (inverted t)) (alone s))

module _ {bs : List ℕ} {n : Node Leaf} (s : IsNode bs n) where
  shape : bs ≡ head_record (node_head n) ++ inside n
  shape = sym s.bytes ∙ node-bytes n

  pub node-starts : StartsRecord bs
  node-starts = starts_with bs (node_head n) (inside n) (node-head-fits n s.fits) shape

  pub record_is : take RECORD bs ≡ head_record (node_head n)
  record_is = ap (take RECORD) shape ∙ take_at (head_record (node_head n)) (inside n) RECORD (length-head_record (node_head n))

  -- the node copied, and its first record undone
  pub copy-starts : {copy : List ℕ} → copy ≡ bs → StartsRecord copy
  copy-starts e = subst StartsRecord (sym e) node-starts

  pub copy-inverted : {copy out : List ℕ} → copy ≡ bs → Undone copy out → out ≡ pack (inverted (unpack bs))
  copy-inverted {copy} {out} e u =
      undone-with bs (node_head n) (inside n) (node-head-fits n s.fits) shape (subst (λ (l : List ℕ). Undone l out) e u)
      ∙ undone-node n s

-- The list that the deep inverse enters, from m on.
pub list-is : {bs : List ℕ} {a : Tree} → Packed bs → unpack bs ≡ a → bs ≡ pack a
list-is p u = sym p.whole ∙ ap pack u

inner_of : {bs : List ℕ} {n : Node Leaf} → IsNode bs n → {m : ℕ} {a : Tree} → RECORD ≤ m → m ≤ length bs → Packed (part m (length bs) bs) → unpack (part m (length bs) bs) ≡ a
    → take m bs ++ pack (deeply a) ≡ pack_node (deeply_node n) → ((kind_at bs ≡ 3 → ⊥) → deep_refusal a ≡ deep_refusal_node n) → Inner bs m
unfolding pack deeply deep_refusal append
inner_of {bs} {n} s {m} least most p u d r =
    record {
      least = least;
      most = most;
      packed = p;
      deep = ap (λ (t : Tree). take m bs ++ pack (deeply t)) u ∙ d ∙ sym (append-nil (pack_node (deeply_node n))) ∙ sym (ap (λ (t : Tree). pack (deeply t)) (alone s));
      refusal = λ h. ap deep_refusal u ∙ r h ∙ sym (ap deep_refusal (alone s));
    }

not-niss : (g : GroupKind) (q : Option ℕ) → (group_number g ≡ 3 → ⊥) → q ≡ niss_first g q
not-niss Simple q h = refl
not-niss Macro q h = refl
not-niss Simultaneous q h = refl
not-niss Niss q h = absurd (h refl)

pub group-inner : (n : Node Leaf) {bs : List ℕ} → IsNode bs n → kind_at bs ≤ 5 → (kind_at bs ≡ 4 → ⊥) → (kind_at bs ≡ 5 → ⊥) → Inner bs RECORD
unfolding pack_node pack_body deeply_node deeply_body deep_refusal_node deep_refusal_body
group-inner (leaf x) s h n4 n5 = absurd (omega (arith, kind-of s, (leaf-kind x).0))
group-inner (block (binary_group Commutator a b) m) s h n4 n5 = absurd (n4 (kind-of s))
group-inner (block (binary_group Conjugate a b) m) s h n4 n5 = absurd (n5 (kind-of s))
group-inner (block (group g a) m) {bs} s h n4 n5 =
    let o = one_list bs g a m s.fits s.bytes in
    inner_of s (lit≤ tt) (node-room s) (subst Packed (sym (part-rest RECORD bs)) o.packed_list) (ap unpack (part-rest RECORD bs) ∙ o.unpacks_list)
    (ap (λ (l : List ℕ). l ++ pack (deeply a)) (record_is s ∙ ap₂ (λ (z c : ℕ). head_record (group_head g z m c)) (sym (deeply-size a)) (ap cap (sym (deeply_node-count (block (group g a) m))))))
    (λ n3. not-niss g (deep_refusal a) (λ z. n3 (kind-of s ∙ z)))

pub conjugate-inner : (n : Node Leaf) {bs : List ℕ} {k : ℕ} → IsNode bs n → kind_at bs ≡ 5 → Lists bs k → Inner bs k
unfolding pack_node pack_body deeply_node deeply_body deep_refusal_node deep_refusal_body
conjugate-inner (leaf x) s h l = absurd (omega (arith, kind-of s, (leaf-kind x).0))
conjugate-inner (block (group g a) m) s h l = absurd (omega (arith, kind-of s, group-kind g))
conjugate-inner (block (binary_group Commutator a b) m) s h l = absurd (omega (arith, kind-of s))
conjugate-inner (block (binary_group Conjugate a b) m) {bs} {k} s h l =
    let hd = head_record (body_head (binary_group Conjugate a b) m) in
    let end : k ≡ RECORD + (k - RECORD) = omega (arith, l.least) in
    let front : take k bs ≡ hd ++ pack a =
    ap (λ (j : ℕ). take j bs) end ∙ take-add RECORD (k - RECORD) bs ∙ ap₂ (λ (x y : List ℕ). x ++ y) (record_is s) (list-is l.packed_first (l.unpacks_first _ s))
    in
    inner_of s l.least l.most l.packed_second (l.unpacks_second _ s)
    (ap (λ (x : List ℕ). x ++ pack (deeply b)) front
    ∙ append_assoc hd (pack a) (pack (deeply b))
    ∙ ap₂ (λ (z c : ℕ). head_record (binary_head Conjugate (size a) z m c) ++ (pack a ++ pack (deeply b))) (sym (deeply-size b)) (ap cap (sym (deeply_node-count (block (binary_group Conjugate a b) m)))))
    (λ n3. refl)

-- What one node is refused for.
pub niss-refused : (n : Node Leaf) {bs : List ℕ} → IsNode bs n → kind_at bs ≡ 3 → deep_refusal (unpack bs) ≡ some NISS
unfolding deep_refusal deep_refusal_node deep_refusal_body
niss-refused (leaf x) s h = absurd (omega (arith, kind-of s, (leaf-kind x).0))
niss-refused (block (group Simple a) m) s h = absurd (omega (arith, kind-of s))
niss-refused (block (group Macro a) m) s h = absurd (omega (arith, kind-of s))
niss-refused (block (group Simultaneous a) m) s h = absurd (omega (arith, kind-of s))
niss-refused (block (group Niss a) m) s h = ap deep_refusal (alone s)
niss-refused (block (binary_group g a b) m) s h = absurd (omega (arith, kind-of s, (binary-kind g).0))

pub commutator-refused : (n : Node Leaf) {bs : List ℕ} → IsNode bs n → kind_at bs ≡ 4 → deep_refusal (unpack bs) ≡ none
unfolding deep_refusal deep_refusal_node deep_refusal_body
commutator-refused (leaf x) s h = absurd (omega (arith, kind-of s, (leaf-kind x).0))
commutator-refused (block (group g a) m) s h = absurd (omega (arith, kind-of s, group-kind g))
commutator-refused (block (binary_group Commutator a b) m) s h = ap deep_refusal (alone s)
commutator-refused (block (binary_group Conjugate a b) m) s h = absurd (omega (arith, kind-of s))

pub leaf-refused : (n : Node Leaf) {bs : List ℕ} → IsNode bs n → 5 < kind_at bs → head_refusal (head_at bs) ≡ deep_refusal (unpack bs)
unfolding deep_refusal deep_refusal_node
leaf-refused (leaf x) s h = ap head_refusal (node-head s) ∙ sym (ap deep_refusal (alone s))
leaf-refused (block (group g a) m) s h = absurd (omega (arith, kind-of s, group-kind g))
leaf-refused (block (binary_group g a b) m) s h = absurd (omega (arith, kind-of s, (binary-kind g).1))
