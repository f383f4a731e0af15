-- A commutator's lists exchanged: three parts copied, then the sizes of both written into its record. Assumes nothing.
use Prim.Native.Nat.{ℕ, ◌+◌, ◌-◌, ◌≤◌}
use mathlib.Core.Path.{◌≡◌, sym, ap, ap₂, ◌∙◌}
use mathlib.Core.List.{List, ◌++◌, append-nil, append_assoc}
use native.Mathlib.Omega.{arith}
use lib.ListN.{length, take, drop, length-append}
use lib.Seq.{take_at, length-take-le}
use Rattle.notation.specs.Tree.{Leaf, Node, leaf, block, group, binary_group, append, Tree}
use Rattle.notation.specs.Packed.{RECORD, binary_head, head_record, size, body_head, pack_node, pack_body, pack, unpack}
use Rattle.notation.specs.Counts.{cap, stored}
use Rattle.notation.specs.declared.common.BinaryGroupKind.TheVariants.{Commutator, Conjugate}
use Rattle.record.specs.Meaning.{field, with_lists, kind_at, FIRST, SECOND}
use Rattle.record.proofs.Storing.{lists-set}
use Rattle.laws.specs.Inverted.{deeply, deeply_node, deeply_body}
use Rattle.laws.proofs.WellFormedInverses.{deeply_node-count}
use Rattle.nodes.specs.Nodes.{IsNode, part, Lists}
use Rattle.nodes.proofs.Nodes.{length_part, node-room, fields-of, alone, kind-of, leaf-kind, group-kind}
use Rattle.invert.proofs.Nodes.{record_is, list-is}
use Rattle.invert.proofs.Loops.{put_part, put_last, same-length-fronts}

-- a list written in three parts, the first p long, the second from p to k
three-parts : (out a b c : List ℕ) (p k : ℕ) → p ≤ k → length a ≡ p → length b ≡ k - p → (out₂ : List ℕ) → out₂ ≡ put_part p k (a ++ drop p out) b
    → put_part k (length out₂) out₂ c ≡ a ++ (b ++ c)
three-parts out a b c p k h ea eb out₂ e =
    let tail = drop (k - p) (drop p (a ++ drop p out)) in
    let second : out₂ ≡ (a ++ b) ++ tail =
    e ∙ ap (λ (s : List ℕ). s ++ (b ++ tail)) (take_at a (drop p out) p ea) ∙ sym (append_assoc a b tail)
    in
    let front : take k out₂ ≡ a ++ b = ap (take k) second ∙ take_at (a ++ b) tail k (length-append a b ∙ omega arith) in
    let long : k ≤ length out₂ = omega (arith, ap length second ∙ length-append (a ++ b) tail, length-append a b) in
    put_last k out₂ c long ∙ ap (λ (s : List ℕ). s ++ c) front ∙ append_assoc a b c

-- the parts in their new order, and their sizes exchanged in the record
exchanged : (n : Node Leaf) {bs : List ℕ} {m : ℕ} → IsNode bs n → kind_at bs ≡ 4 → Lists bs m → (c c' : ℕ) → c ≡ field FIRST bs → c' ≡ field SECOND bs
    → with_lists c' c (take RECORD bs ++ (part m (length bs) bs ++ part RECORD m bs)) ≡ pack (deeply (unpack bs))
unfolding pack_node pack_body pack deeply deeply_node deeply_body append
exchanged (leaf x) s kind l c c' ec ec' = absurd (omega (arith, kind-of s, (leaf-kind x).0))
exchanged (block (group g a) m) s kind l c c' ec ec' = absurd (omega (arith, kind-of s, group-kind g))
exchanged (block (binary_group Conjugate a b) m) s kind l c c' ec ec' = absurd (omega (arith, kind-of s))
exchanged (block (binary_group Commutator a b) m) {bs} s kind l c c' ec ec' =
    rw (ec ∙ fields-of s 1, ec' ∙ fields-of s 2)
    (ap₂ (λ (x y : List ℕ). with_lists (size b) (size a) (x ++ y)) (record_is s)
    (ap₂ (λ (x y : List ℕ). x ++ y) (list-is l.packed_second (l.unpacks_second _ s)) (list-is l.packed_first (l.unpacks_first _ s)))
    ∙ lists-set Commutator (size a) (size b) (size b) (size a) m (stored (block (binary_group Commutator a b) m)) (pack b ++ pack a)
    ∙ ap (λ (z : ℕ). head_record (binary_head Commutator (size b) (size a) m (cap z)) ++ (pack b ++ pack a)) (sym (deeply_node-count (block (binary_group Commutator a b) m)))
    ∙ sym (append-nil (head_record (body_head (binary_group Commutator b a) m) ++ (pack b ++ pack a)))
    ∙ sym (ap (λ (t : Tree). pack (deeply t)) (alone s)))

-- The three copies and the two sizes, as the code makes them: each part is as long as its place.
module _ {bs : List ℕ} {n : Node Leaf} {m : ℕ} (s : IsNode bs n) (kind : kind_at bs ≡ 4) (l : Lists bs m) (out : List ℕ) where
  abbrev k : ℕ
  k = RECORD + (length bs - m)

  pub first-place : length out ≡ length bs → length (take RECORD out) ≡ length (take RECORD bs)
  first-place long = same-length-fronts out bs RECORD (omega (arith, long, node-room s)) (node-room s)

  pub exchanged-lists : (c c' : ℕ) → c ≡ field FIRST bs → c' ≡ field SECOND bs → (l₁ l₂ l₃ : List ℕ)
      → l₁ ≡ take RECORD bs → l₂ ≡ part m (length bs) bs → l₃ ≡ part RECORD m bs → (out₂ : List ℕ) → out₂ ≡ put_part RECORD k (l₁ ++ drop RECORD out) l₂
      → with_lists c' c (put_part k (length out₂) out₂ l₃) ≡ pack (deeply (unpack bs))
  exchanged-lists c c' ec ec' l₁ l₂ l₃ e₁ e₂ e₃ out₂ e =
      let long₁ : length l₁ ≡ RECORD = ap length e₁ ∙ length-take-le RECORD bs (node-room s) in
      let long₂ : length l₂ ≡ k - RECORD = ap length e₂ ∙ length_part m (length bs) bs (omega arith) ∙ omega arith in
      ap (with_lists c' c)
      (three-parts out l₁ l₂ l₃ RECORD k (omega arith) long₁ long₂ out₂ e ∙ ap₂ (λ (x y : List ℕ). x ++ y) e₁ (ap₂ (λ (x y : List ℕ). x ++ y) e₂ e₃))
      ∙ exchanged n s kind l c c' ec ec'
