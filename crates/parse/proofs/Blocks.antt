-- What the readers of groups return. Assumes nothing.
use Prim.Native.Nat.{ℕ, ◌+◌, ◌*◌, ◌%◌, ◌-◌, ◌≤◌}
use mathlib.Core.Path.{◌≡◌, ap}
use mathlib.Core.Bool.{true, false}
use mathlib.Core.List.{List, ◌++◌}
use native.Mathlib.Omega.{arith}
use lib.Dec.{eqb}
use lib.ListN.{length, drop, set}
use Rattle.record.specs.Meaning.{COUNT}
use Rattle.notation.specs.Utf8.{byte_at}
use Rattle.notation.specs.Numbers.{from_bits}
use Rattle.notation.specs.Tree.{block, group, binary_group}
use Rattle.notation.specs.Packed.{RECORD, widths, lay_out, head_fields, Head, group_head, binary_head, body_head, node_size, body_size, size}
use Rattle.notation.specs.Grammar.{rejected, read, group_kind, group_node, binary_group_kind, binary_group_node, node_list}
use Rattle.notation.specs.declared.features.Features.{Features}
use Rattle.notation.specs.declared.common.GroupKind.{GroupKind}
use Rattle.notation.specs.declared.common.BinaryGroupKind.{BinaryGroupKind}
use Rattle.tally.specs.Tallies.{tally_record, tally_node, tally_body, tally_list}
use Rattle.tally.proofs.Sizes.{length-tally_record, length-tally_list}
use Rattle.parse.specs.Nodes.{Kept, WroteRecords, put, ListRead, NodeRead, NoNode, CloseRead, repeated}
use Rattle.parse.proofs.Buffers.{kept-all, kept_less, wrote_then, header}
use Rattle.parse.proofs.Bytes.{seen}
use Rattle.parse.proofs.Groups.{group-unopened, group-unclosed, group-read, binary-unsigned, binary-unclosed, binary-read}

-- the records of a group's lists, kept before the slot after its own
inner-kept : (slot : ℕ) (xs old mid : List ℕ) → WroteRecords (RECORD * (slot + 1)) xs old mid → Kept (RECORD * slot) old mid
inner-kept slot xs old mid w = kept_less (RECORD * slot) (RECORD * (slot + 1)) old mid (omega arith) w.kept

-- a group's record, written by its fields, before those of its lists
outer : (slot tally : ℕ) (fs : List ℕ) (h : Head) → set fs COUNT (tally % 256) ≡ set (head_fields h) COUNT (tally % 256) → (xs old mid : List ℕ) → WroteRecords (RECORD * (slot + 1)) xs old mid →
    WroteRecords (RECORD * slot) (tally_record tally h ++ xs) old (put (RECORD * slot) (lay_out widths (set fs COUNT (tally % 256))) mid)
outer slot tally fs h e xs old mid w =
    rw e (header (RECORD * slot) (RECORD * (slot + 1)) (tally_record tally h) xs old mid (omega (arith, length-tally_record tally h)) w)

module _ (f : Features) (text : List ℕ) (at slot tally : ℕ) (old : List ℕ) where
  module _ (kind : GroupKind) (bracket : ℕ) (starts : read kind bracket (drop bracket text) ≡ group_kind at (drop at text)) where
    pub no-group : eqb (byte_at text bracket) 40 ≡ false → NoNode (λ k. repeated f (group_node (node_list f k))) text at slot old old
    no-group e =
        record {
          rejects = λ k h. group-unopened f text at (node_list f k) kind bracket starts e;
          kept = kept-all (RECORD * slot) old;
        }

    module _ (opens : eqb (byte_at text bracket) 40 ≡ true) (later : at ≤ bracket) (mid : List ℕ) (close end : ℕ)
        (list : ListRead f text (bracket + 1) (slot + 1) (tally + 2) old mid close end) where
      lists : (k : ℕ) → length text - at ≤ k → node_list f k (bracket + 1) (drop (bracket + 1) text) ≡ read list.tree close (drop close text)
      lists k h = list.reads k (omega (arith, seen text bracket 40 (omega arith) opens))

      pub open-group : eqb (byte_at text close) 41 ≡ false → NoNode (λ k. repeated f (group_node (node_list f k))) text at slot old mid
      open-group e =
          record {
            rejects = λ k h. group-unclosed f text at (node_list f k) kind bracket starts opens list.tree close (lists k h) e;
            kept = inner-kept slot (tally_list (tally + 2) list.tree) old mid list.wrote;
          }

      pub closed-group : (bits next : ℕ) (fs : List ℕ) → fs ≡ head_fields (group_head kind (end - (slot + 1)) (from_bits 32 bits) 0) →
          CloseRead f text close 41 bits next →
          NodeRead (λ k. repeated f (group_node (node_list f k))) text at slot tally old (put (RECORD * slot) (lay_out widths (set fs COUNT (tally % 256))) mid) next end
      unfolding node_size body_size tally_node tally_body
      closed-group bits next fs laid closes =
          let m = from_bits 32 bits in
          let records : end - (slot + 1) ≡ size list.tree = omega (arith, list.slots) in
          record {
            node = block (group kind list.tree) m;
            reads = λ k h.
                group-read f text at (node_list f k) kind bracket starts opens list.tree close (lists k h) m next closes.stands closes.reads;
            slots = omega (arith, list.slots);
            advances = omega (arith, list.advances, closes.advances);
            inside = closes.inside;
            wrote = outer slot tally fs (body_head (group kind list.tree) m) (ap (λ (l : List ℕ). set l COUNT (tally % 256)) (rw records at laid)) (tally_list (tally + 2) list.tree) old mid list.wrote;
          }

  module _ (opens : eqb (byte_at text at) 91 ≡ true) (mid : List ℕ) (sign middle : ℕ)
      (a : ListRead f text (at + 1) (slot + 1) (tally + 2) old mid sign middle) where
    first : (k : ℕ) → length text - at ≤ k → node_list f k (at + 1) (drop (at + 1) text) ≡ read a.tree sign (drop sign text)
    first k h = a.reads k (omega (arith, seen text at 91 (omega arith) opens))

    pub unsigned-group : rejected ≡ binary_group_kind sign (drop sign text) → NoNode (λ k. repeated f (binary_group_node (node_list f k))) text at slot old mid
    unsigned-group e =
        record {
          rejects = λ k h. binary-unsigned f text at (node_list f k) opens a.tree sign (first k h) e;
          kept = inner-kept slot (tally_list (tally + 2) a.tree) old mid a.wrote;
        }

    module _ (kind : BinaryGroupKind) (signs : read kind (sign + 1) (drop (sign + 1) text) ≡ binary_group_kind sign (drop sign text)) (last : List ℕ) (close end : ℕ)
        (b : ListRead f text (sign + 1) middle (tally + 1) mid last close end) where
      second : (k : ℕ) → length text - at ≤ k → node_list f k (sign + 1) (drop (sign + 1) text) ≡ read b.tree close (drop close text)
      second k h = b.reads k (omega (arith, seen text at 91 (omega arith) opens, a.advances))

      both : WroteRecords (RECORD * (slot + 1)) (tally_list (tally + 2) a.tree ++ tally_list (tally + 1) b.tree) old last
      both =
          wrote_then (RECORD * (slot + 1)) (RECORD * middle) (tally_list (tally + 2) a.tree) old mid last
          (omega (arith, length-tally_list (tally + 2) a.tree, a.slots)) a.wrote (tally_list (tally + 1) b.tree) b.wrote

      pub open-binary : eqb (byte_at text close) 93 ≡ false → NoNode (λ k. repeated f (binary_group_node (node_list f k))) text at slot old last
      open-binary e =
          record {
            rejects = λ k h. binary-unclosed f text at (node_list f k) opens a.tree sign (first k h) kind signs b.tree close (second k h) e;
            kept = inner-kept slot (tally_list (tally + 2) a.tree ++ tally_list (tally + 1) b.tree) old last both;
          }

      pub closed-binary : (bits next : ℕ) (fs : List ℕ) → fs ≡ head_fields (binary_head kind (middle - (slot + 1)) (end - middle) (from_bits 32 bits) 0) →
          CloseRead f text close 93 bits next →
          NodeRead (λ k. repeated f (binary_group_node (node_list f k))) text at slot tally old (put (RECORD * slot) (lay_out widths (set fs COUNT (tally % 256))) last) next end
      unfolding node_size body_size tally_node tally_body
      closed-binary bits next fs laid closes =
          let m = from_bits 32 bits in
          let left : middle - (slot + 1) ≡ size a.tree = omega (arith, a.slots) in
          let right : end - middle ≡ size b.tree = omega (arith, b.slots) in
          record {
            node = block (binary_group kind a.tree b.tree) m;
            reads = λ k h.
                binary-read f text at (node_list f k) opens a.tree sign (first k h) kind signs b.tree close (second k h) m next closes.stands closes.reads;
            slots = omega (arith, a.slots, b.slots);
            advances = omega (arith, a.advances, b.advances, closes.advances);
            inside = closes.inside;
            wrote = outer slot tally fs (body_head (binary_group kind a.tree b.tree) m) (ap (λ (l : List ℕ). set l COUNT (tally % 256)) (rw (left, right) at laid)) (tally_list (tally + 2) a.tree ++ tally_list (tally + 1) b.tree) old last both;
          }
