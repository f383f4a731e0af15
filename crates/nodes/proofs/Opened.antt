-- Opened lists as bytes: the record of a first node that is a group replaced by the group's lists is the slice from the next record on.
-- Assumes nothing.
use Prim.Native.Nat.{ℕ}
use mathlib.Core.Path.{◌≡◌, sym, ap, ap₂, ◌∙◌, subst}
use mathlib.Core.List.{List, ◌++◌, append_assoc}
use lib.IntN.{ℤ}
use lib.ListN.{length, drop, take-append-drop}
use lib.Seq.{drop_at}
use Rattle.notation.specs.Tree.{Leaf, block, Body, group, binary_group, append, Tree}
use Rattle.notation.specs.Packed.{RECORD, head_record, body_head, pack_node, pack_body, pack, unpack}
use Rattle.record.proofs.RoundTrip.{length-head_record}
use Rattle.laws.specs.Packed.{FitsNode, FitsBody, FitsTree, Packed}
use Rattle.laws.specs.Opened.{opened}
use Rattle.laws.proofs.Packing.{pack-append, append-fits, unpack-pack}
use Rattle.laws.proofs.Walking.{packed}
use Rattle.nodes.specs.Nodes.{IsNode, part, FirstNode}
use Rattle.nodes.proofs.Nodes.{part-rest, part-front}

opened-bytes : (b : Body Leaf) (l : Tree) → pack_body b ++ pack l ≡ pack (opened b l)
unfolding pack_body
opened-bytes (group k a) l = sym (pack-append a l)
opened-bytes (binary_group k a b) l =
    append_assoc (pack a) (pack b) (pack l) ∙ ap (λ (s : List ℕ). pack a ++ s) (sym (pack-append b l)) ∙ sym (pack-append a (append b l))

opened-fits : (b : Body Leaf) (l : Tree) → FitsBody b → FitsTree l → FitsTree (opened b l)
unfolding FitsBody
opened-fits (group k a) l f g = append-fits a l f g
opened-fits (binary_group k a b) l f g = append-fits a (append b l) f.0 (append-fits b l f.1 g)

-- b is what the first node of bs holds, and e where that node ends
pub record FirstOpened (bs : List ℕ) (e : ℕ) (b : Body Leaf) : Type 0 where
  pub packed_opened : Packed (part RECORD (length bs) bs)
  pub unpacks_opened : unpack (part RECORD (length bs) bs) ≡ opened b (unpack (part e (length bs) bs))

pub first-opened : {bs : List ℕ} {e : ℕ} (f : FirstNode bs e) (b : Body Leaf) (m : ℤ) → f.node ≡ block b m → FirstOpened bs e b
unfolding pack_node FitsNode
first-opened {bs} {e} f b m i =
    record {
      packed_opened = subst Packed (sym bytes) (packed (opened b l) fits);
      unpacks_opened = ap unpack bytes ∙ unpack-pack (opened b l) fits;
    }
  where
    l : Tree
    l = unpack (part e (length bs) bs)

    node : IsNode (part 0 e bs) (block b m)
    node = subst (IsNode (part 0 e bs)) i f.is_node

    fits : FitsTree (opened b l)
    fits = opened-fits b l node.fits.1 f.packed_rest.fits

    whole : bs ≡ head_record (body_head b m) ++ (pack_body b ++ pack l)
    whole =
        sym (take-append-drop e bs)
        ∙ ap₂ (λ (s t : List ℕ). s ++ t) (sym (node.bytes ∙ part-front e bs)) (sym (f.packed_rest.whole ∙ part-rest e bs))
        ∙ append_assoc (head_record (body_head b m)) (pack_body b) (pack l)

    bytes : part RECORD (length bs) bs ≡ pack (opened b l)
    bytes =
        part-rest RECORD bs
        ∙ ap (drop RECORD) whole
        ∙ drop_at (head_record (body_head b m)) (pack_body b ++ pack l) RECORD (length-head_record (body_head b m))
        ∙ opened-bytes b l
