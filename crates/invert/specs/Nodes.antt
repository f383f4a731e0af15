-- Nodes as the inverses take them.
use Rattle.std.specs.Prelude.{ℕ, ◌≤◌, ◌≡◌, Bool, true, false, List, ◌++◌, length, take}
use Rattle.std.proofs.Math.Option.{Option, none}
use Rattle.notation.specs.Tree.{Tree}
use Rattle.notation.specs.Packed.{RECORD, Head, leaf_head, group_head, binary_head, pack, unpack}
use Rattle.record.specs.Meaning.{kind_at}
use Rattle.laws.specs.Inverted.{inverted, leaf_refusal, deeply, deep_refusal}
use Rattle.laws.specs.Packed.{Packed}
use Rattle.nodes.specs.Nodes.{part}

-- the deep inverse, or the shallow one
abbrev pub inverse : Bool → Tree → Tree
inverse true = deeply
inverse false = inverted

abbrev pub head_refusal : Head → Option ℕ
head_refusal (leaf_head x) = leaf_refusal x
head_refusal (group_head k n m c) = none
head_refusal (binary_head k n n' m c) = none

-- the list that the deep inverse enters in the bytes of a group or a conjugate: from m to their end
pub record Inner (bs : List ℕ) (m : ℕ) : Type 0 where
  pub least : RECORD ≤ m
  pub most : m ≤ length bs
  pub packed : Packed (part m (length bs) bs)
  pub deep : take m bs ++ pack (deeply (unpack (part m (length bs) bs))) ≡ pack (deeply (unpack bs))
  pub refusal : (kind_at bs ≡ 3 → ⊥) → deep_refusal (unpack (part m (length bs) bs)) ≡ deep_refusal (unpack bs)
