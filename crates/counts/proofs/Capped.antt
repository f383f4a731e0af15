-- What `of_group` computes is what the group's record stores. Assumes nothing.
use Prim.Native.Nat.{ℕ, ◌*◌}
use mathlib.Core.Path.{◌≡◌, sym, ap, ◌∙◌}
use native.Mathlib.Nat.{zero-mul}
use lib.IntN.{ℤ, nat_abs}
use Rattle.notation.specs.Tree.{Tree, block, group, binary_group}
use Rattle.notation.specs.Packed.{group_number, binary_number}
use Rattle.notation.specs.Counts.{cap, count_binary, count_node, count_body, count, stored}
use Rattle.notation.specs.declared.common.GroupKind.{GroupKind}
use Rattle.notation.specs.declared.common.GroupKind.TheVariants.{Simple, Macro, Simultaneous, Niss}
use Rattle.notation.specs.declared.common.BinaryGroupKind.{BinaryGroupKind}
use Rattle.notation.specs.declared.common.BinaryGroupKind.TheVariants.{Commutator, Conjugate}
use Rattle.laws.proofs.Counting.{cap-times, cap-binary}
use Rattle.counts.specs.Groups.{group_count}

-- capped once or twice, the product is the same
capped-product : (n c : ℕ) → cap (n * cap (cap c)) ≡ cap (n * c)
capped-product n c = cap-times n (cap c) ∙ cap-times n c

pub group-stored : (k : GroupKind) (a : Tree) (m : ℤ) (b : ℕ) → group_count (group_number k) m (cap (count a)) b ≡ stored (block (group k a) m)
unfolding count_node count_body
group-stored Simple a m b = capped-product (nat_abs m) (count a)
group-stored Macro a m b = capped-product (nat_abs m) (count a)
group-stored Simultaneous a m b = capped-product (nat_abs m) (count a)
group-stored Niss a m b = sym (ap cap (zero-mul (count a)))

both_stored : (k : BinaryGroupKind) (n a b : ℕ) → cap (n * cap (count_binary k (cap a) (cap b))) ≡ cap (n * count_binary k a b)
both_stored k n a b = ap (λ (c : ℕ). cap (n * c)) (cap-binary k a b) ∙ cap-times n (count_binary k a b)

pub binary-stored : (k : BinaryGroupKind) (a b : Tree) (m : ℤ) → group_count (binary_number k) m (cap (count a)) (cap (count b)) ≡ stored (block (binary_group k a b) m)
unfolding count_node count_body
binary-stored Commutator a b m = both_stored Commutator (nat_abs m) (count a) (count b)
binary-stored Conjugate a b m = both_stored Conjugate (nat_abs m) (count a) (count b)
