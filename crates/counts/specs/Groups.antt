-- The count of a group from those of its lists, by the number of its kind. `group-stored` and `binary-stored`
-- (proofs/Capped.antt) say that it is what the group's record stores.
use Rattle.std.specs.Prelude.{ℕ, ◌*◌, eqb, ℤ, nat_abs}
use Rattle.notation.specs.Basics.{pick}
use Rattle.notation.specs.Counts.{cap, count_binary}
use Rattle.notation.specs.declared.common.BinaryGroupKind.TheVariants.{Commutator, Conjugate}

abbrev pub contents : (kind a b : ℕ) → ℕ
contents kind a b = pick (eqb kind 4) (count_binary Commutator a b) (pick (eqb kind 5) (count_binary Conjugate a b) a)

abbrev pub group_count : (kind : ℕ) → ℤ → (a b : ℕ) → ℕ
group_count kind m a b = pick (eqb kind 3) 0 (cap (nat_abs m * cap (contents kind a b)))
