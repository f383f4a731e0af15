-- The first refusal that unrolling meets, as the code has it, and that of a group by those of its lists. As in specs/Unroll of `notation`
-- a direction is a Bool: `true` is inverted.
use Rattle.std.specs.Prelude.{ℕ, Bool, ◌&&◌, eqb, ℤ, nat_abs}
use Rattle.std.proofs.Math.Option.{Option, none, some}
use Rattle.notation.specs.Basics.{pick}
use Rattle.notation.specs.Refusals.{NISS, OVERFLOW}
use Rattle.notation.specs.Lending.{number_of}
use Rattle.notation.specs.Unroll.{turned}
use Rattle.notation.specs.declared.common.BinaryGroupKind.TheVariants.{Commutator, Conjugate}
use Rattle.laws.specs.Unrolled.{if_reached, refusal_binary}
use Rattle.well_formed.specs.declared.refusals.Refusals.{Refusals}

-- the first refusal met in each direction
abbrev pub refuses : Refusals → Bool → Option ℕ
refuses s d = pick d (number_of s.backward) (number_of s.forward)

-- a leaf that cannot be undone, or can
abbrev pub leaf_refuses : Bool → Bool → Option ℕ
leaf_refuses overflows d = pick (d && overflows) (some OVERFLOW) none

-- a group by the number of its kind, and its contents played once; a and b are its lists
abbrev pub contents_refuse : (kind : ℕ) (a b : Bool → Option ℕ) → Bool → Option ℕ
contents_refuse kind a b d =
    pick (eqb kind 4) (refusal_binary Commutator d a b) (pick (eqb kind 5) (refusal_binary Conjugate d a b) (a d))

abbrev pub group_refuses : (kind : ℕ) → ℤ → (a b : Bool → Option ℕ) → Bool → Option ℕ
group_refuses kind m a b d = pick (eqb kind 3) (some NISS) (if_reached (nat_abs m) (contents_refuse kind a b (turned m d)))
