-- What a record says and what its signs are, by its kind. Assumes nothing.
use Prim.Native.Nat.{ℕ, zero, suc, ◌+◌, ◌-◌, ◌%◌, ◌<◌, ◌≤◌}
use mathlib.Core.Path.{◌≡◌}
use mathlib.Core.List.{List, ◌∷◌}
use native.Mathlib.Omega.{arith}
use lib.Dec.{ltb, eqb}
use lib.ListN.{get_or}
use Rattle.notation.specs.Basics.{pick}
use Rattle.notation.specs.Tree.{pause, megaminx}
use Rattle.notation.specs.Packed.{Head, leaf_head, group_number, binary_number, megaminx_number}
use Rattle.notation.specs.Print.{put_prefix, put_separator, put_megaminx}
use Rattle.notation.specs.declared.common.GroupKind.{GroupKind}
use Rattle.notation.specs.declared.common.GroupKind.TheVariants.{Simple, Macro, Simultaneous, Niss}
use Rattle.notation.specs.declared.common.BinaryGroupKind.{BinaryGroupKind}
use Rattle.notation.specs.declared.common.BinaryGroupKind.TheVariants.{Commutator, Conjugate}
use Rattle.notation.specs.declared.common.MegaminxScrambleMove.{MegaminxScrambleMove}
use Rattle.notation.specs.declared.common.MegaminxScrambleMove.TheVariants.{Rpp, Rmm, Dpp, Dmm}
use Rattle.record.proofs.Packed.{NoneBelow, by_kind}
use Rattle.display.specs.Written.{Wrote}
use Rattle.display.specs.declared.write.Printer.{Printer}

-- what a function that tells the kinds apart is to show
abbrev Opened : (old new : Printer) (kind : ℕ) → Type 0
Opened old new kind = (k : GroupKind) → kind ≡ group_number k → Wrote old new (λ rest. put_prefix k (40 ∷ rest))

abbrev Separated : (old new : Printer) (kind : ℕ) → Type 0
Separated old new kind = (k : BinaryGroupKind) → kind ≡ binary_number k → Wrote old new (put_separator k)

module _ {old new : Printer} {kind : ℕ} where
  pub macro-opened : kind ≡ 1 → Wrote old new (λ rest. 33 ∷ 40 ∷ rest) → Opened old new kind
  macro-opened h w Simple e = absurd (omega arith)
  macro-opened h w Macro e = w
  macro-opened h w Simultaneous e = absurd (omega arith)
  macro-opened h w Niss e = absurd (omega arith)

  pub simultaneous-opened : kind ≡ 2 → Wrote old new (λ rest. 38 ∷ 40 ∷ rest) → Opened old new kind
  simultaneous-opened h w Simple e = absurd (omega arith)
  simultaneous-opened h w Macro e = absurd (omega arith)
  simultaneous-opened h w Simultaneous e = w
  simultaneous-opened h w Niss e = absurd (omega arith)

  pub niss-opened : NoneBelow kind 3 → Wrote old new (λ rest. 94 ∷ 40 ∷ rest) → Opened old new kind
  niss-opened h w Simple e = absurd (h.0.0.1 e)
  niss-opened h w Macro e = absurd (h.0.1 e)
  niss-opened h w Simultaneous e = absurd (h.1 e)
  niss-opened h w Niss e = w

  pub commutator-separated : kind ≡ 4 → Wrote old new (λ rest. 44 ∷ 32 ∷ rest) → Separated old new kind
  commutator-separated h w Commutator e = w
  commutator-separated h w Conjugate e = absurd (omega arith)

  pub conjugate-separated : (kind ≡ 4 → ⊥) → Wrote old new (λ rest. 58 ∷ 32 ∷ rest) → Separated old new kind
  conjugate-separated h w Commutator e = absurd (h e)
  conjugate-separated h w Conjugate e = w

-- the letter and the sign of a scramble move
abbrev pub letter : ℕ → ℕ
letter kind = pick (ltb kind 13) 82 68

abbrev pub sign : ℕ → ℕ
sign kind = pick (eqb (kind % 2) 1) 43 45

pub scrambled : {old new : Printer} {kind a b : ℕ} → a ≡ letter kind → b ≡ sign kind → Wrote old new (λ rest. a ∷ b ∷ b ∷ rest) →
    (k : MegaminxScrambleMove) → kind ≡ megaminx_number k → Wrote old new (put_megaminx k)
scrambled l s w Rpp e = rw (l, s, e) at w
scrambled l s w Rmm e = rw (l, s, e) at w
scrambled l s w Dpp e = rw (l, s, e) at w
scrambled l s w Dmm e = rw (l, s, e) at w

pub scrambled-last : {old new : Printer} {kind : ℕ} → (kind ≡ 11 → ⊥) → (kind ≡ 12 → ⊥) → (kind ≡ 13 → ⊥) → Wrote old new (λ rest. 68 ∷ 45 ∷ 45 ∷ rest) →
    (k : MegaminxScrambleMove) → kind ≡ megaminx_number k → Wrote old new (put_megaminx k)
scrambled-last a b c w Rpp e = absurd (a e)
scrambled-last a b c w Rmm e = absurd (b e)
scrambled-last a b c w Dpp e = absurd (c e)
scrambled-last a b c w Dmm e = w

-- The record of each kind, as `head_at-kind` gives it.
abbrev told : List ℕ → ℕ → Head
told bs k = get_or (by_kind bs) k (leaf_head pause)

pub megaminx-told : (bs : List ℕ) (k : ℕ) → 11 ≤ k → k < 15 → (m : MegaminxScrambleMove) × (k ≡ megaminx_number m) × (told bs k ≡ leaf_head (megaminx m))
megaminx-told bs k l h = go (k - 11) (omega arith)
  where
    go : (d : ℕ) → k ≡ 11 + d → (m : MegaminxScrambleMove) × (k ≡ megaminx_number m) × (told bs k ≡ leaf_head (megaminx m))
    go zero e = (Rpp, e, rw e)
    go (suc zero) e = (Rmm, e, rw e)
    go (suc (suc zero)) e = (Dpp, e, rw e)
    go (suc (suc (suc zero))) e = (Dmm, e, rw e)
    go (suc (suc (suc (suc d)))) e = absurd (omega arith)
