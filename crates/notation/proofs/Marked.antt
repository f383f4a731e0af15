-- The marked items ◆ of document 01, settled from the rules.
use Prim.Native.Nat.{ℕ, zero, suc, ◌*◌}
use native.Mathlib.Nat.{zero-mul}
use mathlib.Core.Path.{◌≡◌, refl, sym, ◌∙◌, subst}
use mathlib.Core.Bool.{Bool, true, false}
use mathlib.Core.List.{List, [], ◌∷◌, ◌++◌, append-nil}
use mathlib.Core.Option.{none}
use lib.Dec.{leb}
use lib.IntN.{pos}
use lib.ListN.{length, length-append}
use native.Mathlib.Omega.{arith}
use Rattle.notation.specs.Tree.{Leaf, move, no_layers, span}
use Rattle.notation.specs.Refusals.{result, ◌>>=◌, ◌>>◌, unless, TOO-MANY-STEPS}
use Rattle.notation.specs.Unroll.{copies}
use Rattle.notation.specs.Entries.{MAX-STEPS}
use Rattle.notation.specs.Marked.{Marked, step_count}
use Rattle.notation.proofs.Opened.{opened}

pub length-copies : {A : Type 0} (n : ℕ) (l : List A) → length (copies n l) ≡ n * length l
unfolding copies
length-copies zero l = sym (zero-mul _)
length-copies (suc n) l = length-append l (copies n l) ∙ omega (arith, length-copies n l)

-- a list of known length is counted by that number, whether or not it can be written out
pub counted : (l : List Leaf) (n : ℕ) → length l ≡ n →
    ◌>>=◌ (◌>>◌ (unless TOO-MANY-STEPS (leb (length l) MAX-STEPS)) (result l)) (λ l. result (length l))
    ≡ ◌>>◌ (unless TOO-MANY-STEPS (leb n MAX-STEPS)) (result n)
counted l n e =
    subst
    (λ (m : ℕ). ◌>>=◌ (◌>>◌ (unless TOO-MANY-STEPS (leb (length l) MAX-STEPS)) (result l)) (λ l. result (length l))
    ≡ ◌>>◌ (unless TOO-MANY-STEPS (leb m MAX-STEPS)) (result m))
    e (go (leb (length l) MAX-STEPS))
  where
    go : (b : Bool) →
        ◌>>=◌ (◌>>◌ (unless TOO-MANY-STEPS b) (result l)) (λ l. result (length l)) ≡ ◌>>◌ (unless TOO-MANY-STEPS b) (result (length l))
    go true = refl
    go false = refl

-- two levels of repeats: counted by multiplication, never written out
most : step_count "((R)65535)65537" ≡ result 4294967295
unfolding opened
most =
    counted (copies 65537 (copies 65535 (move false no_layers (span 2 1) none (pos 1) ∷ []) ++ []) ++ []) 4294967295
    (simp (append-nil, length-copies))

pub marked : Marked
unfolding opened copies
marked = record {
  empty = refl;
  commutator = refl;
  commutator_inverted = refl;
  conjugate_inverted = refl;
  group_twice_inverted = refl;
  niss_not_reached = refl;
  least_number = refl;
  greatest_multiplier = refl;
  multiplier_too_large = refl;
  most_steps = most;
  set_of_layers = refl;
  range_cut_off = refl;
  range_too_deep = refl;
}
