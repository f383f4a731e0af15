-- What seeking a step of a counted tree leaves in a buffer of one record is a well-formed tree by itself, and prints as the step. Assumes nothing.
use Prim.Native.Nat.{ℕ, ◌≤◌}
use mathlib.Core.Path.{◌≡◌, sym, ap, ◌∙◌, subst}
use mathlib.Core.Bool.{false}
use mathlib.Core.List.{List, [], ◌++◌, append-nil}
use mathlib.Core.Option.{Option, some}
use lib.ListN.{length, drop, get_elem?, drop_of_length-le}
use Rattle.notation.specs.Tree.{Leaf}
use Rattle.notation.specs.Packed.{RECORD, leaf_record, unpack}
use Rattle.notation.specs.Invert.{undo}
use Rattle.laws.specs.Unrolled.{flat}
use Rattle.laws.proofs.All.{all-at}
use Rattle.laws.proofs.GoodSteps.{Shown, shown}
use Rattle.expand.specs.Places.{step_in, found}
use Rattle.checked.specs.Checked.{Counted}
use Rattle.checked.proofs.Played.{all-good}

pub sought : (text tree step after : List ℕ) (n k : ℕ) → Counted text tree n → length step ≤ RECORD →
    after ≡ found (step_in tree k) ++ drop RECORD step → (x : Leaf) → get_elem? (flat undo false (unpack tree)) k ≡ some x → Shown text x after
sought text tree step after n k c s e x i =
    let rest : drop RECORD step ≡ [] = drop_of_length-le step {i = RECORD} s in
    let bytes : after ≡ leaf_record x =
    e ∙ ap (λ (o : Option Leaf). found o ++ drop RECORD step) i ∙ ap (λ (l : List ℕ). leaf_record x ++ l) rest ∙ append-nil (leaf_record x) in
    subst (Shown text x) (sym bytes) (shown text x (all-at k (all-good c) i))
