-- The steps that a counted tree unrolls to are well formed and fit their records: all of them, and the one at each place below the count.
-- Assumes nothing.
use Prim.Native.Nat.{ℕ, ◌<◌}
use mathlib.Core.Bool.{false}
use mathlib.Core.List.{List}
use native.Mathlib.Omega.{arith}
use Rattle.notation.specs.Packed.{unpack}
use Rattle.notation.specs.Invert.{undo}
use Rattle.laws.specs.All.{All}
use Rattle.laws.specs.Unrolled.{flat}
use Rattle.laws.proofs.Counting.{count-is}
use Rattle.laws.proofs.GoodSteps.{Good, tree-good, There, at_place}
use Rattle.checked.specs.Checked.{Counted}

pub all-good : {text tree : List ℕ} {n : ℕ} → Counted text tree n → All (Good text) (flat undo false (unpack tree))
all-good {text} {tree} c = tree-good text (unpack tree) false c.accepted.ok c.accepted.packed.fits c.unrefused

pub there : (text tree : List ℕ) (n : ℕ) → Counted text tree n → (k : ℕ) → k < n → There text (flat undo false (unpack tree)) k
there text tree n c k h = at_place k (all-good c) (omega (arith, count-is (unpack tree) false, c.steps))
