-- Counting a list by what its nodes store. Assumes nothing.
use Prim.Native.Nat.{ℕ, ◌+◌, ◌≤◌}
use mathlib.Core.Path.{◌≡◌, ap}
use mathlib.Core.List.{List}
use native.Mathlib.Omega.{arith}
use lib.ListN.{length}
use Rattle.notation.specs.Packed.{unpack}
use Rattle.notation.specs.Counts.{count_node, count}
use Rattle.notation.specs.Entries.{MAX-STEPS}
use Rattle.laws.specs.Packed.{Packed}
use Rattle.laws.proofs.Walking.{no_node}
use Rattle.nodes.specs.Nodes.{part, FirstNode}
use Rattle.expand.proofs.Shapes.{first_counted}

-- The loop: what is counted and what is left come to the whole.
pub record Counting (list t : List ℕ) (steps : ℕ) : Type 0 where
  pub packed : Packed t
  pub few : count (unpack list) ≤ MAX-STEPS
  pub joined : steps + count (unpack t) ≡ count (unpack list)

pub counting-starts : (list : List ℕ) → Packed list → count (unpack list) ≤ MAX-STEPS → Counting list list 0
counting-starts list p h = record { packed = p; few = h; joined = omega arith }

-- what is left has few steps too
pub left-few : {list t : List ℕ} {steps : ℕ} → Counting list t steps → count (unpack t) ≤ MAX-STEPS
left-few c = omega (arith, c.joined, c.few)

module _ {list t : List ℕ} {steps one e : ℕ} (c : Counting list t steps) (f : FirstNode t e) (p : one ≡ count_node f.node) where
  pub counted-few : steps + one ≤ MAX-STEPS
  counted-few = omega (arith, first_counted f, c.joined, c.few)

  pub counting-goes-on : Counting list (part e (length t) t) (steps + one)
  counting-goes-on = record { packed = f.packed_rest; few = c.few; joined = omega (arith, first_counted f, c.joined) }

pub counted : {list t : List ℕ} {steps : ℕ} → Counting list t steps → length t ≤ 0 → steps ≡ count (unpack list)
unfolding count
counted {list} {t} c h = omega (arith, ap count (no_node t c.packed (omega arith)), c.joined)
