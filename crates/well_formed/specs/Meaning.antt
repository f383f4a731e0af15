-- What the crate's answers mean.
use Rattle.std.specs.Prelude as code
use Rattle.std.specs.Prelude.{ℕ, ◌≡◌, Bool}
use Rattle.std.proofs.Math.Option.{Option, none, some}
use Rattle.notation.specs.Tree.{Leaf, Node, Tree}
use Rattle.laws.specs.Unrolled.{refusal_node, first_refusal}
use Rattle.well_formed.specs.Refusing.{refuses}
use Rattle.well_formed.specs.declared.walk.Visited.{Visited}

abbrev pub step_count : code.Option Visited → Option ℕ
step_count (code.Some v) = some v.steps
step_count code.None = none

-- what was met is the first refusal in each direction, of a list and of one node
abbrev pub Meets : code.Option Visited → Tree → Type 0
Meets (code.Some v) t = refuses v.met ≡ (λ (d : Bool). first_refusal d t)
Meets code.None t = Unit {0}

abbrev pub MeetsNode : code.Option Visited → Node Leaf → Type 0
MeetsNode (code.Some v) x = refuses v.met ≡ (λ (d : Bool). refusal_node d x)
MeetsNode code.None x = Unit {0}
