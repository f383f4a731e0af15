-- Both inverses by one word: whether groups are entered.
use Rattle.std.specs.Prelude.{ℕ, Bool, true, false, List}
use Rattle.std.proofs.Math.Option.{Option}
use Rattle.notation.specs.Refusals.{Outcome}
use Rattle.notation.specs.Tree.{Tree}
use Rattle.notation.specs.Entries.{inverse, deep_inverse}
use Rattle.laws.specs.Inverted.{inverted, inv_refusal, deeply, deep_refusal}

abbrev pub refusing : Bool → Tree → Option ℕ
refusing true t = deep_refusal t
refusing false t = inv_refusal t

abbrev pub written : Bool → Tree → Tree
written true t = deeply t
written false t = inverted t

abbrev pub ruled : Bool → List ℕ → List ℕ → Outcome (List ℕ)
ruled true text tree = deep_inverse text tree
ruled false text tree = inverse text tree
