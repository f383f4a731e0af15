-- The first of two refusals of the code, by its number. Assumes nothing.
use mathlib.Core.Path.{◌≡◌, refl}
use Rattle.std.specs.Prelude as code
use Rattle.std.specs.Option.{option_or}
use Rattle.notation.specs.Lending.{number_of}
use Rattle.notation.specs.declared.refusals.Refusal.{Refusal}
use Rattle.laws.specs.Unrolled.{first}

pub or-first : (a b : code.Option Refusal) → number_of (option_or a b) ≡ first (number_of a) (number_of b)
or-first code.None b = refl
or-first (code.Some r) b = refl
