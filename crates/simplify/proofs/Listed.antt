-- A range, if there is one, as a list. Assumes nothing.
use mathlib.Core.Path.{◌≡◌}
use mathlib.Core.Bool.{Bool}
use mathlib.Core.List.{[], ◌++◌}
use mathlib.Core.Option as rules
use mir.Val.{bool_byte}
use lib.ListN.{length}
use Rattle.std.specs.Prelude.{Option, Some, None, is_some}
use Rattle.notation.specs.Layers.{Range, insert, sort, join_from, join, simplified, keep}
use Rattle.layer.specs.Meaning.{range_option}
use Rattle.layer.specs.declared.range.LayerRange.{LayerRange}
use Rattle.simplify.specs.Reach.{listed}

pub count-listed : (o : Option LayerRange) (t : Bool) → t ≡ is_some o → bool_byte t ≡ length (listed o)
count-listed (Some r) t e = rw e
count-listed None t e = rw e

pub listed-simplified : (o : Option LayerRange) (r : rules.Option Range) → range_option o ≡ r → listed o ++ [] ≡ simplified (keep r [])
unfolding insert sort join_from join
listed-simplified (Some r) o e = rw (← e)
listed-simplified None o e = rw (← e)
