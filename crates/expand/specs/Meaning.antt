-- What the crate's flags mean in the rules.
use Rattle.std.specs.Prelude.{Bool, true, false}
use Rattle.notation.specs.declared.common.BinaryGroupKind.{BinaryGroupKind}
use Rattle.notation.specs.declared.common.BinaryGroupKind.TheVariants.{Commutator, Conjugate}

abbrev pub binary_kind : Bool → BinaryGroupKind
binary_kind true = Commutator
binary_kind false = Conjugate
