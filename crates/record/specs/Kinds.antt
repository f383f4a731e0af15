-- The numbers of a kind and of a form of layers, which stand in a record's first byte.
use Rattle.std.specs.Prelude.{ℕ}
use Rattle.record.specs.declared.kinds.Kind.{Kind}
use Rattle.record.specs.declared.kinds.Kind.TheVariants.{
  Simple,
  Macro,
  Simultaneous,
  Niss,
  Commutator,
  Conjugate,
  Rotation,
  Move,
  Pause,
  Pair,
  Slash,
  RPlus,
  RMinus,
  DPlus,
  DMinus,
  Unused,
}
use Rattle.record.specs.declared.kinds.LayerForm.{LayerForm}
use Rattle.record.specs.declared.kinds.LayerForm.TheVariants as form

abbrev pub kind_number : Kind → ℕ
kind_number Simple = 0
kind_number Macro = 1
kind_number Simultaneous = 2
kind_number Niss = 3
kind_number Commutator = 4
kind_number Conjugate = 5
kind_number Rotation = 6
kind_number Move = 7
kind_number Pause = 8
kind_number Pair = 9
kind_number Slash = 10
kind_number RPlus = 11
kind_number RMinus = 12
kind_number DPlus = 13
kind_number DMinus = 14
kind_number Unused = 15

abbrev pub form_number : LayerForm → ℕ
form_number form.None = 0
form_number form.Single = 1
form_number form.Range = 2
form_number form.Set = 3
