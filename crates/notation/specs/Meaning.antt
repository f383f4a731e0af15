-- What the parts of the text mean, and when two records are the same step.
use Rattle.std.specs.Prelude.{ℕ, ◌≡◌, true, List, [], map}
use Rattle.std.proofs.Math.Option.{Option, none, some}
use Rattle.notation.specs.Layers.{LayerSetElement}
use Rattle.notation.specs.Tree.{
  Span,
  part_of,
  Constraint,
  Layers,
  no_layers,
  single_layer,
  layer_range,
  layer_set,
  Leaf,
  Step,
  rotation,
  move,
  pause,
  pair,
  slash,
  megaminx,
  Tree,
  NodeList,
  map_nodes,
}
use Rattle.notation.specs.Grammar.{constraint_set, layer_set_elements, at_end}

-- a part means its list of elements as read under all features
unfoldable pub constraints_in : List ℕ → Option (List Constraint)
constraints_in part = at_end (constraint_set 0 part)

unfoldable pub layer_set_in : List ℕ → Option (List LayerSetElement)
layer_set_in part = at_end (layer_set_elements true 0 part)

abbrev pub or_empty : {A : Type 0} → Option (List A) → List A
or_empty none = []
or_empty (some l) = l

abbrev pub constraint_meaning : List ℕ → Option Span → Option (List Constraint)
constraint_meaning text none = none
constraint_meaning text (some p) = some (or_empty (constraints_in (part_of text p)))

abbrev pub layer_meaning : List ℕ → Layers Span → Layers (List LayerSetElement)
layer_meaning text no_layers = no_layers
layer_meaning text (single_layer i) = single_layer i
layer_meaning text (layer_range i j) = layer_range i j
layer_meaning text (layer_set p) = layer_set (or_empty (layer_set_in (part_of text p)))

unfoldable pub step_of : List ℕ → Leaf → Step
step_of text (rotation f c m) = rotation (part_of text f) (constraint_meaning text c) m
step_of text (move t l f c m) = move t (layer_meaning text l) (part_of text f) (constraint_meaning text c) m
step_of text pause = pause
step_of text (pair u d) = pair u d
step_of text slash = slash
step_of text (megaminx k) = megaminx k

-- "the same step", wherever their texts stand
abbrev pub SameStep : List ℕ → Leaf → List ℕ → Leaf → Type 0
SameStep text x text' y = step_of text x ≡ step_of text' y

-- the same of two lists, step for step: as many steps, and at each place the same one
abbrev pub SameSteps : List ℕ → List Leaf → List ℕ → List Leaf → Type 0
SameSteps text l text' l' = map (step_of text) l ≡ map (step_of text') l'

abbrev pub unspanned : List ℕ → Tree → NodeList Step
unspanned text t = map_nodes (step_of text) t
