-- The elements of a layer set, one after another.
use Rattle.std.specs.Prelude.{ℕ, ◌≡◌, Bool, List, nat_abs, Result}
use Rattle.std.proofs.Math.Option.{Option, none, some}
use Rattle.notation.specs.Layers.{Range, LayerSetElement, single, range, element_range, set_ranges, lit, simplified}
use Rattle.notation.specs.Meaning.{layer_set_in, or_empty}
use Rattle.notation.specs.Refusals.{result}
use Rattle.notation.specs.Entries.{lent, lend, in_entries, range_bytes}
use Rattle.notation.specs.declared.refusals.Refusal.{Refusal}
use Rattle.layer.specs.Meaning.{IsLayer}
use Rattle.simplify.specs.Reach.{marked, marked_all}

-- what the grammar reads as a layer: 1 to 32,767, or its opposite
abbrev pub IsElement : LayerSetElement → Type 0
IsElement (single i) = IsLayer (nat_abs i)
IsElement (range i j) = IsLayer (nat_abs i) × IsLayer (nat_abs j)

abbrev pub marked_if : Option Range → List ℕ → List ℕ
marked_if none reach = reach
marked_if (some r) reach = marked r reach

-- the table with the range of one more element
abbrev pub marked_element : ℕ → Bool → LayerSetElement → List ℕ → List ℕ
marked_element n neg e reach = marked_if (element_range n neg e) reach

-- the table with those of a set
abbrev pub marked_set : ℕ → Bool → List LayerSetElement → List ℕ → List ℕ
marked_set n neg es reach = marked_all (set_ranges n neg es) reach

-- the ranges of a set, braces and all, or with a tilde the layers that they do not give
abbrev pub lit_set : ℕ → Bool → (inverted : Bool) → List ℕ → List Range
lit_set n neg inverted part = lit n inverted (set_ranges n neg (or_empty (layer_set_in part)))

-- the answer for ranges as they stand: lent as entries of four bytes
abbrev pub Gives : List Range → Result ℕ Refusal → List ℕ → List ℕ → Type 0
Gives l answer after before = lent answer after ≡ in_entries 4 (lend (result (range_bytes l)) before)

-- the answer for some ranges: simplified
abbrev pub GivesRanges : List Range → Result ℕ Refusal → List ℕ → List ℕ → Type 0
GivesRanges l answer after before = Gives (simplified l) answer after before
