-- The ranges that a prefix of a well-formed tree gives are ranges of the axis, and go by what it means. Assumes nothing.
use Prim.Native.Nat.{ℕ, ◌≤◌, min}
use mathlib.Core.Path.{◌≡◌, refl, sym, ap, ◌∙◌}
use mathlib.Core.Bool.{Bool, true, false}
use mathlib.Core.List.{List, []}
use mathlib.Core.Option.{none, some}
use native.Mathlib.Omega.{arith}
use lib.Dec.{leb}
use borrow.Author.Tests.{leb-true}
use Rattle.notation.specs.Basics.{pick}
use Rattle.notation.specs.Layers.{Range, LayerSetElement, clamp_to_layer_count, set_ranges, keep}
use Rattle.notation.specs.Tree.{Layers, no_layers, single_layer, layer_range, layer_set, Span, part_of}
use Rattle.notation.specs.Meaning.{layer_meaning}
use Rattle.notation.specs.WellFormed.{layers_ok}
use Rattle.notation.specs.Entries.{ranges_in}
use Rattle.layer.specs.Meaning.{RangeUpTo, IsRange}
use Rattle.complement_laws.proofs.Sorted.{All, nothing, ◌and◌}
use Rattle.simplify.proofs.Few.{set-on-axis}
use Rattle.simplify.proofs.Answers.{single-real, range-real}

one-on-axis : (n : ℕ) (r : Range) → IsRange r → All (RangeUpTo n) (keep (clamp_to_layer_count n r) [])
one-on-axis n r h = go (leb r.low n) refl where
  go : (t : Bool) → leb r.low n ≡ t → All (RangeUpTo n) (keep (pick t (some (record { low = r.low; high = min r.high n })) none) [])
  go true e =
      let on-axis : RangeUpTo n (record { low = r.low; high = min r.high n }) =
      record { low = h.low; ordered = omega (arith, h.ordered, leb-true r.low n e); high = omega arith } in
      on-axis and nothing
  go false e = nothing

pub ranges-on-axis : (text : List ℕ) (n : ℕ) (neg : Bool) (l : Layers Span) → 1 ≤ n → layers_ok text l ≡ true → All (RangeUpTo n) (ranges_in text n neg l)
ranges-on-axis text n neg no_layers least ok = one-on-axis n (record { low = 1; high = 1 }) (record { low = omega arith; ordered = omega arith; high = omega arith })
ranges-on-axis text n neg (single_layer i) least ok = one-on-axis n (record { low = i; high = i }) (single-real text i refl ok)
ranges-on-axis text n neg (layer_range i j) least ok = one-on-axis n (record { low = i; high = j }) (range-real text i j refl ok)
ranges-on-axis text n neg (layer_set p) least ok = set-on-axis n neg least (part_of text p)

-- what a prefix gives goes by what its contents mean
pub same-ranges : (text text' : List ℕ) (n : ℕ) (neg : Bool) (l l' : Layers Span) → layer_meaning text l ≡ layer_meaning text' l' → ranges_in text n neg l ≡ ranges_in text' n neg l'
same-ranges text text' n neg l l' e = by-meaning text l ∙ ap given e ∙ sym (by-meaning text' l') where
  given : Layers (List LayerSetElement) → List Range
  given no_layers = keep (clamp_to_layer_count n (record { low = 1; high = 1 })) []
  given (single_layer i) = keep (clamp_to_layer_count n (record { low = i; high = i })) []
  given (layer_range i j) = keep (clamp_to_layer_count n (record { low = i; high = j })) []
  given (layer_set s) = set_ranges n neg s

  by-meaning : (text : List ℕ) (l : Layers Span) → ranges_in text n neg l ≡ given (layer_meaning text l)
  by-meaning text no_layers = refl
  by-meaning text (single_layer i) = refl
  by-meaning text (layer_range i j) = refl
  by-meaning text (layer_set p) = refl
