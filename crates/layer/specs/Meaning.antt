-- What the crate's types mean in the rules' terms, what holds of every value that the crate makes, and what its functions
-- compute where the rules have no name for it.
use Rattle.std.specs.Prelude.{ℕ, zero, suc, ◌≤◌, min, max, Bool, true, false, leb, ℤ, pos, negsuc, neg_ℤ, Some, None}
use Rattle.std.specs.Prelude.{Option as Maybe}
use Rattle.std.proofs.Math.Option.{Option, none, some}
use Rattle.notation.specs.Basics.{pick, between}
use Rattle.notation.specs.Layers as rule
use Rattle.notation.specs.Layers.{MAX-LAYER, Range, range_between}
pub use Rattle.layer.specs.Bounds.{LayerUpTo, IsLayer}
use Rattle.layer.specs.declared.unsigned.Layer.{Layer}
use Rattle.layer.specs.declared.signed.SignedLayer.{SignedLayer}
use Rattle.layer.specs.declared.range.LayerRange.{LayerRange}
use Rattle.layer.specs.declared.count.UnclampedLayer.{UnclampedLayer}
use Rattle.layer.specs.declared.count.UnclampedLayer.TheVariants.{BeyondShallowest, Concrete, BeyondDeepest, Invalid}

-- ── what the types mean ──

abbrev pub layer : Layer → ℕ
layer l = l.0

abbrev pub layer_option : Maybe Layer → Option ℕ
layer_option (Some l) = some (layer l)
layer_option None = none

-- `i`, or −`i`
abbrev pub with_sign : Bool → ℕ → ℤ
with_sign negative i = pick negative (neg_ℤ (pos i)) (pos i)

abbrev pub signed : SignedLayer → ℤ
signed s = with_sign s.negative (layer s.layer)

abbrev pub range : LayerRange → Range
range r = record { low = layer r.min; high = layer r.max }

abbrev pub range_option : Maybe LayerRange → Option Range
range_option (Some r) = some (range r)
range_option None = none

-- ── what holds of the values that the crate makes ──

-- some of layers 1 to n, at least one
pub record RangeUpTo (n : ℕ) (r : Range) : Type 0 where
  pub low : 1 ≤ r.low
  pub ordered : r.low ≤ r.high
  pub high : r.high ≤ n

abbrev pub IsRange : Range → Type 0
IsRange r = RangeUpTo MAX-LAYER r

-- what an option holds, if anything, is as P says
abbrev pub Each : {A : Type 0} → (A → Type 0) → Option A → Type 0
Each P (some a) = P a
Each P none = Unit {0}

abbrev pub ConcreteUpTo : ℕ → UnclampedLayer → Type 0
ConcreteUpTo n BeyondShallowest = Unit {0}
ConcreteUpTo n (Concrete l) = LayerUpTo n (layer l)
ConcreteUpTo n BeyondDeepest = Unit {0}
ConcreteUpTo n Invalid = Unit {0}

-- ── what functions compute that the rules do not name ──

abbrev pub new_layer : ℕ → Option ℕ
new_layer i = pick (between 1 MAX-LAYER i) (some i) none

abbrev pub clamp_layer : ℕ → ℕ
clamp_layer i = max 1 (min i MAX-LAYER)

abbrev pub clamp_layer_to_count : ℕ → ℕ → Option ℕ
clamp_layer_to_count n i = pick (leb 1 n) (some (min i n)) none

abbrev pub is_positive : ℤ → Bool
is_positive (pos zero) = false
is_positive (pos (suc i)) = true
is_positive (negsuc i) = false

-- an end of a range: the layer that it resolves to, or else the side that it lies beyond
abbrev pub unclamped : Option ℕ → UnclampedLayer → UnclampedLayer
unclamped (some i) other = Concrete (record { 0 = i })
unclamped none other = other

abbrev pub resolve_unclamped : ℕ → Bool → ℤ → UnclampedLayer
resolve_unclamped n neg i = unclamped (rule.resolve n neg i) (pick (is_positive i) BeyondDeepest (pick neg BeyondShallowest Invalid))

-- the layer of an axis with n layers that is nearest to an end
abbrev pub nearest : ℕ → UnclampedLayer → Option ℕ
nearest n BeyondShallowest = some 1
nearest n (Concrete l) = some (layer l)
nearest n BeyondDeepest = some n
nearest n Invalid = none

abbrev pub same_side : UnclampedLayer → UnclampedLayer → Bool
same_side BeyondShallowest BeyondShallowest = true
same_side BeyondShallowest (Concrete j) = false
same_side BeyondShallowest BeyondDeepest = false
same_side BeyondShallowest Invalid = false
same_side (Concrete i) b = false
same_side BeyondDeepest BeyondShallowest = false
same_side BeyondDeepest (Concrete j) = false
same_side BeyondDeepest BeyondDeepest = true
same_side BeyondDeepest Invalid = false
same_side Invalid b = false

-- the range between two ends as the code goes about it; Laws.antt: for ends that were resolved it is the rule's `resolve_range`
abbrev pub clamp_range : ℕ → UnclampedLayer → UnclampedLayer → Option Range
clamp_range n a b = pick (same_side a b) none (range_between (nearest n a) (nearest n b))
