-- Layer ranges (layer/ and `LayerPrefixContents::simplify`). A layer is a number from 1, the shallowest, to 32,767.
use Rattle.std.specs.Prelude.{ℕ, zero, suc, ◌+◌, ◌-◌, min, max, Bool, false, ◌&&◌, ◌||◌, List, [], ◌∷◌, leb, ltb, eqb, ℤ, pos, negsuc}
use Rattle.std.proofs.Math.Option.{Option, none, some}
use Rattle.notation.specs.Basics.{pick, choose, between}

-- from `low` to `high`, both included; `low` is not above `high`
pub record Range : Type 0 where
  pub low : ℕ
  pub high : ℕ

abbrev pub MAX-LAYER : ℕ
MAX-LAYER = 32767

-- an element of a layer set
pub data LayerSetElement : Type 0 where
  single : ℤ → LayerSetElement
  range : ℤ → ℤ → LayerSetElement

abbrev pub range_of : ℕ → ℕ → Range
range_of a b = record { low = min a b; high = max a b }

-- −i is `max_layer` + 1 − i if negatives are allowed; out of range gives none
abbrev pub resolve : (layers : ℕ) (negatives : Bool) → ℤ → Option ℕ
resolve layers negatives (pos i) = pick (leb i layers) (some i) none
resolve layers negatives (negsuc i) = pick (leb (suc i) layers && negatives) (some (layers - i)) none

-- an end of a range in a set: one too deep becomes `max_layer`, a negative one beyond the shallowest becomes 1, a forbidden
-- negative gives none
abbrev pub range_end : (layers : ℕ) (negatives : Bool) → ℤ → Option ℕ
range_end layers negatives (pos i) = some (min i layers)
range_end layers negatives (negsuc i) = pick negatives (some (max 1 (layers - i))) none

-- beyond the deepest layer
abbrev pub too_deep : (layers : ℕ) → ℤ → Bool
too_deep layers (pos i) = ltb layers i
too_deep layers (negsuc i) = false

-- beyond the shallowest
abbrev pub too_shallow : (layers : ℕ) → ℤ → Bool
too_shallow layers (pos i) = false
too_shallow layers (negsuc i) = ltb layers (suc i)

-- the range between two layers, if there are two
abbrev pub range_between : Option ℕ → Option ℕ → Option Range
range_between none b = none
range_between (some a) none = none
range_between (some a) (some b) = some (range_of a b)

-- both ends beyond the same side gives none
abbrev pub resolve_range : (layers : ℕ) (negatives : Bool) → ℤ → ℤ → Option Range
resolve_range layers negatives i j =
    pick (too_deep layers i && too_deep layers j || too_shallow layers i && too_shallow layers j) none
    (range_between (range_end layers negatives i) (range_end layers negatives j))

-- a range's low end above `max_layer` gives nothing, a high end above it becomes `max_layer`
abbrev pub clamp_to_layer_count : (layers : ℕ) → Range → Option Range
clamp_to_layer_count layers r = pick (leb r.low layers) (some (record { low = r.low; high = min r.high layers })) none

abbrev pub alone : Option ℕ → Option Range
alone none = none
alone (some i) = some (record { low = i; high = i })

abbrev pub element_range : (layers : ℕ) (negatives : Bool) → LayerSetElement → Option Range
element_range layers negatives (single i) = alone (resolve layers negatives i)
element_range layers negatives (range i j) = resolve_range layers negatives i j

abbrev pub keep : {A : Type 0} → Option A → List A → List A
keep none l = l
keep (some a) l = a ∷ l

unfoldable pub set_ranges : (layers : ℕ) (negatives : Bool) → List LayerSetElement → List Range
set_ranges layers negatives [] = []
set_ranges layers negatives (e ∷ es) = keep (element_range layers negatives e) (set_ranges layers negatives es)

-- sort: by low end, then by high end
abbrev pub before : Range → Range → Bool
before a b = ltb a.low b.low || eqb a.low b.low && leb a.high b.high

unfoldable pub insert : Range → List Range → List Range
insert a [] = a ∷ []
insert a (b ∷ l) = pick (before a b) (a ∷ b ∷ l) (b ∷ insert a l)

unfoldable pub sort : List Range → List Range
sort [] = []
sort (a ∷ l) = insert a (sort l)

-- join: overlapping or touching neighbours become one
abbrev pub touching : Range → Range → Bool
touching a b = leb (max a.low b.low) (min a.high b.high + 1)

abbrev pub joined : Range → Range → Range
joined a b = record { low = min a.low b.low; high = max a.high b.high }

unfoldable pub join_from : Range → List Range → List Range
join_from a [] = a ∷ []
join_from a (b ∷ l) = choose (touching a b) (λ _. join_from (joined a b) l) (λ _. a ∷ join_from b l)

unfoldable pub join : List Range → List Range
join [] = []
join (a ∷ l) = join_from a l

abbrev pub simplified : List Range → List Range
simplified l = join (sort l)

-- whether layer i is in one of the ranges
unfoldable pub contains : List Range → ℕ → Bool
contains [] i = false
contains (r ∷ l) i = between r.low r.high i || contains l i

-- of the m layers from i on those that the ranges do not give, each alone
unfoldable pub others_from : (i m : ℕ) → List Range → List Range
others_from i zero l = []
others_from i (suc m) l = keep (pick (contains l i) none (alone (some i))) (others_from (suc i) m l)

-- the layers from 1 to n that the ranges do not give, each alone
abbrev pub others : (layers : ℕ) → List Range → List Range
others layers l = others_from 1 layers l

abbrev pub complement : (layers : ℕ) → List Range → List Range
complement layers l = simplified (others layers l)

-- document 02, request 3: with a tilde the layers that the same prefix without it does not give; simplified, `lit n true l` is
-- `complement n l`
abbrev pub lit : (layers : ℕ) (tilde : Bool) → List Range → List Range
lit layers tilde l = pick tilde (others layers l) l
