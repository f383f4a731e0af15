-- Simplified ranges neither overlap nor touch: an axis of n layers has at most (n + 1) / 2 of them, and their ends fit 16 bits. Assumes nothing.
use Prim.Native.Nat.{ℕ, ◌≤◌, ◌<◌, min}
use native.Mathlib.Omega.{arith}
use mathlib.Core.Path.{◌≡◌, refl, sym, subst}
use mathlib.Core.Bool.{Bool, true, false}
use mathlib.Core.List.{List, []}
use mathlib.Core.Option.{Option, none, some}
use lib.Dec.{leb}
use lib.ListN.{length}
use borrow.Author.Tests.{leb-true}
use Rattle.notation.specs.Basics.{pick, between, every}
use Rattle.notation.specs.Refusals.{result, unless, NO-SUCH-LAYER-COUNT}
use Rattle.notation.specs.Layers.{Range, LayerSetElement, MAX-LAYER, insert, sort, join_from, join, simplified, clamp_to_layer_count, set_ranges, keep, others, lit}
use Rattle.notation.specs.Tree.{Layers, no_layers, single_layer, layer_range, layer_set, Span, part_of}
use Rattle.notation.specs.Grammar.{layer_set_elements}
use Rattle.notation.specs.Meaning.{layer_set_in, or_empty}
use Rattle.notation.specs.WellFormed.{is_some}
use Rattle.notation.specs.Entries.{checked, record_at, prefix_of, ranges_in, layer_ranges}
use Rattle.layer.specs.Meaning.{RangeUpTo}
use Rattle.laws.proofs.Bools.{false-true, and_left, and_right}
use Rattle.laws.proofs.Outcomes.{same-result, after, test-holds}
use Rattle.laws.proofs.InRange.{element_in_range}
use Rattle.laws.proofs.Readers.{anywhere}
use Rattle.laws.proofs.ReadingYields.{yields-element, yields-braces}
use Rattle.complement_laws.proofs.Sorted.{All, nothing, ◌and◌, all-weaken}
use Rattle.complement_laws.proofs.Apart.{simplified-apart, simplified-on-axis, apart-few}
use Rattle.complement_laws.proofs.Complement.{others-on-axis}
use Rattle.simplify.proofs.SetElements.{whole}
use Rattle.simplify.proofs.ElementRanges.{set-ranges}

-- both ends fit 16 bits
pub record Short (r : Range) : Type 0 where
  pub low : r.low < 65536
  pub high : r.high < 65536

pub record Few (l : List Range) : Type 0 where
  pub many : length l ≤ 16384
  pub short : All Short l

few-ranges : (n : ℕ) (l : List Range) → n ≤ MAX-LAYER → All (RangeUpTo n) l → Few (simplified l)
few-ranges n l most h = record {
  many = omega (arith, apart-few n (simplified-apart n l h) (simplified-on-axis n l h) (omega arith), most);
  short = all-weaken (λ r p. record { low = omega (arith, p.ordered, p.high, most); high = omega (arith, p.high, most) }) (simplified-on-axis n l h);
}

-- ── the ranges of a move ──

at_most_one : (n : ℕ) (r : Range) → n ≤ MAX-LAYER → Few (simplified (keep (clamp_to_layer_count n r) []))
unfolding insert sort join join_from
at_most_one n r most = go (leb r.low n) refl where
  go : (t : Bool) → leb r.low n ≡ t → Few (simplified (keep (pick t (some (record { low = r.low; high = min r.high n })) none) []))
  go true e =
      let one : Short (record { low = r.low; high = min r.high n }) = record { low = omega (arith, leb-true r.low n e, most); high = omega (arith, most) } in
      record { many = omega arith; short = one and nothing }
  go false e = record { many = omega arith; short = nothing }

none_read : (o : Option (List LayerSetElement)) → is_some o ≡ false → every element_in_range (or_empty o) ≡ true
unfolding every
none_read none h = refl
none_read (some l) h = absurd (false-true (sym h))

-- what the grammar reads as a set has layers from 1 to 32,767 only
set-read : (part : List ℕ) (t : Bool) → is_some (layer_set_in part) ≡ t → every element_in_range (or_empty (layer_set_in part)) ≡ true
unfolding layer_set_in layer_set_elements
set-read part true h =
    let w = whole (layer_set_elements true 0 part) h in
    let y = (yields-braces {c = anywhere} element_in_range (yields-element true)).took 0 part tt w.0 w.1 [] w.2 in
    rw w.3 y.holds
set-read part false h = none_read (layer_set_in part) h

pub set-on-axis : (n : ℕ) (neg : Bool) → 1 ≤ n → (part : List ℕ) → All (RangeUpTo n) (set_ranges n neg (or_empty (layer_set_in part)))
set-on-axis n neg least part = set-ranges n neg least (or_empty (layer_set_in part)) (set-read part (is_some (layer_set_in part)) refl)

few-layers : (text : List ℕ) (n : ℕ) (neg : Bool) (l : Layers Span) → 1 ≤ n → n ≤ MAX-LAYER → Few (simplified (ranges_in text n neg l))
few-layers text n neg no_layers least most = at_most_one n (record { low = 1; high = 1 }) most
few-layers text n neg (single_layer i) least most = at_most_one n (record { low = i; high = i }) most
few-layers text n neg (layer_range i j) least most = at_most_one n (record { low = i; high = j }) most
few-layers text n neg (layer_set p) least most = few-ranges n (set_ranges n neg (or_empty (layer_set_in (part_of text p)))) most (set-on-axis n neg least (part_of text p))

few-lit : (text : List ℕ) (n : ℕ) (neg tilde : Bool) (l : Layers Span) → 1 ≤ n → n ≤ MAX-LAYER → Few (simplified (lit n tilde (ranges_in text n neg l)))
few-lit text n neg false l least most = few-layers text n neg l least most
few-lit text n neg true l least most = few-ranges n (others n (ranges_in text n neg l)) most (others-on-axis n (ranges_in text n neg l))

-- ── the rule's ranges ──

pub few : (text tree : List ℕ) (k n : ℕ) (neg : Bool) (l : List Range) → layer_ranges text tree k n neg ≡ result l → Few l
unfolding layer_ranges
few text tree k n neg l e =
    let c = after (checked text tree) e in
    let b = after (unless NO-SUCH-LAYER-COUNT (between 1 MAX-LAYER n)) c.2 in
    let h = after (record_at tree k) b.2 in
    let p = after (prefix_of h.0) h.2 in
    let real = test-holds NO-SUCH-LAYER-COUNT (between 1 MAX-LAYER n) b.1 in
    subst Few (same-result p.2)
    (few-lit text n neg p.0.0 p.0.1 (leb-true 1 n (and_left _ (leb n MAX-LAYER) real)) (leb-true n MAX-LAYER (and_right (leb 1 n) _ real)))
