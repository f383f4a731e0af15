-- What an entry answers, by the ranges that it found. Assumes nothing.
use Prim.Native.Nat.{ℕ, ◌+◌, ◌*◌, ◌≤◌, ◌<◌}
use mathlib.Core.Path.{◌≡◌, refl, sym, ap, ◌∙◌}
use mathlib.Core.Bool.{Bool, true, false, ◌&&◌}
use mathlib.Core.List.{List, ◌++◌}
use native.Mathlib.Nat.{mul-div_cancel_left}
use native.Mathlib.Omega.{arith}
use lib.Dec.{leb}
use lib.ListN.{length, drop, replicate}
use borrow.Author.Tests.{leb-true, le-leb, lt-leb}
use Rattle.notation.specs.Layers.{Range, MAX-LAYER, set_ranges, others}
use Rattle.notation.specs.Tree.{Layers, Span, single_layer, layer_range}
use Rattle.notation.specs.Meaning.{layer_set_in, or_empty}
use Rattle.notation.specs.WellFormed.{layers_ok}
use Rattle.notation.specs.Refusals.{result}
use Rattle.notation.specs.Entries.{lent, lend, in_entries, range_bytes}
use Rattle.std.specs.Prelude.{Ok, Err}
use Rattle.notation.specs.declared.refusals.Refusal.TheVariants.{NoRoom}
use Rattle.layer.specs.Meaning.{IsLayer, IsRange, RangeUpTo}
use Rattle.complement_laws.proofs.Sorted.{All}
use Rattle.complement_laws.proofs.Complement.{others-on-axis}
use Rattle.laws.proofs.Bools.{false-true, and_left, and_right}
use Rattle.simplify.specs.Reach.{range_from, marked_all, turned_over, Gathered}
use Rattle.simplify.specs.Elements.{marked_set}
use Rattle.simplify.proofs.Table.{gathers}
use Rattle.simplify.proofs.Over.{turned-over}
use Rattle.simplify.proofs.Sweep.{length-range_bytes}
use Rattle.simplify.proofs.Few.{set-on-axis}

-- ── a buffer with room, and one without ──

module _ (l found : List Range) (same : found ≡ l) (out : List ℕ) where
  pub answered : (n : ℕ) (out' : List ℕ) → n ≡ length found → 4 * length found ≤ length out → out' ≡ range_bytes found ++ drop (4 * length found) out →
      lent (Ok n) out' ≡ in_entries 4 (lend (result (range_bytes l)) out)
  answered n out' e room f =
      rw (← same, length-range_bytes found, le-leb (4 * length found) (length out) room, mul-div_cancel_left (length found) {n = 4} (omega arith), e, f)

  pub refused : length out < 4 * length found → lent (Err NoRoom) out ≡ in_entries 4 (lend (result (range_bytes l)) out)
  refused full = rw (← same, length-range_bytes found, lt-leb (4 * length found) (length out) full)

-- ── the table of a set ──

module _ (n : ℕ) (real : IsLayer n) (allowed : Bool) (part s₀ s : List ℕ) (e : s₀ ≡ replicate (n + 1) 0)
    (f : s ≡ marked_set n allowed (or_empty (layer_set_in part)) s₀)
  where
    l : List Range
    l = set_ranges n allowed (or_empty (layer_set_in part))

    on-axis : All (RangeUpTo n) l
    unfolding l
    on-axis = set-on-axis n allowed real.low part

    pub set-gathered : Gathered n (set_ranges n allowed (or_empty (layer_set_in part))) s
    unfolding l
    set-gathered = gathers n l on-axis s₀ s e f

    -- with a tilde
    pub others-gathered : (s' : List ℕ) → s' ≡ turned_over 0 0 s → Gathered n (others n (set_ranges n allowed (or_empty (layer_set_in part)))) s'
    unfolding l
    others-gathered s' g = gathers n (others n l) (others-on-axis n l) s₀ s' e (g ∙ ap (turned_over 0 0) (f ∙ ap (marked_all l) e) ∙ turned-over n l on-axis ∙ ap (marked_all (others n l)) (sym e))

-- ── the layers of a move ──

three : (a b c : Bool) → (a && b && c) ≡ true → (a ≡ true) × (b ≡ true) × (c ≡ true)
three true b c e = (refl, and_left b c e, and_right b c e)
three false b c e = absurd (false-true e)

module _ (text : List ℕ) where
  pub single-real : (i : ℕ) {l : Layers Span} → l ≡ single_layer i → layers_ok text l ≡ true → IsRange (range_from i i)
  single-real i e h =
      let k : (leb 1 i && leb i MAX-LAYER) ≡ true = rw e at h in
      record { low = leb-true 1 i (and_left _ (leb i MAX-LAYER) k); ordered = omega arith; high = leb-true i MAX-LAYER (and_right (leb 1 i) _ k) }

  pub range-real : (i j : ℕ) {l : Layers Span} → l ≡ layer_range i j → layers_ok text l ≡ true → IsRange (range_from i j)
  range-real i j e h =
      let k : (leb 1 i && leb i j && leb j MAX-LAYER) ≡ true = rw e at h in
      let t = three (leb 1 i) (leb i j) (leb j MAX-LAYER) k in
      record { low = leb-true 1 i t.0; ordered = leb-true i j t.1; high = leb-true j MAX-LAYER t.2 }
