-- What `resolve` answers, by how the ranges came as bytes. Assumes nothing.
use Prim.Native.Nat.{ℕ, zero, suc, ◌*◌, ◌≤◌, ◌<◌}
use native.Mathlib.Omega.{arith}
use mathlib.Core.Path.{◌≡◌, refl, sym, ap, ◌∙◌}
use mathlib.Core.Bool.{Bool}
use mathlib.Core.List.{List, [], ◌∷◌, ◌++◌, map, map-append}
use lib.ListN.{length, drop, length-map, length-append}
use borrow.Author.Tests.{le-leb, lt-leb}
use Rattle.notation.specs.Refusals.{Outcome, refusal, result}
use Rattle.notation.specs.Layers.{Range}
use Rattle.notation.specs.Entries.{Lent, outcome, layer_ranges, range_bytes, simplify_bytes}
use Rattle.std.specs.Prelude.{Result, Ok, Err}
use Rattle.notation.specs.Lending.{number}
use Rattle.notation.specs.declared.refusals.Refusal.{Refusal}
use Rattle.notation.specs.declared.refusals.Refusal.TheVariants.{NoRoom}
use Rattle.layer.specs.Meaning.{range}
use Rattle.layer.specs.declared.range.LayerRange.{LayerRange}
use Rattle.laws.proofs.Bools.{no-refusal}
use Rattle.laws.proofs.Outcomes.{same-result}
use Rattle.simplify.proofs.Few.{few}
use Rattle.simplify.proofs.Sweep.{length-range_bytes}
use Rattle.simplify.proofs.Answers.{answered}
use Rattle.ranges.specs.Lent.{ranges_from, Resolved}
use Rattle.ranges.proofs.Reading.{read_back}

map-drop : (f : LayerRange → Range) (k : ℕ) (zs : List LayerRange) → map f (drop k zs) ≡ drop k (map f zs)
map-drop f zero zs = refl
map-drop f (suc k) [] = refl
map-drop f (suc k) (z ∷ zs) = map-drop f k zs

module _ (text tree : List ℕ) (k n : ℕ) (neg : Bool) (room : ℕ) (bytes bytes' : List ℕ) (long : length bytes ≡ 65536) where
  abbrev Rule : Result ℕ Refusal → Type 0
  Rule r = record { answer = outcome r; buffer = bytes' } ≡ simplify_bytes text tree k n neg bytes

  -- the ranges always have room as bytes
  bytes_of : (l : List Range) → layer_ranges text tree k n neg ≡ result l →
      simplify_bytes text tree k n neg bytes ≡ record { answer = result (length l); buffer = range_bytes l ++ drop (4 * length l) bytes }
  bytes_of l e =
      let f = few text tree k n neg l e in
      rw e (sym (answered l l refl bytes (length l) _ refl (omega (arith, f.many, long)) refl))

  module _ (r : Result ℕ Refusal) (rule : Rule r) where
    refused-by : (w : ℕ) → layer_ranges text tree k n neg ≡ refusal w → outcome r ≡ refusal w
    refused-by w q = ap (λ (x : Lent ℕ). x.answer) rule ∙ rw q

    pub resolved-refusal : (v : Refusal) → r ≡ Err v → Resolved text tree k n neg room r bytes'
    resolved-refusal v is = go (layer_ranges text tree k n neg) refl where
      go : (o : Outcome (List Range)) → layer_ranges text tree k n neg ≡ o → Resolved text tree k n neg room r bytes'
      go (refusal w) q =
          let f : refusal (number v) ≡ refusal w = sym (ap outcome is) ∙ refused-by w q in
          rw is (record { enough = omega arith; inside = omega arith; same = λ zs e. rw (q, f) })
      go (result l) q =
          no-refusal (sym (ap outcome is) ∙ ap (λ (x : Lent ℕ). x.answer) (rule ∙ bytes_of l q))

    module _ (m : ℕ) (is : r ≡ Ok m) where
      -- the ranges, and what is known of them
      found : (l : List Range) → layer_ranges text tree k n neg ≡ result l → (m ≡ length l) × (bytes' ≡ range_bytes l ++ drop (4 * length l) bytes)
      found l q =
          let e = rule ∙ bytes_of l q in
          (same-result (sym (ap outcome is) ∙ ap (λ (x : Lent ℕ). x.answer) e), ap (λ (x : Lent ℕ). x.buffer) e)

      none : (w : ℕ) → layer_ranges text tree k n neg ≡ refusal w → ⊥
      none w q = no-refusal (sym (refused-by w q) ∙ ap outcome is)

      pub resolved-full : room < m → Resolved text tree k n neg room (Err NoRoom) bytes'
      resolved-full h = go (layer_ranges text tree k n neg) refl where
        go : (o : Outcome (List Range)) → layer_ranges text tree k n neg ≡ o → Resolved text tree k n neg room (Err NoRoom) bytes'
        go (refusal w) q = absurd (none w q)
        go (result l) q = record {
          enough = omega arith;
          inside = omega arith;
          same = λ zs e. rw (q, lt-leb (length l) (length (map range zs)) (simp length-map (omega (arith, (found l q).0, h, e))));
        }

      pub resolved-value : m ≤ room → Resolved text tree k n neg room (Ok m) bytes'
      resolved-value h = go (layer_ranges text tree k n neg) refl where
        go : (o : Outcome (List Range)) → layer_ranges text tree k n neg ≡ o → Resolved text tree k n neg room (Ok m) bytes'
        go (refusal w) q = absurd (none w q)
        go (result l) q =
            let size = (found l q).0 in
            let is-bytes = (found l q).1 in
            let f = few text tree k n neg l q in
            let back : map range (ranges_from bytes' (length l) 0) ≡ l = read_back bytes' (drop (4 * length l) bytes) l 0 f.short is-bytes in
            let inside : 4 * length l ≤ length bytes' =
            rw (is-bytes, length-append (range_bytes l) (drop (4 * length l) bytes), length-range_bytes l) (omega arith) in
            rw size (record {
              enough = omega (arith, size, h);
              inside = inside;
              same = λ zs e. rw (q, le-leb (length l) (length (map range zs)) (simp length-map (omega (arith, size, h, e))), map-append, back, map-drop range (length l) zs);
            })
