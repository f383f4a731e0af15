-- What unrolling and seeking come to, case by case. Assumes nothing.
use Prim.Native.Nat.{ℕ, ◌*◌, ◌≤◌, ◌<◌}
use mathlib.Core.Path.{◌≡◌, sym, ap, ◌∙◌}
use mathlib.Core.Bool.{false}
use mathlib.Core.List.{List, ◌++◌}
use mathlib.Core.Option.{Option, some}
use native.Mathlib.Omega.{arith}
use borrow.Author.Tests.{le-leb}
use lib.ListN.{length, drop, get_elem?}
use Rattle.notation.specs.Refusals.{refusal, result, NO-ROOM, NO-SUCH-PLACE}
use Rattle.notation.specs.Tree.{Leaf}
use Rattle.notation.specs.Packed.{RECORD, leaf_head, leaf_record, unpack}
use Rattle.notation.specs.Invert.{undo}
use Rattle.notation.specs.Entries.{steps, records, unrolled, flatten_entry, step_at, seek_step, MAX-STEPS}
use Rattle.record.proofs.RoundTrip.{length-head_record}
use Rattle.laws.proofs.ListEntries.{get-past, get-within}
use Rattle.laws.specs.Unrolled.{flat}
use Rattle.laws.proofs.Unrolling.{flatten-is}
use Rattle.laws.proofs.Counting.{count-is}
use Rattle.expand.specs.Places.{step_in, found}
use Rattle.expand.specs.Steps.{WroteSteps}
use Rattle.expand.proofs.Steps.{length-records}
use Rattle.checked.specs.Checked.{Counted}
use Rattle.checked.proofs.Outcomes.{lend-refused, lend-short, lend-fits}

-- Where the count is not refused, the steps are those of the tree.
module _ (text tree : List ℕ) (n : ℕ) (c : Counted text tree n) (buffer : List ℕ) where
  pub these : steps text tree ≡ result (flat undo false (unpack tree))
  unfolding steps
  these = rw (c.accepted.is, flatten-is (unpack tree) false, c.unrefused, count-is (unpack tree) false, sym c.steps, le-leb n MAX-STEPS c.most)

  all : unrolled text tree ≡ result (records (flat undo false (unpack tree)))
  all = rw these

  long : length (records (flat undo false (unpack tree))) ≡ RECORD * n
  long = length-records (flat undo false (unpack tree)) ∙ ap (λ (k : ℕ). RECORD * k) (count-is (unpack tree) false ∙ sym c.steps)

  pub flatten-short : length buffer < RECORD * n → record { answer = refusal NO-ROOM; buffer = buffer } ≡ flatten_entry text tree buffer
  flatten-short h = lend-short (unrolled text tree) buffer (records (flat undo false (unpack tree))) all (omega (arith, long))

  pub flatten-written : RECORD * n ≤ length buffer → (after : List ℕ) (r : ℕ) → WroteSteps buffer after (flat undo false (unpack tree)) r →
      record { answer = result (RECORD * n); buffer = after } ≡ flatten_entry text tree buffer
  flatten-written h after r w =
      let size : r ≡ RECORD * n = w.size ∙ sym (length-records (flat undo false (unpack tree))) ∙ long in
      let bytes : after ≡ records (flat undo false (unpack tree)) ++ drop (RECORD * n) buffer = w.bytes ∙ ap (λ (k : ℕ). records (flat undo false (unpack tree)) ++ drop k buffer) size in
      rw (bytes, sym long) (lend-fits (unrolled text tree) buffer (records (flat undo false (unpack tree))) all (omega (arith, long)))

  pub seek-past : (k : ℕ) → n ≤ k → record { answer = refusal NO-SUCH-PLACE; buffer = buffer } ≡ seek_step text tree k buffer
  seek-past k h =
      lend-refused (step_at text tree k) buffer NO-SUCH-PLACE
      (rw (these, get-past (flat undo false (unpack tree)) k (omega (arith, count-is (unpack tree) false, c.steps))))

  there : (k : ℕ) → k < n → (x : Leaf) × (get_elem? (flat undo false (unpack tree)) k ≡ some x)
  there k h = get-within (flat undo false (unpack tree)) k (omega (arith, count-is (unpack tree) false, c.steps))

  pub seek-short : (k : ℕ) → k < n → length buffer < RECORD → record { answer = refusal NO-ROOM; buffer = buffer } ≡ seek_step text tree k buffer
  seek-short k h s =
      let f = there k h in
      lend-short (step_at text tree k) buffer (leaf_record f.0) (rw (these, f.1)) (omega (arith, length-head_record (leaf_head f.0)))

  pub seek-written : (k : ℕ) → k < n → RECORD ≤ length buffer → (after : List ℕ) →
      after ≡ found (step_in tree k) ++ drop RECORD buffer →
      record { answer = result RECORD; buffer = after } ≡ seek_step text tree k buffer
  seek-written k h s after w =
      let f = there k h in
      let long : length (leaf_record f.0) ≡ RECORD = length-head_record (leaf_head f.0) in
      let bytes : after ≡ leaf_record f.0 ++ drop RECORD buffer = w ∙ ap (λ (o : Option Leaf). found o ++ drop RECORD buffer) f.1 in
      ap (λ (b : List ℕ). record { answer = result RECORD; buffer = b }) bytes
      ∙ ap (λ (m : ℕ). record { answer = result m; buffer = leaf_record f.0 ++ drop m buffer }) (sym long)
      ∙ lend-fits (step_at text tree k) buffer (leaf_record f.0) (rw (these, f.1)) (omega arith)
