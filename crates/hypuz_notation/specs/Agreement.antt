-- Demand 3 of what the entries returned, in lent buffers.
use Rattle.std.specs.Prelude.{ℕ, suc, ◌-◌, ◌≤◌, ◌≡◌, List, ◌++◌, length, take, drop, Result}
use Rattle.std.proofs.Math.Option.{some}
use Rattle.std.proofs.Math.ListN.{get_elem?}
use Rattle.notation.specs.Refusals.{result}
use Rattle.notation.specs.Tree.{Leaf}
use Rattle.notation.specs.Packed.{RECORD, leaf_record, unpack}
use Rattle.notation.specs.Meaning.{SameStep}
use Rattle.notation.specs.Invert.{undo}
use Rattle.notation.specs.Unroll.{flatten}
use Rattle.notation.specs.Entries as rule
use Rattle.notation.specs.Entries.{outcome, value, lent, parse_notation, inv_entry, display_entry, count_steps, seek_step, MAX-TEXT}
use Rattle.notation.specs.Demands.{Unrollable, printed_inverse, tree_back, AtMost}
use Rattle.notation.specs.declared.features.Features.{Features}
use Rattle.notation.specs.declared.refusals.Refusal.{Refusal}
use Rattle.hypuz_notation.specs.declared.agreement.Agreement.{Agreement}

-- The bytes of the buffers lent: for the text's tree, the inverse, that as text, that text's tree, the step at the place and the
-- one undone.
pub record Buffers : Type 0 where
  pub tree : List ℕ
  pub inverse : List ℕ
  pub printed : List ℕ
  pub back : List ℕ
  pub step : List ℕ
  pub undone : List ℕ

-- the part of a buffer that an answer says is used
abbrev pub front : Result ℕ Refusal → List ℕ → List ℕ
front a buffer = take (value (outcome a)) buffer

-- Which rule each answer is of, and with it the buffer after the run: each entry took what the one before it had written.
pub record Run (f : Features) (text : List ℕ) (k : ℕ) (r : Agreement) (before after : Buffers) : Type 0 where
  pub reads : lent r.read after.tree ≡ parse_notation f text before.tree
  pub inverts : lent r.inverse after.inverse ≡ inv_entry text (front r.read after.tree) before.inverse
  pub prints : lent r.printed after.printed ≡ display_entry text (front r.inverse after.inverse) before.printed
  pub reads_back : lent r.back after.back ≡ parse_notation f (front r.printed after.printed) before.back
  pub counts : outcome r.count ≡ count_steps text (front r.read after.tree)
  pub recounts : outcome r.recount ≡ count_steps (front r.printed after.printed) (front r.back after.back)
  pub seeks : lent r.step after.step ≡ seek_step text (front r.read after.tree) k before.step
  pub undoes : lent r.undone after.undone ≡
      seek_step (front r.printed after.printed) (front r.back after.back) (value (outcome r.count) - suc k) before.undone

-- What demand 3 assumes: a text that is accepted and unrolls into a countable list of steps that can be undone, whose inverse as
-- text is not too long, and buffers that suffice for trees and texts.
pub record Assumed (f : Features) (text tree : List ℕ) (list : List Leaf) (before : Buffers) : Type 0 where
  pub unrollable : Unrollable f text tree list
  pub not_long : AtMost MAX-TEXT (printed_inverse text tree)
  pub room_tree : AtMost (length before.tree) (rule.reading f text)
  pub room_inverse : AtMost (length before.inverse) (rule.inverse text tree)
  pub room_printed : AtMost (length before.printed) (printed_inverse text tree)
  pub room_back : AtMost (length before.back) (tree_back f text tree)

-- a step is found: in a buffer that has room for a record its record takes the front, and the rest stays
abbrev pub Found : Leaf → Result ℕ Refusal → List ℕ → List ℕ → Type 0
Found x a before after =
    RECORD ≤ length before → lent a after ≡ record { answer = result RECORD; buffer = leaf_record x ++ drop RECORD before }

-- What it demands: no entry refuses to read, invert, print, read back or count; both texts count n; seeking k finds entry k of
-- the unrolled list; seeking n − 1 − k in the inverse read back finds that entry of its own unrolled list, the same step as
-- entry k undone.
pub record Demanded (text : List ℕ) (list : List Leaf) (k : ℕ) (r : Agreement) (before after : Buffers) : Type 0 where
  pub read : (n : ℕ) × (outcome r.read ≡ result n)
  pub inverted : (n : ℕ) × (outcome r.inverse ≡ result n)
  pub printed : (n : ℕ) × (outcome r.printed ≡ result n)
  pub read_back : (n : ℕ) × (outcome r.back ≡ result n)
  pub count : outcome r.count ≡ result (length list)
  pub recount : outcome r.recount ≡ result (length list)
  pub sought : (x : Leaf) → get_elem? list k ≡ some x → Found x r.step before.step after.step
  pub list' : List Leaf
  pub unrolls_back : flatten (unpack (front r.back after.back)) ≡ result list'
  pub undoes : (x : Leaf) → get_elem? list k ≡ some x →
      (y : Leaf) × (get_elem? list' (length list - suc k) ≡ some y)
      × Found y r.undone before.undone after.undone × SameStep (front r.printed after.printed) y text (undo x)

pub record Agreed (f : Features) (text : List ℕ) (k : ℕ) (r : Agreement) (before after : Buffers) : Type 0 where
  pub runs : Run f text k r before after
  pub demands : (tree : List ℕ) (list : List Leaf) → Assumed f text tree list before → Demanded text list k r before after
