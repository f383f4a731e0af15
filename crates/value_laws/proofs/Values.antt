-- The modulo of the C functions' answers never bites: no value reaches 2^56. Assumes nothing.
use Prim.Native.Nat.{ℕ, ◌*◌, ◌/◌, ◌≤◌, ◌<◌}
use mathlib.Core.Path.{◌≡◌, refl, ap, subst}
use mathlib.Core.Bool.{Bool, true, false}
use mathlib.Core.List.{List, ◌++◌}
use native.Mathlib.Omega.{arith}
use borrow.Author.Tests.{leb-true}
use lib.Dec.{leb, ltb}
use lib.ListN.{length, drop}
use Rattle.notation.specs.Basics.{pick}
use Rattle.notation.specs.Refusals.{Outcome, refusal, result, ◌>>=◌, unless, NO-ROOM, NO-SUCH-RECORD}
use Rattle.notation.specs.Tree.{Span, Leaf, rotation, move, pause, pair, slash, megaminx}
use Rattle.notation.specs.Packed.{RECORD, Head, leaf_head, group_head, binary_head}
use Rattle.notation.specs.Entries.{
  kept,
  lend,
  MAX-TEXT,
  reading,
  checked,
  inverse,
  deep_inverse,
  display,
  MAX-STEPS,
  steps,
  unrolled,
  count_steps,
  step_at,
  record_at,
  layer_ranges,
  range_bytes,
  family_of,
  family_span,
}
use Rattle.notation.specs.Demands.{AtMost}
use Rattle.notation.specs.Host.{VALUES, part_number, BelowValues, Whole, Lossless}
use Rattle.notation.specs.declared.features.Features.{Features}
use Rattle.numbers.proofs.Positional.{below-drop}
use Rattle.record.specs.Range.{FitsSpan, FitsHead}
use Rattle.laws.proofs.Bools.{no-refusal}
use Rattle.laws.proofs.Outcomes.{same-result, after}
use Rattle.laws.proofs.Packing.{well-formed-below}
use Rattle.laws.proofs.Accepting.{accepted-tree, checked-tree, steps_of}
use Rattle.laws.proofs.Unpacking.{head-fits}
use Rattle.expand.proofs.Steps.{length-records}
use Rattle.value_laws.proofs.Sizes.{suffices}

-- What is lent: a result that fits the buffer.
small : (o : Outcome (List ℕ)) (buffer : List ℕ) → ((l : List ℕ) → o ≡ result l → length l ≤ length buffer → length l < VALUES) →
    BelowValues (lend o buffer).answer
small (refusal r) buffer h = omega arith
small (result l) buffer h = go (leb (length l) (length buffer)) refl
  where
    go : (t : Bool) → leb (length l) (length buffer) ≡ t →
        BelowValues (pick t (record { answer = result (length l); buffer = l ++ drop (length l) buffer }) (kept NO-ROOM buffer)).answer
    go true e = h l refl (leb-true (length l) (length buffer) e)
    go false e = omega arith

-- Reading: of the longest text, a record for each byte would be enough.
reading-at-most : (f : Features) (text : List ℕ) → AtMost (RECORD * MAX-TEXT) (reading f text)
reading-at-most f text tree e = omega (arith, suffices.to_read f text tree e, (accepted-tree f text tree e).1.short)

-- Steps: as many as can be counted.
few-steps : (text tree : List ℕ) (l : List Leaf) → steps text tree ≡ result l → length l ≤ MAX-STEPS
few-steps text tree l e = (steps_of text tree l e).3

counted : (text tree : List ℕ) → BelowValues (count_steps text tree)
counted text tree = go (steps text tree) refl
  where
    go : (o : Outcome (List Leaf)) → steps text tree ≡ o → BelowValues (◌>>=◌ o (λ l. result (length l)))
    go (refusal r) e = omega arith
    go (result l) e = omega (arith, few-steps text tree l e)

unrolled-at-most : (text tree : List ℕ) → AtMost (RECORD * MAX-STEPS) (unrolled text tree)
unrolled-at-most text tree l e =
    let s = after (steps text tree) e in
    omega (arith, ap length (same-result s.2), length-records s.0, few-steps text tree s.0 s.1)

-- Layer ranges, which are counted in entries of four bytes.
in-entries : (o : Outcome ℕ) → BelowValues o → BelowValues (◌>>=◌ o (λ n. result (n / 4)))
in-entries (refusal r) h = omega arith
in-entries (result n) h = omega arith

-- Families: both numbers of a part fit their fields.
family-fits : (h : Head) (p : Span) → FitsHead h → family_of h ≡ result p → FitsSpan p
family-fits (leaf_head (rotation f c m)) p h e = let z : f ≡ p = cc in subst FitsSpan z h.0.span
family-fits (leaf_head (move t l f c m)) p h e = let z : f ≡ p = cc in subst FitsSpan z h.1.span
family-fits (leaf_head pause) p h e = no-refusal e
family-fits (leaf_head (pair u d)) p h e = no-refusal e
family-fits (leaf_head slash) p h e = no-refusal e
family-fits (leaf_head (megaminx k)) p h e = no-refusal e
family-fits (group_head k n m c) p h e = no-refusal e
family-fits (binary_head k n n' m c) p h e = no-refusal e

part-fits : (text tree : List ℕ) (k : ℕ) (p : Span) → family_span text tree k ≡ result p → FitsSpan p
unfolding family_span
part-fits text tree k p e =
    let c = after (checked text tree) e in
    let r = after (record_at tree k) c.2 in
    let h = after (unless NO-SUCH-RECORD (ltb k (length tree / RECORD))) r.1 in
    let b = well-formed-below text tree (checked-tree text tree c.0 c.1).formed in
    family-fits r.0 p (subst FitsHead (same-result h.2) (head-fits (drop (RECORD * k) tree) (below-drop 256 (RECORD * k) tree b))) r.2

named : (text tree : List ℕ) (k : ℕ) → BelowValues (part_number (family_span text tree k))
named text tree k = go (family_span text tree k) refl
  where
    go : (o : Outcome Span) → family_span text tree k ≡ o → BelowValues (part_number o)
    go (refusal r) e = omega arith
    go (result p) e = let f = part-fits text tree k p e in omega (arith, f.offset, f.size)

-- A value below 2^56, told whole.
whole : (o : Outcome ℕ) → BelowValues o → Whole o
whole o h = record { sum = omega arith; refused_by = omega arith; valued = omega arith }

pub lossless : Lossless
lossless =
    record {
      whole = whole;
      reading = λ f text buffer. small (reading f text) buffer (λ l e h. omega (arith, reading-at-most f text l e));
      counting = counted;
      seeking = λ text tree k buffer. small (step_at text tree k) buffer (λ l e h. omega (arith, suffices.to_seek text tree k l e));
      unrolling = λ text tree buffer. small (unrolled text tree) buffer (λ l e h. omega (arith, unrolled-at-most text tree l e));
      layering = λ text tree k n neg buffer.
          let o : Outcome (List ℕ) = (do l ← layer_ranges text tree k n neg; result (range_bytes l)) in
          in-entries (lend o buffer).answer (small o buffer (λ l e h. omega (arith, suffices.to_simplify text tree k n neg l e)));
      naming = named;
      inverting = λ text tree buffer b. small (inverse text tree) buffer (λ l e h. omega arith);
      inverting_deeply = λ text tree buffer b. small (deep_inverse text tree) buffer (λ l e h. omega arith);
      printing = λ text tree buffer b. small (display text tree) buffer (λ l e h. omega arith);
    }
