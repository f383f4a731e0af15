-- Which buffers surely suffice: what each rule gives has as many bytes as specs/Sizes says, or no more. Assumes nothing.
use Prim.Native.Nat.{ℕ, ◌+◌, ◌*◌, ◌/◌}
use mathlib.Core.Path.{◌≡◌, sym, ap, ◌∙◌}
use mathlib.Core.Bool.{Bool}
use mathlib.Core.List.{List}
use native.Mathlib.Omega.{arith}
use lib.ListN.{length, get_elem?}
use Rattle.notation.specs.Refusals.{Outcome, result, ◌>>=◌, or_refuse, NO-SUCH-PLACE}
use Rattle.notation.specs.Tree.{Tree}
use Rattle.notation.specs.Packed.{RECORD, leaf_head, size, pack, unpack}
use Rattle.notation.specs.Invert.{inv, inv_deep}
use Rattle.notation.specs.Print.{printed}
use Rattle.notation.specs.Entries.{reading, checked, display, steps, unrolled, count_steps, step_at, layer_ranges, range_bytes}
use Rattle.notation.specs.Demands.{AtMost}
use Rattle.notation.specs.Sizes.{display_room, RANGES-ROOM, Exactly, Suffices}
use Rattle.notation.specs.declared.features.Features.{Features}
use Rattle.record.proofs.RoundTrip.{length-head_record}
use Rattle.laws.specs.Inverted.{inverted, inv_refusal, deeply, deep_refusal}
use Rattle.laws.proofs.Outcomes.{same-result, after}
use Rattle.laws.proofs.Packing.{length-pack}
use Rattle.laws.proofs.Inverses.{inv-is, inv_deep-is}
use Rattle.laws.proofs.WellFormedInverses.{inverted-size, deeply-size}
use Rattle.laws.proofs.Reached.{verdict-list}
use Rattle.laws.proofs.ReadingYields.{reading-ok}
use Rattle.laws.proofs.Accepting.{accepted-tree}
use Rattle.size_laws.proofs.Bytes.{reading-bytes}
use Rattle.size_laws.proofs.Records.{tree-records}
use Rattle.size_laws.proofs.Made.{made-printed}
use Rattle.display.proofs.Room.{printed-room}
use Rattle.simplify.proofs.Few.{few}
use Rattle.simplify.proofs.Sweep.{length-range_bytes}
use Rattle.expand.proofs.Steps.{length-records}
use Rattle.checked.proofs.Outcomes.{checked-accepted}

-- Reading: a record for every two bytes at most.
to_read_lem : (f : Features) (text : List ℕ) → AtMost ((length text + 1) / 2 * RECORD) (reading f text)
to_read_lem f text tree e =
    let a = accepted-tree f text tree e in
    let reads = a.1.reads in
    omega (arith, ap length a.2, length-pack a.0, tree-records text a.0 (reading-ok f text a.0 reads), reading-bytes f text a.0 reads)

-- Inverses: as many records as the tree has, by any rule that keeps their number.
to-invert : (rule : Tree → Outcome Tree) → ((t t' : Tree) → rule t ≡ result t' → size t' ≡ size t) → (text tree : List ℕ) →
    Exactly (length tree) (do t ← checked text tree; t' ← rule t; result (pack t'))
to-invert rule keeps text tree l e =
    let c = after (checked text tree) e in
    let i = after (rule c.0) c.2 in
    let a = checked-accepted text tree c.0 c.1 in
    let unpacked : unpack tree ≡ c.0 = same-result (sym a.is ∙ c.1) in
    omega (
      arith,
      ap length (same-result i.2),
      length-pack i.0,
      keeps c.0 i.0 i.1,
      ap size unpacked,
      length-pack (unpack tree),
      ap length a.packed.whole,
    )

inv-size : (t t' : Tree) → inv t ≡ result t' → size t' ≡ size t
inv-size t t' e = sym (ap size (verdict-list (inv_refusal t) (inverted t) t' (sym (inv-is t) ∙ e)).1) ∙ inverted-size t

inv_deep-size : (t t' : Tree) → inv_deep t ≡ result t' → size t' ≡ size t
inv_deep-size t t' e = sym (ap size (verdict-list (deep_refusal t) (deeply t) t' (sym (inv_deep-is t) ∙ e)).1) ∙ deeply-size t

-- Steps: a record for each.
to-unroll : (text tree : List ℕ) (n : ℕ) → count_steps text tree ≡ result n → Exactly (n * RECORD) (unrolled text tree)
to-unroll text tree n c l e =
    let counted = after (steps text tree) c in
    let listed = after (steps text tree) e in
    let same = same-result (sym counted.1 ∙ listed.1) in
    omega (arith, same-result counted.2, ap length same, ap length (same-result listed.2), length-records listed.0)

to-seek : (text tree : List ℕ) (place : ℕ) → Exactly RECORD (step_at text tree place)
to-seek text tree place l e =
    let s = after (steps text tree) e in
    let x = after (or_refuse NO-SUCH-PLACE (get_elem? s.0 place)) s.2 in
    omega (arith, ap length (same-result x.2), length-head_record (leaf_head x.0))

-- Layer ranges: at most 16,384, of four bytes each.
to-simplify : (text tree : List ℕ) (k n : ℕ) (neg : Bool) → AtMost RANGES-ROOM (do l ← layer_ranges text tree k n neg; result (range_bytes l))
to-simplify text tree k n neg bytes e =
    let r = after (layer_ranges text tree k n neg) e in
    omega (arith, ap length (same-result r.2), length-range_bytes r.0, (few text tree k n neg r.0 r.1).many)

-- Printing any tree.
to-print : (text tree : List ℕ) → AtMost (display_room tree) (display text tree)
to-print text tree l e =
    let c = after (checked text tree) e in
    let a = checked-accepted text tree c.0 c.1 in
    let unpacked = same-result (sym a.is ∙ c.1) in
    omega (arith, ap length (same-result c.2), ap (λ (t : Tree). length (printed text t)) unpacked, printed-room text tree a.packed a.ok)

pub suffices : Suffices
suffices =
    record {
      to_read = to_read_lem;
      to_invert = to-invert inv inv-size;
      to_invert_deep = to-invert inv_deep inv_deep-size;
      to_unroll = to-unroll;
      to_seek = to-seek;
      to_simplify = to-simplify;
      to_print = made-printed;
      to_print_any = to-print;
    }
