-- Any tree prints into as many bytes as its records have and the parts that they name print. Assumes nothing.
use Prim.Native.Nat.{ℕ, suc, ◌+◌, ◌/◌, ◌≤◌}
use mathlib.Core.Path.{◌≡◌, refl}
use mathlib.Core.Bool.{Bool, true, false, not}
use mathlib.Core.List.{List, ◌++◌}
use native.Mathlib.Omega.{arith}
use borrow.Author.Tests.{eqb-true}
use lib.Dec.{ltb, eqb}
use lib.IntN.{nat_abs}
use lib.ListN.{length, length-append}
use lib.Seq.{drop_at}
use Rattle.notation.specs.Basics.{pick, total}
use Rattle.notation.specs.Numbers.{from_bits}
use Rattle.notation.specs.Tree.{rotation, move, pause, pair, slash, megaminx}
use Rattle.notation.specs.Packed.{RECORD, Head, leaf_head, group_head, binary_head, head_fields, head_record, unpack}
use Rattle.notation.specs.Clauses.{Fields, fields_of, kind, number, family, constraints, form}
use Rattle.notation.specs.WellFormed.{tree_ok}
use Rattle.notation.specs.Print.{printed}
use Rattle.notation.specs.Sizes.{parts_printed, display_room}
use Rattle.record.proofs.Packed.{bit-lt, present-lt, layer_form-lt}
use Rattle.record.proofs.RoundTrip.{length-head_record, cut-head_record}
use Rattle.laws.specs.Packed.{Packed}
use Rattle.laws.proofs.Heads.{Run, ended, record-then, tree-run}
use Rattle.display.specs.Bound.{allowed_for}
use Rattle.display.proofs.Sizes.{allowed_with_set, allowed_all, printed-size}

-- Beside its parts a pair is allowed 36 bytes, since it has no layers, and any other record 27.
at_most : (t : Bool) (n : ℕ) → pick t n 0 ≤ n
at_most true n = omega arith
at_most false n = omega arith

signs-room : (k n a b i : ℕ) → (k ≡ 9 → i ≡ 0) → allowed_for k n a b i ≤ RECORD + (a + b)
signs-room k n a b i h = go (eqb k 9) refl
  where
    go : (t : Bool) → eqb k 9 ≡ t → allowed_for k n a b i ≤ RECORD + (a + b)
    go true e = let z = eqb-true k 9 e in rw (z, h z) (omega (arith, at_most (ltb 9 n) 9))
    go false e = rw e (omega (arith, at_most (ltb k 6) 3, at_most (ltb 9 n) 9, at_most (not (eqb i 0)) 11))

pair-layers : (h : Head) → kind (head_fields h) ≡ 9 → form (head_fields h) ≡ 0
pair-layers (leaf_head (rotation f c m)) e = omega (arith, present-lt c)
pair-layers (leaf_head (move t l f c m)) e = absurd (omega (arith, bit-lt t, layer_form-lt l, present-lt c))
pair-layers (leaf_head pause) e = omega arith
pair-layers (leaf_head (pair u d)) e = omega arith
pair-layers (leaf_head slash) e = omega arith
pair-layers (leaf_head (megaminx k)) e = omega arith
pair-layers (group_head k n m c) e = omega arith
pair-layers (binary_head k n n' m c) e = omega arith

fields-room : (r : Fields) → (kind r ≡ 9 → form r ≡ 0) → allowed_with_set r ≤ RECORD + parts_printed r
fields-room r h = omega (arith, signs-room (kind r) (nat_abs (from_bits 32 (number r))) (family r).size (constraints r).size (form r) h)

-- the records one after the other
run-allowed : {hs : List Head} {bs : List ℕ} → Run hs bs → allowed_all hs ≤ length bs + total parts_printed (fields_of (length bs / RECORD) bs)
unfolding total fields_of
run-allowed ended = omega arith
run-allowed (record-then {h} {hs} {bs} f r) =
    let long : length (head_record h ++ bs) ≡ RECORD + length bs = omega (arith, length-append (head_record h) bs, length-head_record h) in
    let many : length (head_record h ++ bs) / RECORD ≡ suc (length bs / RECORD) = omega (arith, long) in
    rw (many, cut-head_record h bs f, drop_at (head_record h) bs RECORD (length-head_record h))
    (omega (arith, long, run-allowed r, fields-room (head_fields h) (pair-layers h)))

pub printed-room : (text tree : List ℕ) → Packed tree → tree_ok text (unpack tree) ≡ true → length (printed text (unpack tree)) ≤ display_room tree
unfolding display_room
printed-room text tree p ok = omega (arith, printed-size text (unpack tree) ok p.fits, run-allowed (tree-run p))
