-- Document 02, request 3: with a tilde and without it, each layer of the axis is in exactly one of the two answers, and either answer is the complement of the other. Assumes nothing.
use Prim.Native.Nat.{ℕ, ◌/◌, ◌≤◌, ◌<◌}
use mathlib.Core.Path.{◌≡◌, subst}
use mathlib.Core.Bool.{Bool, true, false}
use mathlib.Core.List.{List}
use borrow.Author.Tests.{leb-true, ltb-true}
use lib.Dec.{leb, ltb}
use lib.ListN.{length}
use Rattle.notation.specs.Basics.{between}
use Rattle.notation.specs.Refusals.{result, unless, NO-SUCH-RECORD}
use Rattle.notation.specs.Layers.{MAX-LAYER, lit, simplified, complement}
use Rattle.notation.specs.Tree.{Layers, Span, Tree}
use Rattle.notation.specs.Packed.{RECORD}
use Rattle.notation.specs.WellFormed.{layers_ok}
use Rattle.notation.specs.Entries.{checked, record_at, ranges_in, layer_ranges}
use Rattle.notation.specs.Tilde.{prefix_at, LightsOthers}
use Rattle.complement_laws.proofs.Complement.{opposite}
use Rattle.laws.proofs.Bools.{and_left}
use Rattle.laws.proofs.Outcomes.{same-result, after, test-holds}
use Rattle.laws.proofs.Heads.{HeadOk}
use Rattle.checked.proofs.Outcomes.{checked-accepted}
use Rattle.checked.proofs.Records.{prefix-ok, record-ok}
use Rattle.tilde_laws.proofs.OnAxis.{ranges-on-axis, same-ranges}

-- a move of an accepted tree
module _ (text tree : List ℕ) (t : Tree) (c : checked text tree ≡ result t) (k : ℕ) (tilde : Bool) (l : Layers Span) (p : prefix_at tree k ≡ result (tilde, l)) where
  contents : layers_ok text l ≡ true
  contents =
      let h = after (record_at tree k) p in
      let here = after (unless NO-SUCH-RECORD (ltb k (length tree / RECORD))) h.1 in
      let inside : k < length tree / RECORD = ltb-true k (length tree / RECORD) (test-holds NO-SUCH-RECORD (ltb k (length tree / RECORD)) here.1) in
      prefix-ok text h.0 tilde l (subst (HeadOk text) (same-result here.2) (record-ok text tree (checked-accepted text tree t c) k inside)) h.2

  answered : (n : ℕ) (neg : Bool) → between 1 MAX-LAYER n ≡ true → layer_ranges text tree k n neg ≡ result (simplified (lit n tilde (ranges_in text n neg l)))
  unfolding layer_ranges
  answered n neg e = let h = after (record_at tree k) p in rw (c, e, h.1, h.2)

pub lights-others : LightsOthers
lights-others text text' tree tree' t t' c c' k k' l l' p p' same n neg e =
    let least : 1 ≤ n = leb-true 1 n (and_left _ (leb n MAX-LAYER) e) in
    let given = ranges_in text n neg l in
    let o = opposite n given (ranges-on-axis text n neg l least (contents text tree t c k false l p)) in
    let b = answered text' tree' t' c' k' true l' p' n neg e in
    (simplified given, complement n given, answered text tree t c k false l p n neg e, rw (same-ranges text text' n neg l l' same) b, o)
