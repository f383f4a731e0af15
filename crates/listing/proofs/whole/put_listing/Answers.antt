-- The tree fits: it has at most a record for each byte of its text. Assumes nothing.
use Prim.Native.Nat.{ℕ}
use mathlib.Core.Path.{sym, ap, ◌∙◌}
use native.Mathlib.Omega.{arith}
use lib.ListN.{replicate, length-replicate}
use Rattle.notation.specs.Refusals.{refusal}
use Rattle.notation.specs.Entries.{reading, outcome}
use Rattle.notation.specs.Lister.{listing}
use Rattle.listing.specs.Listing.{MAX-TREE}
use Rattle.listing.proofs.Fields.{wrote-to}
use Rattle.listing.proofs.FirstLine.{text-fits, text-read}
use Rattle.listing.proofs.Lending.{lent, unlent, given-part, given-fits}
use Rattle.listing.proofs.Sizes.{reading-long}
use Rattle.listing.proofs.whole.put_listing.Goals as goal

pub slice_bounds-put_tree-end : goal.slice_bounds-put_tree-end
slice_bounds-put_tree-end c =
    let a = c.args in
    given-fits (lent (reading a.features a.text.now) (replicate MAX-TREE 0) _ _ (ap outcome c.in-Ok.is) c.parse_notation.ensures)

pub returns-in-Ok : goal.returns-in-Ok
returns-in-Ok c =
    let a = c.args in
    let g = lent (reading a.features a.text.now) (replicate MAX-TREE 0) _ _ (ap outcome c.in-Ok.is) c.parse_notation.ensures in
    wrote-to (listing a.features a.text.now) (text-read a.features a.text.now _ g.list c.if-text-gt-MAX_INPUT.false g.is (given-part g)) c.put_tree.ensures

pub returns-in-Err : goal.returns-in-Err
returns-in-Err c =
    let a = c.args in
    let r = unlent (reading a.features a.text.now) (replicate MAX-TREE 0) _ _
    (λ l e. omega (arith, reading-long a.features a.text.now l e, c.if-text-gt-MAX_INPUT.false, length-replicate {0} {A = ℕ} MAX-TREE 0)) (ap outcome c.in-Err.is) c.parse_notation.ensures in
    wrote-to (listing a.features a.text.now) (text-fits a.features a.text.now (refusal _) c.if-text-gt-MAX_INPUT.false (r ∙ ap refusal (sym c.number.ensures))) c.refused_line.ensures
