-- The inverse fits: it is as long as its tree. Assumes nothing.
use Prim.Native.Nat.{ℕ}
use mathlib.Core.Path.{sym, ap, ◌∙◌}
use native.Mathlib.Omega.{arith}
use lib.ListN.{replicate, length-replicate}
use Rattle.notation.specs.Refusals.{refusal}
use Rattle.notation.specs.Entries.{inverse, outcome}
use Rattle.listing.specs.Listing.{MAX-TREE}
use Rattle.listing.proofs.Fields.{wrote-field, inverse-given, inverse-refused}
use Rattle.listing.proofs.Lending.{lent, unlent, given-part, given-fits}
use Rattle.listing.proofs.Sizes.{inverse-long}
use Rattle.listing.proofs.lines.inverse_line.Goals as goal

pub slice_bounds-tree_line-end : goal.slice_bounds-tree_line-end
slice_bounds-tree_line-end c =
    let a = c.args in
    given-fits (lent (inverse a.text.now a.tree.now) (replicate MAX-TREE 0) _ _ (ap outcome c.in-Ok.is) c.inv.ensures)

pub returns-in-Ok : goal.returns-in-Ok
returns-in-Ok c =
    let a = c.args in
    let g = lent (inverse a.text.now a.tree.now) (replicate MAX-TREE 0) _ _ (ap outcome c.in-Ok.is) c.inv.ensures in
    wrote-field a.label.now (inverse-given a.text.now a.tree.now g.list _ g.is (given-part g)) c.tree_line.ensures

pub returns-in-Err : goal.returns-in-Err
returns-in-Err c =
    let a = c.args in
    let r = unlent (inverse a.text.now a.tree.now) (replicate MAX-TREE 0) _ _
    (λ l e. omega (arith, inverse-long a.text.now a.tree.now l e, c.requires, length-replicate {0} {A = ℕ} MAX-TREE 0)) (ap outcome c.in-Err.is) c.inv.ensures in
    wrote-field a.label.now (inverse-refused a.text.now a.tree.now _ (r ∙ ap refusal (sym c.number.ensures))) c.refused_line.ensures
