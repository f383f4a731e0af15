-- `node::put_record` meets its contract. Assumes nothing.
use mathlib.Core.Path.{refl, ap, ◌∙◌}
use mathlib.Core.List.{List}
use Prim.Native.Nat.{ℕ, ◌+◌, ◌-◌, ◌*◌, ◌%◌}
use native.Mathlib.Omega.{arith}
use borrow.Author.Rules.{rules}
use borrow.Rule.Slice.PartMut.{put_mid}
use lib.ListN.{set}
use Rattle.record.proofs.Cut.{length-lay_out}
use Rattle.record.specs.Meaning.{listed, COUNT}
use Rattle.parse.proofs.Buffers.{put-part, put_full}
use Rattle.notation.specs.Packed.{RECORD, widths, lay_out}
use Rattle.parse.proofs.node.put_record.Goals as goal

pub returns-then-end-tree : goal.returns-then-end-tree
returns-then-end-tree c =
    let a = c.args in
    let at = RECORD * a.slot in
    let old = a.tree.now in
    let fs = set (listed a.f) COUNT (a.tally % 256) in
    ap (λ (l : List ℕ). put_mid at (at + RECORD - at) old l) c.put.ensures
    ∙ put-part at (at + RECORD) RECORD (lay_out widths fs) old (length-lay_out widths fs refl) refl (search rules)

pub returns-else-end-tree : goal.returns-else-end-tree
returns-else-end-tree c =
    let a = c.args in
    let fs = set (listed a.f) COUNT (a.tally % 256) in
    put_full (RECORD * a.slot) (lay_out widths fs) a.tree.now (omega (arith, length-lay_out widths fs refl, c.if-end-tree.false))
