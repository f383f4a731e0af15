-- The record that is found is printed as a tree of one leaf. Assumes nothing.
use Prim.Native.Nat.{ℕ}
use mathlib.Core.Path.{refl}
use mathlib.Core.List.{[]}
use native.Mathlib.Omega.{arith}
use lib.ListN.{replicate, length-replicate}
use Rattle.notation.specs.Numbers.{show}
use Rattle.notation.specs.Packed.{RECORD}
use Rattle.notation.specs.Meaning.{step_of}
use Rattle.notation.specs.Print.{put_step}
use Rattle.checked.proofs.Played.{there}
use Rattle.listing.proofs.Fields.{wrote-to, wrote-line}
use Rattle.listing.proofs.Sought.{sought}
use Rattle.listing.proofs.lines.step_line.Goals as goal

pub put_nodes-requires : goal.put_nodes-requires
put_nodes-requires c =
    let a = c.args in
    let p = c.requires in
    let t = there a.text.now a.tree.now p.0 p.1 a.place p.2 in
    let x = sought a.text.now a.tree.now (replicate RECORD 0) _ p.0 a.place p.1 (omega (arith, length-replicate {0} {A = ℕ} RECORD 0)) c.seek.ensures t.step t.is in
    record { packed = x.packed_step; tree_value = x.ok }

pub returns : goal.returns
returns c = λ x i.
    let a = c.args in
    let p = c.requires in
    let e = sought a.text.now a.tree.now (replicate RECORD 0) _ p.0 a.place p.1 (omega (arith, length-replicate {0} {A = ℕ} RECORD 0)) c.seek.ensures x i in
    wrote-line (show a.place []) (put_step (step_of a.text.now x) []) (e.prints []) (wrote-to (show a.place []) refl c.put_number.ensures) c.put.ensures c.put_nodes.ensures c.put-2.ensures
