-- `invert::exchange_lists` meets its contract: three parts copied, two counts written. Assumes nothing.
use mathlib.Core.Path.{refl, sym, ◌∙◌}
use native.Mathlib.Omega.{arith}
use lib.Seq.{length-take-le}
use Rattle.notation.specs.Packed.{RECORD}
use Rattle.nodes.proofs.Nodes.{node-room}
use Rattle.invert.proofs.Exchanging.{first-place, exchanged-lists}
use Rattle.invert.proofs.exchange_lists.Goals as goal

pub first-first-requires : goal.first-first-requires
first-first-requires c = node-room c.requires.node.1

pub second-second-requires : goal.second-second-requires
second-second-requires c = node-room c.requires.node.1

pub slice_bounds-copy-end : goal.slice_bounds-copy-end
slice_bounds-copy-end c = sym (length-take-le RECORD c.args.node.now (node-room c.requires.node.1))

pub slice_bounds-copy-end-3 : goal.slice_bounds-copy-end-3
slice_bounds-copy-end-3 c = sym (length-take-le RECORD c.args.out.now (omega (arith, node-room c.requires.node.1, c.requires.out_len)))

pub copy-requires : goal.copy-requires
copy-requires c = sym (first-place c.requires.node.1 c.requires.commutator c.first_end-m.ensures c.args.out.now c.requires.out_len)

pub returns : goal.returns
returns c =
    c.set_lists.ensures
    ∙ exchanged-lists c.requires.node.1 c.requires.commutator c.first_end-m.ensures c.args.out.now _ _ c.first-first.ensures c.second-second.ensures
    _ _ _ c.copy.ensures c.copy-2.ensures c.copy-3.ensures _ refl
