use Prim.Native.Nat.{ℕ, ◌+◌, ◌*◌}
use mathlib.Core.Path.{sym, ap₂, subst}
use Rattle.notation.specs.Packed.{RECORD}
use Rattle.nodes.specs.Nodes.{FirstNode}
use Rattle.nodes.proofs.Nodes.{record-room, first_of}
use Rattle.nodes.proofs.walk.node_end.Goals as goal

pub first-requires : goal.first-requires
first-requires c = record-room _ c.requires.packed c.requires.list_nonzero

pub second-requires : goal.second-requires
second-requires c = record-room _ c.requires.packed c.requires.list_nonzero

pub returns : goal.returns
returns c =
    subst (FirstNode _)
    (ap₂ (λ (a b : ℕ). RECORD * (1 + (a + b))) (sym c.first.ensures) (sym c.second.ensures))
    (first_of _ c.requires.packed c.requires.list_nonzero)
