use Prim.Native.Nat.{ℕ, ◌+◌, ◌*◌}
use mathlib.Core.Path.{sym, ap, subst}
use Rattle.notation.specs.Packed.{RECORD}
use Rattle.nodes.specs.Nodes.{Lists}
use Rattle.nodes.proofs.Nodes.{node-room, lists_of}
use Rattle.nodes.proofs.walk.first_end.Goals as goal

pub first-requires : goal.first-requires
first-requires c = node-room c.requires.1

pub returns : goal.returns
returns c =
    subst (Lists _)
    (ap (λ (k : ℕ). RECORD + RECORD * k) (sym c.first.ensures))
    (lists_of _ c.requires.1)
