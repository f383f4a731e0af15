-- Print and read back: under every setting, the printed text of a tree in the range of that setting's reading is read to a tree
-- that means the same, and is UTF-8. Assumes nothing.
pub mod Starts
pub mod Reads
pub mod Numbers
pub mod Printed
pub mod Braces
pub mod Parts
pub mod Moves
pub mod Kinds
pub mod Leaves
pub mod Nodes
use Prim.Native.Nat.{ℕ, ◌≤◌}
use mathlib.Core.Path.{◌≡◌, refl, ap}
use mathlib.Core.Bool.{true}
use mathlib.Core.List.{List, []}
use mathlib.Core.Option.{some}
use lib.ListN.{length}
use native.Mathlib.Omega.{arith}
use Rattle.notation.specs.Tree.{Step, NodeList, Tree}
use Rattle.notation.specs.Grammar.{Reading, at_end, notation, notation_by}
use Rattle.notation.specs.Meaning.{unspanned}
use Rattle.notation.specs.Print.{put_nodes}
use Rattle.notation.specs.WellFormed.{depth}
use Rattle.notation.specs.declared.features.Features.{Features}
use Rattle.laws.proofs.InRange.{in_range}
use Rattle.laws.proofs.ReadBack.Reads.{Got}
use Rattle.laws.proofs.ReadBack.Nodes.{Means, nodes-deep, reads-list, reads-nodes}
pub use Rattle.laws.proofs.ReadBack.Printed.{printed-utf8}

-- what a list reader made of the whole text
whole-text : {text : List ℕ} {u : NodeList Step} {o : Reading Tree} → Got text o (Means text u) [] →
    (t : Tree) × (at_end o ≡ some t) × (unspanned text t ≡ u)
whole-text g = (g.value, ap at_end g.is, g.passes)

-- reading the printed text gives a tree whose unspanned form is the one that was printed
pub reads-back : (f : Features) (u : NodeList Step) → in_range f u ≡ true →
    (t : Tree) × (notation f (put_nodes u []) ≡ some t) × (unspanned (put_nodes u []) t ≡ u)
unfolding notation_by
reads-back f u h =
    let text : List ℕ = put_nodes u [] in
    let deep : depth u ≤ length text = omega (arith, nodes-deep u f [] h) in
    whole-text ((reads-list f (length text) u [] h refl (reads-nodes text f u (length text) [] deep h refl)
    ).got 0 (record { place = refl; count = omega arith }))
