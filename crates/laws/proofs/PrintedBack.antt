-- A tree in the range of a setting with at most 64 parentheses, printed and not too long, is accepted under that setting and means itself.
-- Assumes nothing.
use Prim.Native.Nat.{ℕ, ◌≤◌}
use mathlib.Core.Path.{◌≡◌}
use mathlib.Core.Bool.{true}
use mathlib.Core.List.{List, []}
use native.Mathlib.Omega.{arith}
use lib.ListN.{length}
use Rattle.notation.specs.Tree.{Step, NodeList, Tree}
use Rattle.notation.specs.Meaning.{unspanned}
use Rattle.notation.specs.Print.{put_nodes, printed}
use Rattle.notation.specs.Entries.{MAX-TEXT}
use Rattle.notation.specs.declared.features.Features.{Features}
use Rattle.laws.proofs.InRange.{in_range}
use Rattle.laws.proofs.ReadBack.{reads-back, printed-utf8}
use Rattle.laws.proofs.Parens.{parens, parens-unspanned}
use Rattle.laws.proofs.PrintedNesting.{printed-nesting}
use Rattle.laws.proofs.Accepting.{Accepted}

-- the printed text of a tree is accepted, and the tree that is read means the one that was printed
pub record PrintedBack (f : Features) (u : NodeList Step) : Type 0 where
  pub tree : Tree
  pub accepted : Accepted f (put_nodes u []) tree
  pub means : unspanned (put_nodes u []) tree ≡ u

pub printed-back : (f : Features) (u : NodeList Step) → in_range f u ≡ true → parens u ≤ 64 → length (put_nodes u []) ≤ MAX-TEXT →
    PrintedBack f u
printed-back f u h nested short =
    let b = reads-back f u h in
    record {
      tree = b.0;
      accepted = record { short = short; is_utf8 = printed-utf8 f u h; nests = printed-nesting f u h nested; reads = b.1 };
      means = b.2;
    }

-- the same of a tree over a text
pub printed-back-over : (f : Features) (text : List ℕ) (t : Tree) → in_range f (unspanned text t) ≡ true → parens t ≤ 64 →
    length (printed text t) ≤ MAX-TEXT → PrintedBack f (unspanned text t)
printed-back-over f text t h nested short = printed-back f (unspanned text t) h (omega (arith, parens-unspanned t text)) short
