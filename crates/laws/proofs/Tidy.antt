-- Everything that an accepted text's tree is, and that trees over such a text pass the check. Assumes nothing.
use Prim.Native.Nat.{ℕ, ◌≤◌}
use mathlib.Core.Path.{◌≡◌}
use mathlib.Core.Bool.{true}
use mathlib.Core.List.{List}
use native.Mathlib.Omega.{arith}
use Rattle.notation.specs.Refusals.{result}
use Rattle.notation.specs.Tree.{Tree}
use Rattle.notation.specs.Packed.{pack, size}
use Rattle.notation.specs.Meaning.{unspanned}
use Rattle.notation.specs.WellFormed.{tree_ok, depth, MAX-NESTING}
use Rattle.notation.specs.Entries.{checked, MAX-TEXT}
use Rattle.notation.specs.declared.features.Features.{Features}
use Rattle.laws.specs.Packed.{FitsTree}
use Rattle.laws.proofs.Fits.{tree_fits}
use Rattle.laws.proofs.Packing.{tree-fits, unpack-pack, packed-well-formed}
use Rattle.laws.proofs.InRange.{in_range}
use Rattle.laws.proofs.ReadingYields.{reading-in-range, reading-ok, reading-size, reading-fits}
use Rattle.laws.proofs.Parens.{parens, parens-depth}
use Rattle.laws.proofs.Nesting.{reading-parens}
use Rattle.laws.proofs.Accepting.{Accepted, checks}

pub record Tidy (f : Features) (text : List ℕ) (t : Tree) : Type 0 where
  pub accepted : Accepted f text t
  pub in_bounds : tree_ok text t ≡ true
  pub fits : tree_fits t ≡ true
  pub small : size t ≤ MAX-TEXT
  pub ranged : in_range f (unspanned text t) ≡ true
  pub nested : parens t ≤ 64

pub tidy : (f : Features) (text : List ℕ) (t : Tree) → Accepted f text t → Tidy f text t
tidy f text t a =
    let z = reading-size f text t a.reads in
    let s = a.short in
    record {
      accepted = a;
      in_bounds = reading-ok f text t a.reads;
      fits = reading-fits f text t a.reads;
      small = omega arith;
      ranged = reading-in-range f text t a.reads;
      nested = reading-parens f text t a.reads a.nests;
    }

-- it fits its records
pub tidy-fits : {f : Features} {text : List ℕ} {t : Tree} → Tidy f text t → FitsTree t
tidy-fits {text = text} {t} p = tree-fits text p.accepted.short t p.in_bounds p.fits p.small

-- Trees over an accepted text, such as the tree that was read and its inverses: one that is in bounds and as large fits its records,
pub fits-over : {f : Features} {text : List ℕ} {t : Tree} → Tidy f text t → (i : Tree) → tree_ok text i ≡ true → tree_fits i ≡ true →
    size i ≡ size t → FitsTree i
fits-over {text = text} p i ok fits large = tree-fits text p.accepted.short i ok fits (omega (arith, p.small))

-- and one that is in bounds, fits its records and is no deeper than 64 groups passes the check.
pub checks-over : {f : Features} {text : List ℕ} {t : Tree} → Accepted f text t → (i : Tree) → tree_ok text i ≡ true → FitsTree i →
    depth i ≤ MAX-NESTING → checked text (pack i) ≡ result i
checks-over {text = text} a i ok fits deep =
    checks text (pack i) i a.short a.is_utf8 (packed-well-formed text i fits ok deep) (unpack-pack i fits)

pub tidy-checks : {f : Features} {text : List ℕ} {t : Tree} → Tidy f text t → checked text (pack t) ≡ result t
tidy-checks {t = t} p = checks-over p.accepted t p.in_bounds (tidy-fits p) (omega (arith, parens-depth t, p.nested))
