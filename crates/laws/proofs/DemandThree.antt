-- Demand 3 over the definitions: the shallow inverse is an inverse, so that it agrees with its text. Assumes nothing.
use Prim.Native.Nat.{ℕ}
use mathlib.Core.Path.{◌≡◌, sym, ap, ◌∙◌, subst}
use mathlib.Core.Bool.{true}
use mathlib.Core.List.{List}
use mathlib.Core.Option.{none}
use Rattle.notation.specs.Refusals.{result}
use Rattle.notation.specs.Tree.{Leaf, Tree}
use Rattle.notation.specs.Packed.{pack, unpack}
use Rattle.notation.specs.Print.{printed}
use Rattle.notation.specs.Unroll.{flatten}
use Rattle.notation.specs.Entries.{reading, inverse, inv_entry, display}
use Rattle.notation.specs.Demands.{Gives, Unrollable, Demand3, demand3}
use Rattle.notation.specs.declared.features.Features.{Features}
use Rattle.laws.specs.Inverted.{inverted, inv_refusal}
use Rattle.laws.proofs.Inverses.{inverse-unrolls}
use Rattle.laws.proofs.Reached.{clean, clean-inverts, unrollable-clean, inverse-accepted}
use Rattle.laws.proofs.WellFormedInverses.{inverted-ok}
use Rattle.laws.proofs.Packing.{unpack-pack}
use Rattle.laws.proofs.Parens.{inverted-parens}
use Rattle.laws.proofs.KeptByInverses.{inverted-fits, inverted-in-range, inverted-clean}
use Rattle.laws.proofs.Accepting.{Accepted, accepts, accepted-tree, gives}
use Rattle.laws.proofs.Tidy.{Tidy, tidy, tidy-fits, tidy-checks}
use Rattle.laws.proofs.InverseAgrees.{Undoes, inverse-prints, agrees}

pub inverted-undoes : {f : Features} {text : List ℕ} {t : Tree} → Tidy f text t → clean t ≡ true → Undoes f text t (inverted t)
inverted-undoes {f} {text} {t} p c =
    let r : inv_refusal t ≡ none = clean-inverts t c in
    record {
      in_bounds = inverted-ok text t p.in_bounds;
      fits = inverted-fits text t p.in_bounds r (tidy-fits p);
      ranged = inverted-in-range f text t r p.ranged;
      undoable = inverted-clean t c p.fits;
      nested = inverted-parens t;
      unrolls = inverse-unrolls t;
    }

-- What demand 3 assumes of a text, said of the nodes that it is read to: they unroll, and reach nothing that cannot be undone.
pub record UnrollableTree (f : Features) (text tree : List ℕ) (list : List Leaf) : Type 0 where
  pub nodes : Tree
  pub bytes : pack nodes ≡ tree
  pub tidy : Tidy f text nodes
  pub unrolls : flatten nodes ≡ result list
  pub undoable : clean nodes ≡ true

pub unrollable-tree : (f : Features) (text tree : List ℕ) (list : List Leaf) → Unrollable f text tree list → UnrollableTree f text tree list
unrollable-tree f text tree list u =
    record {
      nodes = t;
      bytes = a.2;
      tidy = p;
      unrolls = unrolls;
      undoable = unrollable-clean t list unrolls u.negatable;
    }
  where
    a : (t : Tree) × Accepted f text t × (pack t ≡ tree)
    a = accepted-tree f text tree u.accepted

    t : Tree
    t = a.0

    p : Tidy f text t
    p = tidy f text t a.1

    unrolls : flatten t ≡ result list
    unrolls = ap flatten (sym (ap unpack (sym a.2) ∙ unpack-pack t (tidy-fits p))) ∙ u.unrolls

pub inverse-given : {f : Features} {text : List ℕ} {t : Tree} → Tidy f text t → clean t ≡ true → Gives (inv_entry text (pack t)) (pack (inverted t))
inverse-given {text = text} {t} p c = gives (inverse text (pack t)) (pack (inverted t)) (rw (tidy-checks p, inverse-accepted t c))

-- demand 3
pub theorem : demand3
theorem f text tree list u =
    let n = unrollable-tree f text tree list u in
    let p = n.tidy in
    let undoes = inverted-undoes p n.undoable in
    subst (λ (b : List ℕ). Demand3 f text b list) n.bytes
    (record {
      reads = gives (reading f text) (pack n.nodes) (accepts f text n.nodes p.accepted);
      inverted = pack (inverted n.nodes);
      inverts = inverse-given p n.undoable;
      text' = printed text (inverted n.nodes);
      prints = gives (display text (pack (inverted n.nodes))) _ (inverse-prints p undoes);
      agrees = agrees p undoes list n.unrolls u.countable;
    })
