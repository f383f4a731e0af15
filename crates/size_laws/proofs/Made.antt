-- Every tree that the library makes over a text, by reading it, by inverting such a tree or as one of its steps, prints into at most twice the bytes of
-- the text. Assumes nothing.
use Prim.Native.Nat.{ℕ, ◌*◌, ◌≤◌}
use mathlib.Core.Path.{◌≡◌, refl, sym, subst, ◌∙◌}
use mathlib.Core.Bool.{true, false}
use mathlib.Core.List.{List}
use mathlib.Core.Option.{Option, none}
use native.Mathlib.Omega.{arith}
use lib.ListN.{length, get_elem?}
use Rattle.notation.specs.Refusals.{Outcome, result, ◌>>=◌, or_refuse, NO-SUCH-PLACE}
use Rattle.notation.specs.Tree.{Leaf, leaf, nil, cons, Tree}
use Rattle.notation.specs.Packed.{leaf_record, pack, unpack}
use Rattle.notation.specs.WellFormed.{leaf_ok, node_ok, tree_ok}
use Rattle.notation.specs.Invert.{inv, inv_deep}
use Rattle.notation.specs.Print.{printed}
use Rattle.notation.specs.Entries.{checked, display, steps, step_at}
use Rattle.notation.specs.Demands.{AtMost}
use Rattle.notation.specs.Sizes.{Made, read, inverted, inverted_deep, sought}
use Rattle.notation.specs.declared.features.Features.{Features}
use Rattle.laws.specs.Inverted.{inv_refusal, deeply, deep_refusal}
use Rattle.laws.specs.Inverted as plain
use Rattle.laws.specs.All.{All}
use Rattle.laws.specs.Packed.{FitsNode, FitsTree}
use Rattle.laws.proofs.Bools.{and_both}
use Rattle.laws.proofs.Outcomes.{same-result, after, was-there}
use Rattle.laws.proofs.All.{all-at}
use Rattle.laws.proofs.Unrolling.{verdict}
use Rattle.laws.proofs.Inverses.{inv-is, inv_deep-is}
use Rattle.laws.proofs.Reached.{unrolled-list}
use Rattle.laws.proofs.Packing.{unpack-pack}
use Rattle.laws.proofs.WellFormedInverses.{inverted-ok, deeply-ok}
use Rattle.laws.proofs.KeptByInverses.{inverted-fits, deeply-fits}
use Rattle.laws.proofs.GoodSteps.{Good, tree-good, alone}
use Rattle.laws.proofs.Accepting.{accepted-tree, checks, checked-tree, steps_of, inverse-is}
use Rattle.laws.proofs.Tidy.{tidy, tidy-fits}
use Rattle.size_laws.proofs.Bytes.{leaf_bytes, node_bytes, spaced, bytes, inverted-bytes, deeply-bytes, reading-bytes}
use Rattle.size_laws.proofs.Printed.{printed-tree}
use Rattle.size_laws.proofs.Unrolled.{Within, unrolled-within}

-- The bytes of a tree over a text that is in bounds, fits its records and takes no more bytes than the text has.
record Over (text tree : List ℕ) : Type 0 where
  nodes : Tree
  bytes_of : pack nodes ≡ tree
  in_bounds : tree_ok text nodes ≡ true
  fits : FitsTree nodes
  few : bytes nodes ≤ length text

-- Where it is checked, these are the nodes that the check hands on.
over-checked : {text tree : List ℕ} {t : Tree} (o : Over text tree) → checked text tree ≡ result t → t ≡ o.nodes
over-checked {text} {tree} {t} o e =
    let c = checked-tree text tree t e in
    sym (same-result (sym (checks text tree (unpack tree) c.short c.is_utf8 c.formed refl) ∙ e))
    ∙ subst (λ (l : List ℕ). unpack l ≡ o.nodes) o.bytes_of (unpack-pack o.nodes o.fits)

-- An inverse that keeps bounds, records and bytes.
over-inverse : {text tree tree' : List ℕ} (o : Over text tree) (rule : Tree → Outcome Tree) (r : Option ℕ) (t : Tree) → rule o.nodes ≡ verdict r t →
    tree_ok text t ≡ true → (r ≡ none → FitsTree t) → bytes t ≡ bytes o.nodes →
    (do t₁ ← checked text tree; t₂ ← rule t₁; result (pack t₂)) ≡ result tree' → Over text tree'
over-inverse {text} {tree} {tree'} o rule r t is ok fits long e =
    let c = after (checked text tree) e in
    let v = inverse-is rule text tree r t (subst (λ (n : Tree). rule n ≡ verdict r t) (sym (over-checked o c.1)) is) c.1 e in
    record {
      nodes = t;
      bytes_of = v.1;
      in_bounds = ok;
      fits = fits v.0;
      few = omega (arith, long, o.few);
    }

-- A step by itself.
over-step : (text : List ℕ) (x : Leaf) → Good text x → leaf_bytes x ≤ length text → Over text (leaf_record x)
unfolding tree_ok node_ok FitsTree FitsNode spaced node_bytes
over-step text x g h =
    record {
      nodes = cons (leaf x) nil;
      bytes_of = alone x;
      in_bounds = and_both (leaf_ok text x) true g.ok refl;
      fits = (g.fits, tt);
      few = omega arith;
    }

-- Every step that it unrolls to.
over-steps : {text tree : List ℕ} (o : Over text tree) (l : List Leaf) → steps text tree ≡ result l → All (Good text) l × Within (length text) l
over-steps {text} {tree} o l e =
    let u = steps_of text tree l e in
    let p = unrolled-list o.nodes l (rw (over-checked o u.1) at u.2) in (
      subst (All (Good text)) p.1 (tree-good text o.nodes false o.in_bounds o.fits p.0),
      subst (Within (length text)) p.1 (unrolled-within o.nodes false o.few),
    )

over-sought : {text tree step : List ℕ} (place : ℕ) (o : Over text tree) → step_at text tree place ≡ result step → Over text step
over-sought {text} {tree} place o e =
    let l = after (steps text tree) e in
    let x = after (or_refuse NO-SUCH-PLACE (get_elem? l.0 place)) l.2 in
    let there = was-there NO-SUCH-PLACE (get_elem? l.0 place) x.1 in
    let all = over-steps o l.0 l.1 in
    subst (Over text) (same-result x.2) (over-step text x.0 (all-at place all.0 there) (all-at place all.1 there))

made-over : {f : Features} {text tree : List ℕ} → Made f text tree → Over text tree
made-over {f} {text} {tree} (read e) =
    let a = accepted-tree f text tree e in
    let t = tidy f text a.0 a.1 in
    record {
      nodes = a.0;
      bytes_of = a.2;
      in_bounds = t.in_bounds;
      fits = tidy-fits t;
      few = reading-bytes f text a.0 a.1.reads;
    }
made-over {f} {text} (inverted m e) =
    let o = made-over m in
    over-inverse o inv (inv_refusal o.nodes) (plain.inverted o.nodes) (inv-is o.nodes) (inverted-ok text o.nodes o.in_bounds)
    (λ r. inverted-fits text o.nodes o.in_bounds r o.fits) (inverted-bytes o.nodes) e
made-over {f} {text} (inverted_deep m e) =
    let o = made-over m in
    over-inverse o inv_deep (deep_refusal o.nodes) (deeply o.nodes) (inv_deep-is o.nodes) (deeply-ok o.nodes text o.in_bounds)
    (λ r. deeply-fits o.nodes text o.in_bounds r o.fits) (deeply-bytes o.nodes) e
made-over (sought place m e) = over-sought place (made-over m) e

-- each of its steps is well formed and takes no more bytes than the text has
pub made-steps : {f : Features} {text tree : List ℕ} → Made f text tree → (l : List Leaf) → steps text tree ≡ result l →
    All (Good text) l × Within (length text) l
made-steps m l e = over-steps (made-over m) l e

pub made-printed : (f : Features) (text tree : List ℕ) → Made f text tree → AtMost (2 * length text) (display text tree)
made-printed f text tree m l e =
    let o = made-over m in
    let c = after (checked text tree) e in
    let same : printed text o.nodes ≡ l = subst (λ (t : Tree). printed text t ≡ l) (over-checked o c.1) (same-result c.2) in
    rw (← same) (omega (arith, printed-tree text o.nodes o.in_bounds, o.few))
