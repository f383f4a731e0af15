-- Deep inverses in the undo view (specs/UndoView): the deep inverse is an inverse as the shallow one is, so both show the same steps; it is read
-- back as it was printed; and inverting deep twice gives the records back. Assumes nothing.
use Prim.Native.Nat.{ℕ, ◌≤◌}
use mathlib.Core.Path.{◌≡◌, refl, sym, ap, subst, ◌∙◌}
use mathlib.Core.Bool.{Bool, true, false, not}
use mathlib.Core.List.{List}
use mathlib.Core.Option.{none}
use native.Mathlib.Omega.{arith}
use lib.ListN.{length}
use Rattle.notation.specs.Basics.{pick, every}
use Rattle.notation.specs.Refusals.{result}
use Rattle.notation.specs.Tree.{Leaf, Tree}
use Rattle.notation.specs.Packed.{pack, unpack}
use Rattle.notation.specs.Meaning.{unspanned}
use Rattle.notation.specs.WellFormed.{tree_ok, depth}
use Rattle.notation.specs.Invert.{undo, overflows, inv, inv_deep}
use Rattle.notation.specs.Print.{printed}
use Rattle.notation.specs.Unroll.{flatten}
use Rattle.notation.specs.Entries.{MAX-TEXT, MAX-STEPS, reading, checked, inverse, deep_inverse, display, steps}
use Rattle.notation.specs.Demands.{Unrollable}
use Rattle.notation.specs.UndoView.{Shows, UndoView, DeepInverses}
use Rattle.notation.specs.declared.features.Features.{Features}
use Rattle.laws.specs.Unrolled.{backwards, flat}
use Rattle.laws.specs.Inverted.{inverted, inv_refusal, deeply, deep_refusal}
use Rattle.laws.specs.Packed.{FitsTree}
use Rattle.laws.proofs.Outcomes.{same-result, after}
use Rattle.laws.proofs.Inverses.{inv-is, inv_deep-is, inverse-unrolls, deep-is-shallow, deeply-twice}
use Rattle.laws.proofs.Reached.{negatable, clean, clean-inverts, unrolled-list, unrollable-clean, inverse-accepted}
use Rattle.laws.proofs.Fits.{tree_fits}
use Rattle.laws.proofs.Packing.{unpack-pack, tree-fitted, packed-well-formed}
use Rattle.laws.proofs.Unpacking.{WellFormedTree, well-formed-tree}
use Rattle.laws.proofs.WellFormedInverses.{inverted-ok, inverted-depth, deeply-ok, deeply-depth}
use Rattle.laws.proofs.Parens.{parens, parens-depth, inverted-parens, deeply-parens}
use Rattle.laws.proofs.InRange.{in_range}
use Rattle.laws.proofs.KeptByInverses.{inverted-fits, inverted-in-range, inverted-clean, deeply-fits, deeply-in-range, deeply-clean, deeply-unrefused}
use Rattle.laws.proofs.Accepting.{Checked, accepts, accepted-tree, checks, checked-tree, steps_of, inverse-is, gives}
use Rattle.laws.proofs.Tidy.{Tidy, tidy, tidy-fits, tidy-checks, checks-over}
use Rattle.laws.proofs.PrintedBack.{printed-back-over}
use Rattle.laws.proofs.InverseAgrees.{Undoes, undone-steps, inverse-steps, inverse-prints, agrees, agrees-steps}
use Rattle.laws.proofs.DemandThree.{inverted-undoes, unrollable-tree, inverse-given}

-- what a deep inverse that is not refused is, of a tree that passes the check
deep_is : (text tree : List ℕ) {deep : List ℕ} {t : Tree} → checked text tree ≡ result t → deep_inverse text tree ≡ result deep →
    (deep_refusal t ≡ none) × (pack (deeply t) ≡ deep)
deep_is text tree {t = t} c e = inverse-is inv_deep text tree (deep_refusal t) (deeply t) (inv_deep-is t) c e

-- The undo view.
deeply-undoes : {f : Features} {text : List ℕ} {t : Tree} → Tidy f text t → clean t ≡ true → deep_refusal t ≡ none → Undoes f text t (deeply t)
deeply-undoes {f} {text} {t} p c r =
    record {
      in_bounds = deeply-ok t text p.in_bounds;
      fits = deeply-fits t text p.in_bounds r (tidy-fits p);
      ranged = deeply-in-range t f text r p.ranged;
      undoable = deeply-clean t c p.fits;
      nested = deeply-parens t;
      unrolls = deep-is-shallow t false ∙ inverse-unrolls t;
    }

-- any inverse shows the steps undone and in reverse
shows : {f : Features} {text : List ℕ} {t i : Tree} → Tidy f text t → Undoes f text t i → (list : List Leaf) → flatten t ≡ result list →
    length list ≤ MAX-STEPS → Shows f text (pack t) list (pack i) (backwards list)
shows {text = text} {i = i} p u list unrolls few =
    record {
      unrolls = inverse-steps p u list unrolls few;
      text' = printed text i;
      prints = gives (display text (pack i)) (printed text i) (inverse-prints p u);
      agrees = agrees p u list unrolls few;
      same = agrees-steps p u list unrolls few;
    }

undo-view : (f : Features) (text tree : List ℕ) (list : List Leaf) → Unrollable f text tree list → UndoView f text tree list
undo-view f text tree list u =
    let n = unrollable-tree f text tree list u in
    let t = n.nodes in
    let p = n.tidy in
    subst (λ (b : List ℕ). UndoView f text b list) n.bytes
    (record {
      shallow = pack (inverted t);
      inverts = inverse-given p n.undoable;
      undoing = backwards list;
      shows = shows p (inverted-undoes p n.undoable) list n.unrolls u.countable;
      shows_deep = λ deep e.
          let d = deep_is text (pack t) (tidy-checks p) e in
          subst (λ (b : List ℕ). Shows f text (pack t) list b (backwards list)) d.1
          (shows p (deeply-undoes p n.undoable d.0) list n.unrolls u.countable);
    })

-- Read back, whether the text unrolls or not: any tree over an accepted text that is in bounds, fits its records, is in the setting's range and has as
-- many parentheses as the tree that was read.
abbrev ReadsBack : Features → (text text' inverted : List ℕ) → Type 0
ReadsBack f text text' inverted =
    (tree' : List ℕ) × (reading f text' ≡ result tree') × (unspanned text' (unpack tree') ≡ unspanned text (unpack inverted))

nodes-read-back : {f : Features} {text : List ℕ} {t : Tree} → Tidy f text t → (i : Tree) → tree_ok text i ≡ true → FitsTree i →
    in_range f (unspanned text i) ≡ true → parens i ≡ parens t → (text' : List ℕ) → display text (pack i) ≡ result text' → length text' ≤ MAX-TEXT →
    ReadsBack f text text' (pack i)
nodes-read-back {f} {text} p i ok fits ranged nested text' shown short =
    let few : parens i ≤ 64 = omega (arith, nested, p.nested) in
    let c = checks-over p.accepted i ok fits (omega (arith, parens-depth i, few)) in
    let is : printed text i ≡ text' = same-result (rw c at shown) in
    let b = printed-back-over f text i ranged few (rw (← is) at short) in
    let back = tidy f (printed text i) b.tree b.accepted in
    subst (λ (s : List ℕ). ReadsBack f text s (pack i)) is (
      pack b.tree,
      accepts f (printed text i) b.tree b.accepted,
      ap (unspanned (printed text i)) (unpack-pack b.tree (tidy-fits back)) ∙ b.means ∙ sym (ap (unspanned text) (unpack-pack i fits)),
    )

tidy-reads-back : {f : Features} {text : List ℕ} {t : Tree} → Tidy f text t → (deep : Bool) (inverted text' : List ℕ) →
    pick deep (deep_inverse text (pack t)) (inverse text (pack t)) ≡ result inverted → display text inverted ≡ result text' → length text' ≤ MAX-TEXT →
    ReadsBack f text text' inverted
tidy-reads-back {f} {text} {t} p true bytes text' e shown short =
    let d = deep_is text (pack t) (tidy-checks p) e in
    subst (ReadsBack f text text') d.1
    (nodes-read-back p (deeply t) (deeply-ok t text p.in_bounds) (deeply-fits t text p.in_bounds d.0 (tidy-fits p))
    (deeply-in-range t f text d.0 p.ranged) (deeply-parens t) text' (rw (← d.1) at shown) short)
tidy-reads-back {f} {text} {t} p false bytes text' e shown short =
    let d = inverse-is inv text (pack t) (inv_refusal t) (inverted t) (inv-is t) (tidy-checks p) e in
    subst (ReadsBack f text text') d.1
    (nodes-read-back p (inverted t) (inverted-ok text t p.in_bounds) (inverted-fits text t p.in_bounds d.0 (tidy-fits p))
    (inverted-in-range f text t d.0 p.ranged) (inverted-parens t) text' (rw (← d.1) at shown) short)

reads-back : (deep : Bool) (f : Features) (text tree inverted text' : List ℕ) → reading f text ≡ result tree →
    pick deep (deep_inverse text tree) (inverse text tree) ≡ result inverted → display text inverted ≡ result text' → length text' ≤ MAX-TEXT →
    ReadsBack f text text' inverted
reads-back deep f text tree bytes text' reads e shown short =
    let a = accepted-tree f text tree reads in
    tidy-reads-back (tidy f text a.0 a.1) deep bytes text'
    (subst (λ (b : List ℕ). pick deep (deep_inverse text b) (inverse text b) ≡ result bytes) (sym a.2) e) shown short

-- Any tree that passes the check, read or made by hand.
module _ {text tree : List ℕ} (c : Checked text tree) where
  abbrev t : Tree
  t = unpack tree

  itself : checked text tree ≡ result t
  itself = checks text tree t c.short c.is_utf8 c.formed refl

  formed : WellFormedTree text tree
  formed = well-formed-tree text tree c.formed

  -- a tree over the text that is in bounds, fits its records and is as deep passes too
  passes : (i : Tree) → tree_ok text i ≡ true → FitsTree i → depth i ≡ depth t → checked text (pack i) ≡ result i
  passes i ok fits same =
      checks text (pack i) i c.short c.is_utf8 (packed-well-formed text i fits ok (omega (arith, same, formed.low))) (unpack-pack i fits)

  inverted-passes : inv_refusal t ≡ none → checked text (pack (inverted t)) ≡ result (inverted t)
  inverted-passes r =
      passes (inverted t) (inverted-ok text t formed.ok) (inverted-fits text t formed.ok r formed.packed.fits) (inverted-depth t)

  deeply-passes : deep_refusal t ≡ none → checked text (pack (deeply t)) ≡ result (deeply t)
  deeply-passes r = passes (deeply t) (deeply-ok t text formed.ok) (deeply-fits t text formed.ok r formed.packed.fits) (deeply-depth t)

  fitted : tree_fits t ≡ true
  fitted = tree-fitted t formed.packed.fits

  -- inverted deep twice, it is what it was
  deep_back : deep_refusal t ≡ none → deep_inverse text (pack (deeply t)) ≡ result tree
  deep_back r = rw (deeply-passes r, inv_deep-is (deeply t), deeply-unrefused t r fitted, deeply-twice t, formed.packed.whole)

  -- where its steps can all be undone, both inverses play them undone and in reverse
  module _ (list : List Leaf) (unrolls : flatten t ≡ result list) (few : length list ≤ MAX-STEPS) (undoable : every negatable list ≡ true) where
    is-clean : clean t ≡ true
    is-clean = unrollable-clean t list unrolls undoable

    undone : flat undo false (inverted t) ≡ backwards list
    undone = inverse-unrolls t ∙ ap backwards (unrolled-list t list unrolls).1

    inverts : inverse text tree ≡ result (pack (inverted t))
    inverts = rw (itself, inverse-accepted t is-clean)

    shallow-steps : steps text (pack (inverted t)) ≡ result (backwards list)
    shallow-steps = undone-steps text (inverted t) list (inverted-passes (clean-inverts t is-clean)) (inverted-clean t is-clean fitted) undone few

    deep-steps : deep_refusal t ≡ none → steps text (pack (deeply t)) ≡ result (backwards list)
    deep-steps r =
        undone-steps text (deeply t) list (deeply-passes r) (deeply-clean t is-clean fitted) (deep-is-shallow t false ∙ undone) few

twice : (text tree deep : List ℕ) → deep_inverse text tree ≡ result deep → deep_inverse text deep ≡ result tree
twice text tree deep e =
    let c = checked-tree text tree _ (after (checked text tree) e).1 in
    let d = deep_is text tree (itself c) e in
    subst (λ (b : List ℕ). deep_inverse text b ≡ result tree) d.1 (deep_back c d.0)

alike : (text tree : List ℕ) (list : List Leaf) → steps text tree ≡ result list → every (λ x. not (overflows x)) list ≡ true →
    (shallow : List ℕ) × (undoing : List Leaf) × (inverse text tree ≡ result shallow) × (steps text shallow ≡ result undoing)
    × ((deep : List ℕ) → deep_inverse text tree ≡ result deep → steps text deep ≡ result undoing)
alike text tree list e undoable =
    let s = steps_of text tree list e in
    let c = checked-tree text tree s.0 s.1 in
    let unrolls = subst (λ (t : Tree). flatten t ≡ result list) (same-result (sym s.1 ∙ itself c)) s.2 in (
      pack (inverted (unpack tree)),
      backwards list,
      inverts c list unrolls s.3 undoable,
      shallow-steps c list unrolls s.3 undoable,
      λ deep e'.
          let d = deep_is text tree (itself c) e' in
          subst (λ (b : List ℕ). steps text b ≡ result (backwards list)) d.1 (deep-steps c list unrolls s.3 undoable d.0),
    )

pub deep-inverses : DeepInverses
deep-inverses = record { undo_view = undo-view; reads_back = reads-back; alike = alike; twice = twice }
