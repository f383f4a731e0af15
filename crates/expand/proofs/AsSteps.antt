-- The steps that bytes hold. Of the records of steps that fit these are the steps; of the records of any steps that can be undone, steps with
-- the same records, also undone. Assumes nothing.
use Prim.Native.Nat.{ℕ}
use mathlib.Core.Path.{◌≡◌, refl, sym, ap, ap₂, ◌∙◌, subst}
use mathlib.Core.Bool.{Bool, true, false}
use mathlib.Core.List.{List, [], ◌∷◌, ◌++◌, map, reverse-cons}
use Rattle.notation.specs.Tree.{Leaf, leaf, nil, cons, Tree}
use Rattle.notation.specs.Packed.{leaf_record, pack_node, pack}
use Rattle.notation.specs.Entries.{records}
use Rattle.notation.specs.Invert.{undo}
use Rattle.record.specs.Range.{FitsLeaf}
use Rattle.laws.specs.Packed.{FitsNode, FitsTree}
use Rattle.laws.proofs.Packing.{unpack-pack}
use Rattle.laws.specs.Unrolled.{backwards, flat_node, flat}
use Rattle.laws.specs.All.{All, empty, one}
use Rattle.expand.specs.Steps.{Undoable, as_steps, AreSteps, either, completed}
use Rattle.expand.proofs.Steps.{records-append}
use Rattle.expand.proofs.Undoing.{wrapped, wrapped-fits, wrapped-record, wrapped-undone-record}

-- steps as a tree
unfoldable listed : List Leaf → Tree
listed [] = nil
listed (x ∷ l) = cons (leaf x) (listed l)

listed-bytes : (l : List Leaf) → pack (listed l) ≡ records l
unfolding listed pack pack_node records
listed-bytes [] = refl
listed-bytes (x ∷ l) = ap (λ (s : List ℕ). leaf_record x ++ s) (listed-bytes l)

listed-fits : {l : List Leaf} → All FitsLeaf l → FitsTree (listed l)
unfolding listed FitsTree FitsNode
listed-fits empty = tt
listed-fits (one h p) = (h, listed-fits p)

listed-flat : (l : List Leaf) → flat undo false (listed l) ≡ l
unfolding listed flat flat_node
listed-flat [] = refl
listed-flat (x ∷ l) = ap (λ (s : List Leaf). x ∷ s) (listed-flat l)

pub as_steps-records : {l : List Leaf} → All FitsLeaf l → as_steps (records l) ≡ l
as_steps-records {l} p = ap as_steps (sym (listed-bytes l)) ∙ ap (flat undo false) (unpack-pack (listed l) (listed-fits p)) ∙ listed-flat l

-- steps that can be undone, as the records have them
all-wrapped : {l : List Leaf} → All Undoable l → All FitsLeaf (map wrapped l)
all-wrapped empty = empty
all-wrapped (one {x = x} h p) = one (wrapped-fits x h) (all-wrapped p)

records-wrapped : {l : List Leaf} → All Undoable l → records (map wrapped l) ≡ records l
unfolding records
records-wrapped empty = refl
records-wrapped (one {x = x} h p) = ap₂ (λ (a b : List ℕ). a ++ b) (wrapped-record x h) (records-wrapped p)

-- the records of a step and more, backwards
pub records-backwards : (x : Leaf) (l : List Leaf) → records (backwards (x ∷ l)) ≡ records (backwards l) ++ (leaf_record (undo x) ++ [])
unfolding records
records-backwards x l = ap records (reverse-cons (undo x) (map undo l)) ∙ records-append (backwards l) (undo x ∷ [])

backwards-wrapped : {l : List Leaf} → All Undoable l → records (backwards (map wrapped l)) ≡ records (backwards l)
backwards-wrapped empty = refl
backwards-wrapped (one {x = x} {l = l} h p) =
    records-backwards (wrapped x) (map wrapped l)
    ∙ ap₂ (λ (a b : List ℕ). a ++ (b ++ [])) (backwards-wrapped p) (wrapped-undone-record x h)
    ∙ sym (records-backwards x l)

-- bytes that are the records of steps that can be undone
module _ {bs : List ℕ} {l : List Leaf} (e : bs ≡ records l) (u : All Undoable l) where
  as_steps-wrapped : as_steps bs ≡ map wrapped l
  as_steps-wrapped = ap as_steps (e ∙ sym (records-wrapped u)) ∙ as_steps-records (all-wrapped u)

  pub holds : AreSteps bs
  holds = record { bytes = ap records as_steps-wrapped ∙ records-wrapped u ∙ sym e; fits = subst (All FitsLeaf) (sym as_steps-wrapped) (all-wrapped u) }

  pub same-either : (d : Bool) → records (either (as_steps bs) d) ≡ records (either l d)
  same-either true = ap (λ (k : List Leaf). records (backwards k)) as_steps-wrapped ∙ backwards-wrapped u
  same-either false = ap records as_steps-wrapped ∙ records-wrapped u

-- the same of two lists
pub same-completed : (k : Bool) {xs ys : List ℕ} {l m : List Leaf} → xs ≡ records l → All Undoable l → ys ≡ records m → All Undoable m →
    records (completed k (as_steps xs) (as_steps ys)) ≡ records (completed k l m)
same-completed true {xs} {ys} e u e' u' = simp (records-append, same-either e u true, same-either e u false, same-either e' u' true, same-either e' u' false)
same-completed false {xs} {ys} e u e' u' = simp (records-append, same-either e u true, same-either e u false, same-either e' u' false)
