-- A listed tree has at most a record for each byte of its text, and its inverse is as long. Assumes nothing.
use Prim.Native.Nat.{ℕ, ◌*◌, ◌≤◌}
use mathlib.Core.Path.{◌≡◌, refl, sym, ap, ◌∙◌}
use mathlib.Core.Bool.{Bool, true, false}
use mathlib.Core.List.{List}
use mathlib.Core.Option.{Option, none, some}
use native.Mathlib.Omega.{arith}
use lib.Dec.{leb}
use lib.ListN.{length}
use Rattle.notation.specs.Utf8.{utf8}
use Rattle.notation.specs.Refusals.{Outcome, refusal, result, ◌>>◌, unless, TOO-LONG, NOT-UTF8, NOT-WELL-FORMED}
use Rattle.notation.specs.Tree.{Tree}
use Rattle.notation.specs.Packed.{RECORD, pack, unpack}
use Rattle.notation.specs.WellFormed.{well_formed}
use Rattle.notation.specs.Entries.{reading, checked, inverse, MAX-TEXT}
use Rattle.notation.specs.declared.features.Features.{Features}
use Rattle.laws.proofs.Bools.{no-refusal}
use Rattle.laws.proofs.Unrolling.{verdict}
use Rattle.laws.specs.Inverted.{inverted, inv_refusal}
use Rattle.laws.proofs.Packing.{length-pack, well-formed-packed}
use Rattle.laws.proofs.WellFormedInverses.{inverted-size}
use Rattle.laws.proofs.Accepting.{accepted-tree}
use Rattle.laws.proofs.ReadingYields.{reading-size}
use Rattle.entries.proofs.Inverting.{inverting}

pub reading-long : (f : Features) (text tree : List ℕ) → reading f text ≡ result tree → length tree ≤ RECORD * length text
reading-long f text tree e =
    let a = accepted-tree f text tree e in
    omega (arith, ap length a.2, length-pack a.0, reading-size f text a.0 a.1.reads)

-- a checked tree is well formed
formed : (text tree : List ℕ) (t : Tree) → checked text tree ≡ result t → (well_formed text tree ≡ true) × (unpack tree ≡ t)
unfolding checked
formed text tree t e = go (leb (length text) MAX-TEXT) (utf8 text) (well_formed text tree) refl e
  where
    after : Bool → Bool → Bool → Outcome Tree
    after l u w = do
      (do unless TOO-LONG l; unless NOT-UTF8 u)
      unless NOT-WELL-FORMED w
      result (unpack tree)

    go : (l u w : Bool) → well_formed text tree ≡ w → after l u w ≡ result t → (well_formed text tree ≡ true) × (unpack tree ≡ t)
    go false u w h e = no-refusal e
    go true false w h e = no-refusal e
    go true true false h e = no-refusal e
    go true true true h e = (h, cc)

written : (q : Option ℕ) (bytes l : List ℕ) → verdict q bytes ≡ result l → bytes ≡ l
written none bytes l e = cc
written (some r) bytes l e = no-refusal e

pub inverse-long : (text tree l : List ℕ) → inverse text tree ≡ result l → length l ≡ length tree
inverse-long text tree l e = go (checked text tree) refl
  where
    go : (o : Outcome Tree) → checked text tree ≡ o → length l ≡ length tree
    go (refusal r) c = no-refusal (sym ((inverting false text tree).passes r c) ∙ e)
    go (result t) c =
        let f = formed text tree t c in
        let bytes = written (inv_refusal (unpack tree)) (pack (inverted (unpack tree))) l (sym ((inverting false text tree).is (c ∙ ap result (sym f.1))) ∙ e) in
        sym (ap length bytes) ∙ length-pack (inverted (unpack tree)) ∙ ap (λ (k : ℕ). RECORD * k) (inverted-size (unpack tree))
        ∙ sym (length-pack (unpack tree)) ∙ ap length (well-formed-packed text tree f.0)
