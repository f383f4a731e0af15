-- Document 02, request 13: the undo view of a text shows its shallow inverse or, where that is not refused, its deep one.
-- The theorem is `deep-inverses` in crates/laws/proofs/UndoView.antt.
use Rattle.std.specs.Prelude.{◌≤◌, ◌≡◌, Bool, true, not, List, length}
use Rattle.notation.specs.Basics.{Bytes, pick, every}
use Rattle.notation.specs.Refusals.{result}
use Rattle.notation.specs.Tree.{Leaf}
use Rattle.notation.specs.Packed.{unpack}
use Rattle.notation.specs.Meaning.{SameSteps, unspanned}
use Rattle.notation.specs.Invert.{overflows}
use Rattle.notation.specs.Entries.{MAX-TEXT, reading, inverse, deep_inverse, display, steps, inv_entry, display_entry}
use Rattle.notation.specs.Demands.{Gives, Unrollable, Agrees}
use Rattle.notation.specs.declared.features.Features.{Features}

-- An inverse of a text's tree shows the steps `undoing`: it unrolls into them, and it prints. Where the printed form keeps the limit of
-- texts, it is read back in the same setting, agrees with the text as demand 3 says, and unrolls, step for step, into the same list.
pub record Shows (f : Features) (text tree : Bytes) (list : List Leaf) (inverted : Bytes) (undoing : List Leaf) : Type 0 where
  pub unrolls : steps text inverted ≡ result undoing
  pub text' : Bytes
  pub prints : Gives (display_entry text inverted) text'
  pub agrees : length text' ≤ MAX-TEXT → Agrees f text tree list text'
  pub same : (short : length text' ≤ MAX-TEXT) → SameSteps text' (agrees short).list' text undoing

-- The shallow inverse is never refused here, and what it shows the deep one shows too, where it is not refused.
pub record UndoView (f : Features) (text tree : Bytes) (list : List Leaf) : Type 0 where
  pub shallow : Bytes
  pub inverts : Gives (inv_entry text tree) shallow
  pub undoing : List Leaf
  pub shows : Shows f text tree list shallow undoing
  pub shows_deep : (deep : Bytes) → deep_inverse text tree ≡ result deep → Shows f text tree list deep undoing

pub record DeepInverses : Type 0 where
  -- The undo view, of every text that demand 3 speaks of.
  pub undo_view : (f : Features) (text tree : Bytes) (list : List Leaf) → Unrollable f text tree list → UndoView f text tree list
  -- Of every text that is read, whether it unrolls or not: either inverse, printed and not too long, is read back and means the same.
  pub reads_back : (deep : Bool) (f : Features) (text tree inverted text' : Bytes) → reading f text ≡ result tree →
      pick deep (deep_inverse text tree) (inverse text tree) ≡ result inverted → display text inverted ≡ result text' →
      length text' ≤ MAX-TEXT →
      (tree' : Bytes) × (reading f text' ≡ result tree') × (unspanned text' (unpack tree') ≡ unspanned text (unpack inverted))
  -- Of every tree, read or made by hand, that unrolls into steps that can all be undone: both inverses unroll into one list, if the deep
  -- one is not refused.
  pub alike : (text tree : Bytes) (list : List Leaf) → steps text tree ≡ result list → every (λ x. not (overflows x)) list ≡ true →
      (shallow : Bytes) × (undoing : List Leaf) × (inverse text tree ≡ result shallow) × (steps text shallow ≡ result undoing)
      × ((deep : Bytes) → deep_inverse text tree ≡ result deep → steps text deep ≡ result undoing)
  -- Of every tree: the second deep inverse is not refused, and gives the records of before, byte for byte.
  pub twice : (text tree deep : Bytes) → deep_inverse text tree ≡ result deep → deep_inverse text deep ≡ result tree
