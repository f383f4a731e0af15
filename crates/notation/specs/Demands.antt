-- Demand 3, over the definitions alone: from any accepted text to its inverse read back, counts, seeks and undone steps.
use Rattle.std.specs.Prelude.{ℕ, suc, ◌-◌, ◌≤◌, ◌≡◌, true, not, List, ◌++◌, length, drop}
use Rattle.std.proofs.Math.Option.{some}
use Rattle.std.proofs.Math.ListN.{get_elem?}
use Rattle.notation.specs.Basics.{every}
use Rattle.notation.specs.Refusals.{Outcome, result, ◌>>=◌}
use Rattle.notation.specs.Tree.{Leaf}
use Rattle.notation.specs.Packed.{leaf_record, unpack}
use Rattle.notation.specs.Meaning.{SameStep}
use Rattle.notation.specs.Invert.{undo, overflows}
use Rattle.notation.specs.Unroll.{flatten}
use Rattle.notation.specs.Entries.{
  Lent,
  reading,
  inverse,
  display,
  parse_notation,
  inv_entry,
  display_entry,
  count_steps,
  seek_step,
  MAX-STEPS,
  MAX-TEXT,
}
use Rattle.notation.specs.declared.features.Features.{Features}

-- an entry does not refuse, and writes these bytes, in every buffer that has room for them
abbrev pub Gives : (List ℕ → Lent ℕ) → List ℕ → Type 0
Gives entry bytes =
    (buffer : List ℕ) → length bytes ≤ length buffer →
    entry buffer ≡ record { answer = result (length bytes); buffer = bytes ++ drop (length bytes) buffer }

-- What demand 3 assumes of a text: it is accepted, its unrolling meets no refusal and gives no more steps than can be counted,
-- and no pair among them has the number −2147483648.
pub record Unrollable (f : Features) (text tree : List ℕ) (list : List Leaf) : Type 0 where
  pub accepted : reading f text ≡ result tree
  pub unrolls : flatten (unpack tree) ≡ result list
  pub countable : length list ≤ MAX-STEPS
  pub negatable : every (λ x. not (overflows x)) list ≡ true

-- Its inverse, printed as text', can be read back, and both agree about every step: entry k of the unrolled list is found at place k,
-- and entry n − 1 − k of the unrolled list of the inverse read back, found there, is the same step as entry k undone.
pub record Agrees (f : Features) (text tree : List ℕ) (list : List Leaf) (text' : List ℕ) : Type 0 where
  pub tree' : List ℕ
  pub list' : List Leaf
  pub read_back : Gives (parse_notation f text') tree'
  pub unrolls_back : flatten (unpack tree') ≡ result list'
  pub count : count_steps text tree ≡ result (length list)
  pub count_back : count_steps text' tree' ≡ result (length list)
  pub seek : (k : ℕ) (x : Leaf) → get_elem? list k ≡ some x → Gives (seek_step text tree k) (leaf_record x)
  pub seek_back : (k : ℕ) (x : Leaf) → get_elem? list k ≡ some x →
      (y : Leaf) × (get_elem? list' (length list - suc k) ≡ some y)
      × Gives (seek_step text' tree' (length list - suc k)) (leaf_record y) × SameStep text' y text (undo x)

pub record Demand3 (f : Features) (text tree : List ℕ) (list : List Leaf) : Type 0 where
  pub reads : Gives (parse_notation f text) tree
  pub inverted : List ℕ
  pub inverts : Gives (inv_entry text tree) inverted
  pub text' : List ℕ
  pub prints : Gives (display_entry text inverted) text'
  pub agrees : length text' ≤ MAX-TEXT → Agrees f text tree list text'

abbrev pub demand3 : Type 0
demand3 = (f : Features) (text tree : List ℕ) (list : List Leaf) → Unrollable f text tree list → Demand3 f text tree list

-- What buffers are lent for, beside the tree and its inverse: the inverse as text, and that text's tree.
abbrev pub printed_inverse : List ℕ → List ℕ → Outcome (List ℕ)
printed_inverse text tree = do t ← inverse text tree; display text t

abbrev pub tree_back : Features → List ℕ → List ℕ → Outcome (List ℕ)
tree_back f text tree = do text' ← printed_inverse text tree; reading f text'

-- what a rule gives, if it gives anything, has at most so many bytes
abbrev pub AtMost : ℕ → Outcome (List ℕ) → Type 0
AtMost n o = (l : List ℕ) → o ≡ result l → length l ≤ n
