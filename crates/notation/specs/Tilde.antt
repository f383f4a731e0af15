-- Document 02, request 3: what the two answers for one prefix, with a tilde and without, are to each other.
-- The theorem is `lights-others` in crates/tilde_laws/proofs/Tilde.antt.
use Rattle.std.specs.Prelude.{ℕ, ◌≡◌, Bool, true, false, not, List}
use Rattle.notation.specs.Basics.{between}
use Rattle.notation.specs.Refusals.{Outcome, result, ◌>>=◌}
use Rattle.notation.specs.Layers.{Range, MAX-LAYER, contains, complement}
use Rattle.notation.specs.Tree.{Span, Layers, Tree}
use Rattle.notation.specs.Meaning.{layer_meaning}
use Rattle.notation.specs.Entries.{checked, record_at, prefix_of, layer_ranges}

-- two answers that share the layers from 1 to n between them
pub record Opposite (n : ℕ) (a b : List Range) : Type 0 where
  -- such a layer is in exactly one of them
  pub one : (i : ℕ) → between 1 n i ≡ true → contains b i ≡ not (contains a i)
  -- any other number is in neither
  pub neither : (i : ℕ) → between 1 n i ≡ false → (contains a i ≡ false) × (contains b i ≡ false)
  -- each is the complement of the other, so that complementing twice gives either back
  pub there : complement n a ≡ b
  pub back : complement n b ≡ a

-- the prefix of the move at a record
abbrev pub prefix_at : List ℕ → ℕ → Outcome (Bool × Layers Span)
prefix_at tree k = do h ← record_at tree k; prefix_of h

-- Two moves of accepted trees, over one text or two, whose prefixes mean the same but for the tilde: on every axis both are
-- answered, and the answers are opposite.
abbrev pub LightsOthers : Type 0
LightsOthers =
    (text text' tree tree' : List ℕ) (t t' : Tree) → checked text tree ≡ result t → checked text' tree' ≡ result t' →
    (k k' : ℕ) (l l' : Layers Span) → prefix_at tree k ≡ result (false, l) → prefix_at tree' k' ≡ result (true, l') →
    layer_meaning text l ≡ layer_meaning text' l' →
    (n : ℕ) (neg : Bool) → between 1 MAX-LAYER n ≡ true →
    (a b : List Range) × (layer_ranges text tree k n neg ≡ result a) × (layer_ranges text' tree' k' n neg ≡ result b) × Opposite n a b
