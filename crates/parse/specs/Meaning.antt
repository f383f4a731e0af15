-- What the answers of parse.rt say: a reading of the text, or a rejection; and names for the parts of rules that a function of
-- its own reads.
use Rattle.std.specs.Prelude.{ℕ, ◌+◌, ◌≤◌, ◌<◌, min, max, Bool, true, false, ◌&&◌, ◌||◌, List, [], ◌∷◌, eqb, ℤ, pos, drop, Option, Some, None}
use Rattle.notation.specs.Basics.{pick}
use Rattle.notation.specs.Numbers.{from_bits}
use Rattle.notation.specs.Utf8.{byte_at}
use Rattle.notation.specs.Layers.{single, range}
use Rattle.notation.specs.Layers as rules
use Rattle.notation.specs.Tree as tree
use Rattle.notation.specs.Tree.{layer_range, single_layer, no_layers, Node, leaf, block, Leaf}
use Rattle.notation.specs.Packed.{body_head, leaf_fields, head_fields}
use Rattle.notation.specs.Grammar.{
  Reading,
  rejected,
  read,
  Reader,
  done,
  and_then,
  ◌or◌,
  when,
  just,
  word,
  whitespace,
  padded,
  uint,
  MAX-I32,
  layer,
  signed_layer,
  i32,
  multiplier,
  more_of,
  constraint,
  layer_set_element,
  move_node,
  megaminx_scramble_move,
  ◌>>=◌,
  ◌>>◌,
}
use Rattle.notation.specs.declared.features.Features.{Features}
use Rattle.notation.specs.declared.common.MegaminxScrambleMove.{MegaminxScrambleMove}
use Rattle.notation.specs.declared.common.MegaminxScrambleMove.TheVariants.{Rpp, Rmm, Dpp, Dmm}
use Rattle.record.specs.declared.encode.Fields.{Fields}
use Rattle.parsed.specs.declared.Parsed.{Parsed}
use Rattle.parse.specs.declared.parts.LayerSetElement.{LayerSetElement}
use Rattle.parse.specs.declared.parts.LayerSetElement.TheVariants as layer_element

-- Answers that give only an end; of others, specs/Reading of `parsed` says what they mean.
abbrev pub forget : {A : Type 0} → Reading A → Reading (Unit {0})
forget rejected = rejected
forget (read a next rest) = read tt next rest

abbrev pub end_reading : List ℕ → Option ℕ → Reading (Unit {0})
end_reading text None = rejected
end_reading text (Some next) = read tt next (drop next text)

-- Elements of sets.
-- the sign of a constraint: -> or <>
abbrev pub sign_at : List ℕ → ℕ → Bool
sign_at text at = (eqb (byte_at text at) 45 && eqb (byte_at text (at + 1)) 62) || (eqb (byte_at text at) 60 && eqb (byte_at text (at + 1)) 62)

abbrev pub layer_set_element_of : LayerSetElement → rules.LayerSetElement
layer_set_element_of (layer_element.Single i) = single (from_bits 32 i)
layer_set_element_of (layer_element.Range i j) = range (from_bits 32 i) (from_bits 32 j)

abbrev pub layer_after_dots : Reader ℤ
layer_after_dots = do word ".."; signed_layer

abbrev pub layer_after_hyphen : Reader ℕ
layer_after_hyphen = do just "-"; layer

abbrev pub unsigned_or_single : Reader rules.LayerSetElement
unsigned_or_single =
    (do i ← layer; just "-"; j ← layer; done (range (pos i) (pos j)))
    or (do i ← signed_layer; done (single i))

-- Sets in braces: where an element ends, and what follows one; `fuel` is more than enough.
abbrev pub constraint_end : Reader (Unit {0})
constraint_end at s = forget (constraint at s)

abbrev pub layer_end : Bool → Reader (Unit {0})
layer_end hsc1 at s = forget (layer_set_element hsc1 at s)

abbrev pub brace : Reader (Unit {0})
brace = just "}"

abbrev pub more : {A : Type 0} → Reader A → ℕ → Reader (List A)
more item fuel = more_of ◌∷◌ [] item (padded (just ",")) fuel

abbrev pub ending : {A : Type 0} → Reader A → ℕ → Reader (Unit {0})
ending item fuel = do more item fuel; whitespace; brace

-- Parts of a move.
abbrev pub numbered_layers : Reader (tree.Layers tree.Span)
numbered_layers =
    (do i ← layer; just "-"; j ← layer; done (layer_range (min i j) (max i j)))
    or (do i ← layer; done (single_layer i))
    or done no_layers

-- its number, 1 where none is written
abbrev pub number : Reader ℕ
number = uint 0 MAX-I32 or done 1

-- a prime that ends at r; none where r is where it would begin
abbrev pub prime_reading : List ℕ → ℕ → ℕ → Reading (Unit {0})
prime_reading text at r = pick (eqb r at) rejected (read tt r (drop r text))

-- Nodes, by the fields of their records.
abbrev pub node_fields : Node Leaf → List ℕ
node_fields (leaf x) = leaf_fields x
node_fields (block b m) = head_fields (body_head b m)

-- a node with its multiplier
abbrev pub repeated : Features → Reading (ℤ → Node Leaf) → Reading (List ℕ)
repeated f r = and_then r (λ inner. do m ← multiplier f; done (node_fields (inner m)))

abbrev pub leaf_read : Reading Leaf → Reading (List ℕ)
leaf_read r = and_then r (λ x. done (leaf_fields x))

abbrev pub scramble_read : Reading MegaminxScrambleMove → Reading (List ℕ)
scramble_read r = and_then r (λ k. done (leaf_fields (tree.megaminx k)))

abbrev pub pair_after : Reader (List ℕ)
pair_after = do u ← padded i32; just ","; d ← padded i32; just ")"; done (leaf_fields (tree.pair u d))

abbrev pub scramble_or_move : Features → Reader (List ℕ)
scramble_or_move f = (λ at s. scramble_read (when f.megaminx megaminx_scramble_move at s)) or (λ at s. repeated f (move_node f at s))

-- twice a sign
abbrev pub twice : List ℕ → ℕ → ℕ → Bool
twice text at sign = eqb (byte_at text at) sign && eqb (byte_at text (at + 1)) sign

-- a scramble move: R or D, then ++ or --
abbrev pub scramble_at : List ℕ → ℕ → Bool
scramble_at text at = (eqb (byte_at text at) 82 || eqb (byte_at text at) 68) && (twice text (at + 1) 43 || twice text (at + 1) 45)

-- which one it is, by whether the letter is R and the sign +
abbrev pub scramble_kind : Bool → Bool → MegaminxScrambleMove
scramble_kind true true = Rpp
scramble_kind true false = Rmm
scramble_kind false true = Dpp
scramble_kind false false = Dmm

-- What else the caller may count on: an answer lies within the text.
abbrev pub Within : ℕ → ℕ → Option (Parsed Fields) → Type 0
Within at end None = Unit {0}
Within at end (Some p) = (at < p.next) × (p.next ≤ end)
