-- Document 02, request 6: what the flag `curly_primes` comes to for whole texts.
use Rattle.std.specs.Prelude.{ℕ, zero, suc, ◌+◌, ◌-◌, ◌≡◌, true, false, ◌||◌, List, [], ◌∷◌, eqb}
use Prim.Native.Char.{code}
use Rattle.std.proofs.Math.Option.{Option, none, some}
use Rattle.notation.specs.Basics.{pick, one_of}
use Rattle.notation.specs.Chars.{curly_prime_codes, is_family_char, is_latin_letter, is_greek_letter}
use Rattle.notation.specs.Utf8.{width_if}
use Rattle.notation.specs.Tree.{
  Span,
  span,
  Layers,
  no_layers,
  single_layer,
  layer_range,
  layer_set,
  Leaf,
  Step,
  rotation,
  move,
  pause,
  pair,
  slash,
  megaminx,
  Tree,
  NodeList,
  map_nodes,
}
use Rattle.notation.specs.Grammar.{just, notation, notation_by}
use Rattle.notation.specs.Meaning.{unspanned}
use Rattle.notation.specs.Refusals.{Outcome, result, ◌>>=◌, ◌>>◌, unless, or_refuse, TOO-NESTED, NOT-NOTATION}
use Rattle.notation.specs.Entries.{text_ok, nesting_ok, tree_in}
use Rattle.notation.specs.declared.features.Features.{Features}

-- With the flag off readings are unchanged: in every setting a family holds the characters of document 01, and without the flag a text is
-- read by document 01's rule, in which the apostrophe alone negates.
pub record Unchanged : Type 0 where
  pub families : (c : ℕ) → is_family_char c ≡ (is_latin_letter c || eqb c 0x5f || is_greek_letter c)
  pub readings : (f : Features) → f.curly_primes ≡ false → (text : List ℕ) → notation f text ≡ notation_by (just "'") f text

-- With it on a text is read as, with it off, the straight text, in which an apostrophe replaces each curly sign.
abbrev pub without_curly : Features → Features
without_curly f =
    record {
      layers = f.layers;
      generalized_rotations = f.generalized_rotations;
      transform_constraints = f.transform_constraints;
      megaminx = f.megaminx;
      sq1 = f.sq1;
      curly_primes = false;
    }

-- how many bytes the curly sign at the start takes, 0 where none stands there
abbrev pub curly_width : List ℕ → ℕ
curly_width s = width_if (one_of curly_prime_codes) s

-- k bytes at the start belong to a sign that was replaced
unfoldable pub straight_from : ℕ → List ℕ → List ℕ
straight_from k [] = []
straight_from (suc k) (b ∷ s) = straight_from k s
straight_from zero (b ∷ s) = let w = curly_width (b ∷ s) in pick (eqb w 0) b (code "'") ∷ straight_from (w - 1) s

abbrev pub straight : List ℕ → List ℕ
straight text = straight_from 0 text

-- The offset in the text as given of what stands at offset i of the straight text: each sign before it is two bytes longer. k as above.
unfoldable pub given_from : ℕ → List ℕ → ℕ → ℕ
given_from k [] i = i
given_from (suc k) (b ∷ s) i = suc (given_from k s i)
given_from zero (b ∷ s) zero = 0
given_from zero (b ∷ s) (suc i) = suc (given_from (curly_width (b ∷ s) - 1) s i)

abbrev pub given : List ℕ → ℕ → ℕ
given text i = given_from 0 text i

-- the part of the text as given
abbrev pub span_given : List ℕ → Span → Span
span_given text p = let at = given text p.offset in span at (given text (p.offset + p.size) - at)

abbrev pub constraints_given : List ℕ → Option Span → Option Span
constraints_given text none = none
constraints_given text (some p) = some (span_given text p)

abbrev pub layers_given : List ℕ → Layers Span → Layers Span
layers_given text no_layers = no_layers
layers_given text (single_layer i) = single_layer i
layers_given text (layer_range i j) = layer_range i j
layers_given text (layer_set p) = layer_set (span_given text p)

unfoldable pub leaf_given : List ℕ → Leaf → Leaf
leaf_given text (rotation f c m) = rotation (span_given text f) (constraints_given text c) m
leaf_given text (move t l f c m) = move t (layers_given text l) (span_given text f) (constraints_given text c) m
leaf_given text pause = pause
leaf_given text (pair u d) = pair u d
leaf_given text slash = slash
leaf_given text (megaminx k) = megaminx k

abbrev pub tree_given : List ℕ → Tree → Tree
tree_given text t = map_nodes (leaf_given text) t

-- the straight text's tree; refusals 1, 2 and 3 are those of the text as given
abbrev pub straight_tree_in : Features → List ℕ → Outcome Tree
straight_tree_in f text = do
  text_ok text
  unless TOO-NESTED (nesting_ok 0 0 text)
  or_refuse NOT-NOTATION (notation (without_curly f) (straight text))

-- Both readings, accepted and rejected, with each offset and length taken from the text as given; and without offsets, the unspanned trees.
pub record ReadAsStraight : Type 0 where
  pub readings : (f : Features) → f.curly_primes ≡ true → (text : List ℕ) →
      tree_in f text ≡ (do t ← straight_tree_in f text; result (tree_given text t))
  pub meanings : (f : Features) → f.curly_primes ≡ true → (text : List ℕ) →
      ◌≡◌ {A = Outcome (NodeList Step)}
      (do t ← tree_in f text; result (unspanned text t))
      (do t ← straight_tree_in f text; result (unspanned (straight text) t))
