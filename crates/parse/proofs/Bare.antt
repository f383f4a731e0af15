-- Texts at which no move starts: what stands there starts none, or is a number that no family follows. Assumes nothing.
use Prim.Native.Nat.{ℕ, ◌+◌, ◌<◌}
use mathlib.Core.Path.{◌≡◌, refl, sym, ap, ◌∙◌}
use mathlib.Core.Bool.{Bool, true, false, ◌&&◌}
use mathlib.Core.List.{List, [], ◌∷◌}
use native.Mathlib.Omega.{arith}
use borrow.Author.Tests.{ltb-true}
use lib.Dec.{eqb, ltb}
use lib.IntN.{ℤ}
use lib.ListN.{take, drop}
use Rattle.notation.specs.Basics.{one_of, pick, between}
use Rattle.notation.specs.Chars.{is_family_char, classify}
use Rattle.notation.specs.Numbers.{digit_run, decimal}
use Rattle.notation.specs.Utf8.{run, byte_at, run_from, code_point, char_width}
use Rattle.notation.specs.Tree as tree
use Rattle.notation.specs.Tree.{Layers, Span, no_layers, single_layer, layer_set, Node, leaf, Leaf}
use Rattle.notation.specs.Grammar.{Reading, rejected, read, and_then, or_else, done, fail, when, uint, tilde, layer, layer_prefix_contents, layer_set_elements, spanned, move_node, node}
use Rattle.notation.specs.declared.features.Features.{Features}
use Rattle.notation.specs.declared.common.MegaminxScrambleMove.{MegaminxScrambleMove}
use Rattle.parse.specs.Meaning.{numbered_layers}
use Rattle.parse.proofs.Readings.{never, or-none, when-none}
use Rattle.parse.proofs.LayerSets.{no-layers, one-layer}
use Rattle.parse.proofs.Choices.{just-no, times, pause, scramble, sq1, inner-fail, node-by, no-pause, scramble-none, rotation-none}

-- what may stand behind a number that is no move's: no family, nor the `-` of a second layer
pub record Behind (s : List ℕ) : Type 0 where
  pub no-family : run is_family_char s ≡ 0
  pub no-hyphen : eqb (byte_at s 0) 45 ≡ false

pub record Bare (s : List ℕ) : Type 0 where
  pub no-tilde : eqb (byte_at s 0) 126 ≡ false
  pub no-brace : eqb (byte_at s 0) 123 ≡ false
  pub no-letter : run is_family_char s ≡ 0
  pub no-layer : 0 < digit_run s → Behind (drop (digit_run s) s)

-- a number that is read has digits, and ends where they end
pub record Digits (s rest : List ℕ) : Type 0 where
  pub some : 0 < digit_run s
  pub ends : drop (digit_run s) s ≡ rest

pub digits : (low high at : ℕ) (s : List ℕ) (value next : ℕ) (rest : List ℕ) → uint low high at s ≡ read value next rest → Digits s rest
unfolding uint
digits low high at s value next rest e = go (ltb 0 (digit_run s)) (between low high (decimal 0 (take (digit_run s) s))) refl e
  where
    go : (a b : Bool) → ltb 0 (digit_run s) ≡ a →
        pick (a && b) (read (decimal 0 (take (digit_run s) s)) (at + digit_run s) (drop (digit_run s) s)) rejected ≡ read value next rest → Digits s rest
    go true true p q = record { some = ltb-true 0 (digit_run s) p; ends = cc }
    go true false p q = never q
    go false b p q = never q

module _ (f : Features) (at : ℕ) (s : List ℕ) (b : Bare s) where
  bare-tilde : tilde f at s ≡ read false at s
  bare-tilde = or-none _ (done false) at s (when-none f.layers.inverted_layers _ at s (rw (just-no "~" at s b.no-tilde)))

  bare_set : (h : Bool) → layer_set_elements h at s ≡ rejected
  unfolding layer_set_elements
  bare_set h = rw (just-no "{" at s b.no-brace)

  bare-numbers : layer_prefix_contents f at s ≡ numbered_layers at s
  unfolding layer_prefix_contents
  bare-numbers =
      or-none (when f.layers.layer_sets (λ at s. and_then (spanned (layer_set_elements f.layers.hsc1_layer_ranges) at s) (λ p. done (layer_set p))) at s) numbered_layers at s
      (when-none f.layers.layer_sets (λ at s. and_then (spanned (layer_set_elements f.layers.hsc1_layer_ranges) at s) (λ p. done (layer_set p))) at s (rw (bare_set f.layers.hsc1_layer_ranges)))

  -- one layer or none, and no family after it
  record Layered : Type 0 where
    layers : Layers Span
    next : ℕ
    rest : List ℕ
    reads : layer_prefix_contents f at s ≡ read layers next rest
    stops : run is_family_char rest ≡ 0

  bare-layers : Layered
  bare-layers = go (layer at s) refl
    where
      go : (r : Reading ℕ) → layer at s ≡ r → Layered
      go rejected w = record { layers = no_layers; next = at; rest = s; reads = bare-numbers ∙ sym (no-layers at s (sym w)); stops = b.no-letter }
      go (read i e t) w =
          let d = digits 1 32767 at s i e t w in
          let h : Behind t = rw d.ends at (b.no-layer d.some) in
          record {
            layers = single_layer i;
            next = e;
            rest = t;
            reads = bare-numbers ∙ sym (one-layer at s i e t (sym w) (rw (just-no "-" e t h.no-hyphen)));
            stops = h.no-family;
          }

  pub bare-move : move_node f at s ≡ rejected
  unfolding move_node
  bare-move = rw (bare-tilde, bare-layers.reads, bare-layers.stops)

  -- so a node without lists is a Square-1 move there
  pub bare-node : eqb (byte_at s 0) 46 ≡ false → eqb (byte_at s 0) 82 ≡ false → eqb (byte_at s 0) 68 ≡ false → eqb (byte_at s 0) 64 ≡ false →
      node f fail at s ≡ sq1 f at s
  bare-node p r d a =
      node-by f fail at s
      ∙ or-none (pause at s) _ at s (no-pause f at s p)
      ∙ or-none (scramble f at s) _ at s
      (when-none f.megaminx _ at s (ap (λ (r : Reading MegaminxScrambleMove). and_then r (λ k. done (leaf (tree.megaminx k)))) (scramble-none f at s r d)))
      ∙ ap (λ (r : Reading (ℤ → Node Leaf)). or_else (and_then r (times f)) (sq1 f) at s)
      (inner-fail f at s ∙ or-none _ (move_node f) at s (rotation-none f at s a) ∙ bare-move)

-- where no digit stands either
pub bare : (s : List ℕ) → eqb (byte_at s 0) 126 ≡ false → eqb (byte_at s 0) 123 ≡ false → digit_run s ≡ 0 → run is_family_char s ≡ 0 → Bare s
bare s t b d l = record { no-tilde = t; no-brace = b; no-letter = l; no-layer = λ h. absurd (omega (arith, h, d)) }

pub bare-end : Bare []
unfolding digit_run run_from
bare-end = bare [] refl refl refl refl

module _ (u : List ℕ) where
  pub bare-parenthesis : Bare (40 ∷ u)
  unfolding digit_run run_from code_point char_width classify one_of
  bare-parenthesis = bare (40 ∷ u) refl refl refl refl

  pub bare-slash : Bare (47 ∷ u)
  unfolding digit_run run_from code_point char_width classify one_of
  bare-slash = bare (47 ∷ u) refl refl refl refl

  pub bare-at-sign : Bare (64 ∷ u)
  unfolding digit_run run_from code_point char_width classify one_of
  bare-at-sign = bare (64 ∷ u) refl refl refl refl
