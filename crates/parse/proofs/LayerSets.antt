-- Layers, as the code reads them. Assumes nothing.
use Prim.Native.Nat.{ℕ, ◌-◌, ◌≤◌, ◌<◌, min, max}
use mathlib.Core.Path.{◌≡◌, refl, sym, ap, ◌∙◌}
use mathlib.Core.Bool.{Bool, true, false, ◌&&◌}
use mathlib.Core.List.{List}
use native.Mathlib.Omega.{arith}
use borrow.Author.Tests.{eqb-true}
use lib.Dec.{eqb}
use lib.IntN.{ℤ, pos}
use lib.ListN.{length, drop}
use lib.Seq.{drop-cons}
use Rattle.notation.specs.Numbers.{from_bits, digit_run}
use Rattle.notation.specs.Utf8.{byte_at}
use Rattle.notation.specs.Layers.{LayerSetElement, single, range}
use Rattle.notation.specs.Tree.{Layers, Span, span, layer_set, layer_range, single_layer, no_layers}
use Rattle.notation.specs.Grammar.{Reading, rejected, read, and_then, or_else, done, just, word, uint, layer, signed_layer, layer_set_element, layer_set_elements, layer_prefix_contents}
use Rattle.notation.specs.declared.features.Features.{Features}
use Rattle.charsets.proofs.Texts.{in-text}
use Rattle.numbers.proofs.Bounds.{number, hyphen, sint_plain, not-negated}
use Rattle.parse.specs.Meaning.{forget, layer_end, layer_after_dots, layer_after_hyphen, unsigned_or_single, numbered_layers}
use Rattle.parse.proofs.Bytes.{seen, just-not}
use Rattle.parse.proofs.InBraces.{no-brace, layer-set-ends}
use Rattle.parse.proofs.Readings.{never, assoc, steps, or-none, took, gone}

-- a `-` after a layer and one more layer
pub after-hyphen : (at : ℕ) (s : List ℕ) (v e : ℕ) (t : List ℕ) → read v e t ≡ layer_after_hyphen at s → v ≤ 32767
after-hyphen at s v e t q =
    let p = steps (just "-" at s) (λ _. layer) q in
    (number 1 32767 p.next p.rest v e t p.second).most

-- An element whose first number was read up to `end`.
module _ (text : List ℕ) (at bits end : ℕ) (first : read (from_bits 32 bits) end (drop end text) ≡ signed_layer at (drop at text)) where
  -- it stands by itself where no range does
  alone : (r : Reading LayerSetElement) → r ≡ rejected →
      or_else r (λ at s. and_then (signed_layer at s) (λ i. done (single i))) at (drop at text) ≡ read (single (from_bits 32 bits)) end (drop end text)
  alone r e = rw e (ap (λ (z : Reading ℤ). and_then z (λ i. done (single i))) (sym first))

  pub negative-single : eqb (byte_at text at) 45 ≡ true → read (single (from_bits 32 bits)) end (drop end text) ≡ unsigned_or_single at (drop at text)
  negative-single e =
      let l : at < length text = seen text at 45 (omega arith) e in
      sym (alone _ (ap (λ (r : Reading ℕ). and_then r (λ i at s. and_then (just "-" at s) (λ _ at s. and_then (layer at s) (λ j. done (range (pos i) (pos j))))))
      (hyphen 1 32767 text at l (in-text text at l ∙ eqb-true (byte_at text at) 45 e))))

  -- without a `-` before it, it is a layer
  record Plain : Type 0 where
    value : ℕ
    reads : layer at (drop at text) ≡ read value end (drop end text)
    same : from_bits 32 bits ≡ pos value

  plain : eqb (byte_at text at) 45 ≡ false → Plain
  plain e = go (layer at (drop at text)) refl (first ∙ sint_plain 1 32767 32767 text at (just-not "-" text at e))
    where
      go : (r : Reading ℕ) → layer at (drop at text) ≡ r → read (from_bits 32 bits) end (drop end text) ≡ and_then (layer at (drop at text)) (λ n. done (pos n)) → Plain
      go rejected w q = never (sym (rw w at q))
      go (read n i t) w q =
          let v : read (from_bits 32 bits) end (drop end text) ≡ read (pos n) i t = rw w at q in
          record { value = n; reads = w ∙ cc; same = cc }

  module _ (e : eqb (byte_at text at) 45 ≡ false) where
    ranges : and_then (layer at (drop at text)) (λ i at s. and_then (just "-" at s) (λ _ at s. and_then (layer at s) (λ j. done (range (pos i) (pos j)))))
        ≡ and_then (layer_after_hyphen end (drop end text)) (λ j. done (range (from_bits 32 bits) (pos j)))
    ranges =
        let p = plain e in
        rw (p.reads, p.same) (assoc (just "-" end (drop end text)) (λ _. layer) (λ j. done (range (pos p.value) (pos j))))

    pub hyphen-single : rejected ≡ layer_after_hyphen end (drop end text) → read (single (from_bits 32 bits)) end (drop end text) ≡ unsigned_or_single at (drop at text)
    hyphen-single q = sym (alone _ (ranges ∙ ap (λ (r : Reading ℕ). and_then r (λ j. done (range (from_bits 32 bits) (pos j)))) (sym q)))

    pub hyphen-range : (other next : ℕ) → read other next (drop next text) ≡ layer_after_hyphen end (drop end text) →
        read (range (from_bits 32 bits) (from_bits 32 other)) next (drop next text) ≡ unsigned_or_single at (drop at text)
    hyphen-range other next q =
        let small : other ≤ 2147483647 = omega (arith, after-hyphen end (drop end text) other next (drop next text) q) in
        rw (ranges, ← q, not-negated other small)

  -- with `..` after it or without
  dots : and_then (signed_layer at (drop at text)) (λ i at s. and_then (word ".." at s) (λ _ at s. and_then (signed_layer at s) (λ j. done (range i j))))
      ≡ and_then (layer_after_dots end (drop end text)) (λ j. done (range (from_bits 32 bits) j))
  dots =
      ap (λ (z : Reading ℤ). and_then z (λ i at s. and_then (word ".." at s) (λ _ at s. and_then (signed_layer at s) (λ j. done (range i j))))) (sym first)
      ∙ assoc (word ".." end (drop end text)) (λ _. signed_layer) (λ j. done (range (from_bits 32 bits) j))

  pub dots-range : (hsc1 : Bool) (z : ℤ) (next : ℕ) → read z next (drop next text) ≡ layer_after_dots end (drop end text) →
      read (range (from_bits 32 bits) z) next (drop next text) ≡ layer_set_element hsc1 at (drop at text)
  dots-range hsc1 z next q = rw (dots, ← q)

  none : rejected ≡ layer_after_dots end (drop end text) →
      and_then (signed_layer at (drop at text)) (λ i at s. and_then (word ".." at s) (λ _ at s. and_then (signed_layer at s) (λ j. done (range i j)))) ≡ rejected
  none q = dots ∙ ap (λ (r : Reading ℤ). and_then r (λ j. done (range (from_bits 32 bits) j))) (sym q)

  pub no-dots : rejected ≡ layer_after_dots end (drop end text) → unsigned_or_single at (drop at text) ≡ layer_set_element true at (drop at text)
  no-dots q = sym (or-none _ _ at (drop at text) (none q))

  pub no-range : rejected ≡ layer_after_dots end (drop end text) → read (single (from_bits 32 bits)) end (drop end text) ≡ layer_set_element false at (drop at text)
  no-range q = sym (or-none _ _ at (drop at text) (none q) ∙ alone rejected refl)

-- Layers before a family, without a set.
module _ (at : ℕ) (s : List ℕ) where
  pub no-layers : rejected ≡ layer at s → read no_layers at s ≡ numbered_layers at s
  no-layers e = simp (sym e)

  module _ (i end : ℕ) (rest : List ℕ) (e : read i end rest ≡ layer at s) where
    pub one-layer : rejected ≡ layer_after_hyphen end rest → read (single_layer i) end rest ≡ numbered_layers at s
    one-layer q = simp (sym e, assoc {C = Layers Span} (just "-" end rest) (λ _. layer) (λ j. done (layer_range (min i j) (max i j))), sym q)

    pub two-layers : (j next : ℕ) (t : List ℕ) → read j next t ≡ layer_after_hyphen end rest → read (layer_range (min i j) (max i j)) next t ≡ numbered_layers at s
    two-layers j next t q = simp (sym e, assoc {C = Layers Span} (just "-" end rest) (λ _. layer) (λ j. done (layer_range (min i j) (max i j))), sym q)

-- and with one
module _ (f : Features) (text : List ℕ) (at : ℕ) where
  no-set : f.layers.layer_sets ≡ true → rejected ≡ forget (layer_set_elements f.layers.hsc1_layer_ranges at (drop at text)) →
      numbered_layers at (drop at text) ≡ layer_prefix_contents f at (drop at text)
  unfolding layer_prefix_contents
  no-set e n = rw (e, gone (layer_set_elements f.layers.hsc1_layer_ranges at (drop at text)) n)

  pub unopened : (f.layers.layer_sets && eqb (byte_at text at) 123) ≡ false → numbered_layers at (drop at text) ≡ layer_prefix_contents f at (drop at text)
  unfolding layer_prefix_contents
  unopened e = go f.layers.layer_sets refl e
    where
      go : (b : Bool) → f.layers.layer_sets ≡ b → (b && eqb (byte_at text at) 123) ≡ false → numbered_layers at (drop at text) ≡ layer_prefix_contents f at (drop at text)
      go true w q =
          no-set w
          (no-brace (layer_end f.layers.hsc1_layer_ranges) text at q ∙ layer-set-ends f.layers.hsc1_layer_ranges at (drop at text))
      go false w q = rw w

  -- a brace that opens no set is no layer either
  pub opened-none : f.layers.layer_sets ≡ true → eqb (byte_at text at) 123 ≡ true → rejected ≡ forget (layer_set_elements f.layers.hsc1_layer_ranges at (drop at text)) →
      read no_layers at (drop at text) ≡ layer_prefix_contents f at (drop at text)
  unfolding uint digit_run
  opened-none e b n = no-layers at (drop at text) (rw (drop-cons text at 0 inside, in-text text at inside ∙ eqb-true (byte_at text at) 123 b)) ∙ no-set e n
    where
      inside : at < length text
      inside = seen text at 123 (omega arith) b

pub a-set : (f : Features) (at : ℕ) (s : List ℕ) (next : ℕ) (t : List ℕ) → f.layers.layer_sets ≡ true →
    read tt next t ≡ forget (layer_set_elements f.layers.hsc1_layer_ranges at s) → read (layer_set (span at (next - at))) next t ≡ layer_prefix_contents f at s
unfolding layer_prefix_contents
a-set f at s next t e n = rw (e, (took (layer_set_elements f.layers.hsc1_layer_ranges at s) n).reads)
