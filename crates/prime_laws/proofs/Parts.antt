-- Places of a whole text and of its straight text, and the parts that records name by offset and length. Assumes nothing.
use Prim.Native.Nat.{ℕ, ◌+◌, ◌-◌, min, max}
use mathlib.Core.Path.{◌≡◌, refl, sym, ap, ◌∙◌}
use mathlib.Core.Bool.{Bool, true, false}
use mathlib.Core.List.{List}
use mathlib.Core.Option.{Option, none, some}
use native.Mathlib.Omega.{arith}
use native.Mathlib.Nat.{add-zero}
use lib.Dec.{eqb, leb}
use lib.ListN.{length, drop}
use lib.Seq.{drop-drop}
use Rattle.notation.specs.Basics.{pick}
use Rattle.notation.specs.Chars.{is_family_char}
use Rattle.notation.specs.Utf8.{utf8, run}
use Rattle.notation.specs.Layers.{MAX-LAYER}
use Rattle.notation.specs.Tree.{Span, span, part_of, Layers, no_layers, single_layer, layer_range, layer_set}
use Rattle.notation.specs.Packed.{family_at, nowhere}
use Rattle.notation.specs.Grammar.{Reading, Reader, done, and_then, spanned, family, constraints, layer_prefix_contents}
use Rattle.notation.specs.Meaning.{constraints_in, layer_set_in, or_empty, constraint_meaning, layer_meaning}
use Rattle.notation.specs.Primes.{straight, given, span_given, constraints_given, layers_given, without_curly}
use Rattle.notation.specs.declared.features.Features.{Features}
use Rattle.prime_laws.proofs.Plain.{Plain, given-zero, plain-none, plain-join, plain-part, plain-rest}
use Rattle.prime_laws.proofs.Fronts.{families-both}
use Rattle.prime_laws.proofs.Follows.{Places, Meets, neither, both, Follows, finished, loosely, ◌next◌, ◌then◌, either, admitted, taking}
use Rattle.prime_laws.proofs.Readers.{just-alike, uint-alike, set-alike, elements-alike}

-- offset at of the text, where s stands, and offset at' of the straight text
pub record At (text : List ℕ) (at : ℕ) (s : List ℕ) (at' : ℕ) : Type 0 where
  pub well : utf8 s ≡ true
  pub place : drop at text ≡ s
  pub place' : drop at' (straight text) ≡ straight s
  pub offsets : (j : ℕ) → given text (at' + j) ≡ at + given s j

pub at-start : (text : List ℕ) → utf8 text ≡ true → At text 0 text 0
at-start text e = record { well = e; place = refl; place' = refl; offsets = λ j. zero-plus j }
  where
    zero-plus : (j : ℕ) → given text (0 + j) ≡ 0 + given text j
    zero-plus j = let e : 0 + j ≡ j = omega arith in ap (given text) e ∙ omega arith

pub at_onward : (text : List ℕ) (at : ℕ) (s : List ℕ) (at' n : ℕ) → At text at s at' → Plain n s → At text (at + n) (drop n s) (at' + n)
at_onward text at s at' n h p =
    record {
      well = p.well;
      place = sym (drop-drop n at text) ∙ ap (drop n) h.place;
      place' = sym (drop-drop n at' (straight text)) ∙ ap (drop n) h.place' ∙ plain-rest n s p;
      offsets = λ j.
          let e : at' + n + j ≡ at' + (n + j) = omega arith in
          ap (given text) e ∙ omega (arith, h.offsets (n + j), p.moves j);
    }

abbrev pub within : List ℕ → Places
within text = record { here = At text; well = λ at s at' h. h.well; onward = at_onward text }

-- the same, and since a first place of it nothing but plain bytes
pub record Since (text : List ℕ) (at₀ : ℕ) (s₀ : List ℕ) (at₀' at : ℕ) (s : List ℕ) (at' : ℕ) : Type 0 where
  pub here : At text at s at'
  pub taken : ℕ
  pub plain : Plain taken s₀
  pub rest : s ≡ drop taken s₀
  pub moved : at ≡ at₀ + taken
  pub moved' : at' ≡ at₀' + taken

since-onward : (text : List ℕ) (at₀ : ℕ) (s₀ : List ℕ) (at₀' at : ℕ) (s : List ℕ) (at' n : ℕ) → Since text at₀ s₀ at₀' at s at' → Plain n s →
    Since text at₀ s₀ at₀' (at + n) (drop n s) (at' + n)
since-onward text at₀ s₀ at₀' at s at' n h p =
    record {
      here = at_onward text at s at' n h.here p;
      taken = h.taken + n;
      plain = plain-join h.taken n s₀ h.plain (rw h.rest at p);
      rest = ap (drop n) h.rest ∙ drop-drop n h.taken s₀;
      moved = omega (arith, h.moved);
      moved' = omega (arith, h.moved');
    }

abbrev since : List ℕ → ℕ → List ℕ → ℕ → Places
since text at₀ s₀ at₀' =
    record {
      here = Since text at₀ s₀ at₀';
      well = λ at s at' h. h.here.well;
      onward = since-onward text at₀ s₀ at₀';
    }

-- What belongs together: the one with its offsets in the text as given, and both of one meaning.
pub record Told {A M : Type 0} (moved : A → A) (means means' : A → M) (a a' : A) : Type 0 where
  pub offsets : a ≡ moved a'
  pub meaning : means a ≡ means' a'

abbrev pub Spans : List ℕ → Span → Span → Type 0
Spans text = Told (span_given text) (part_of text) (part_of (straight text))

-- a plain part
span-told : (text : List ℕ) (at : ℕ) (s : List ℕ) (at' n : ℕ) → At text at s at' → Plain n s → Spans text (span at n) (span at' n)
span-told text at s at' n h p =
    let first : given text at' ≡ at = ap (given text) (sym (add-zero at')) ∙ omega (arith, h.offsets 0, given-zero s) in
    let last : given s n ≡ n = ap (given s) (sym (add-zero n)) ∙ omega (arith, p.moves 0, given-zero (drop n s)) in
    let end : given text (at' + n) - given text at' ≡ n = omega (arith, h.offsets n) in
    record {
      offsets = rw (end, first);
      meaning = rw (h.place, h.place', plain-part n s p);
    }

spanned-follows : {A : Type 0} {m : ℕ} {R : A → A → Type 0} {p p' : Reader A} (text : List ℕ) → ((c : Places) → Follows c m 0 R p p') →
    Follows (within text) m 0 (Spans text) (spanned p) (spanned p')
spanned-follows {A = A} {R = R} text g = record {
  meets = λ at s at' h l. go at s at' h ((g (since text at s at')).meets at s at' (start at s at' h) l);
}
  where
    start : (at : ℕ) (s : List ℕ) (at' : ℕ) → At text at s at' → Since text at s at' at s at'
    start at s at' h =
        record { here = h; taken = 0; plain = plain-none s h.well; rest = refl; moved = omega arith; moved' = omega arith }

    go : (at : ℕ) (s : List ℕ) (at' : ℕ) → At text at s at' → {r r' : Reading A} → Meets (since text at s at') 0 (length (straight s)) R r r' →
        Meets (within text) 0 (length (straight s)) (Spans text) (and_then r (λ a at₁. done (span at (at₁ - at)) at₁)) (and_then r' (λ a at₁. done (span at' (at₁ - at')) at₁))
    go at s at' h neither = neither
    go at s at' h (both {at = e} {at' = e'} w r) =
        let x = w.there in
        let n : e - at ≡ x.taken = omega (arith, x.moved) in
        let n' : e' - at' ≡ x.taken = omega (arith, x.moved') in
        let t : Spans text (span at (e - at)) (span at' (e' - at')) = rw (n, n') (span-told text at s at' x.taken h x.plain) in
        both (record { there = x.here; rest = w.rest; fewer = w.fewer }) t

-- Families, constraints and layers.
nowhere-told : (text : List ℕ) → Spans text nowhere nowhere
nowhere-told text = record { offsets = rw (given-zero text); meaning = refl }

abbrev pub Constrained : List ℕ → Option Span → Option Span → Type 0
Constrained text = Told (constraints_given text) (constraint_meaning text) (constraint_meaning (straight text))

abbrev pub Layered : List ℕ → Layers Span → Layers Span → Type 0
Layered text = Told (layers_given text) (layer_meaning text) (layer_meaning (straight text))

module _ (text : List ℕ) where
  pub family-follows : {m : ℕ} (at_least : ℕ) → Follows (within text) m 0 (Spans text) (family at_least) (family at_least)
  family-follows at_least =
      taking 0 (λ s. leb at_least (run is_family_char s)) (λ at s. family_at at (run is_family_char s)) (run is_family_char) families-both
      (λ s b. ap (leb at_least) b.alike) (λ s e. omega arith)
      (λ at s at' h b. rw b.alike (named at s at' (run is_family_char s) h b.plain (eqb (run is_family_char s) 0)))
    where
      named : (at : ℕ) (s : List ℕ) (at' n : ℕ) → At text at s at' → Plain n s → (t : Bool) →
          Spans text (pick t nowhere (span at n)) (pick t nowhere (span at' n))
      named at s at' n h p true = nowhere-told text
      named at s at' n h p false = span-told text at s at' n h p

  constrained : (p p' : Span) → Spans text p p' → Constrained text (some p) (some p')
  constrained p p' t = record { offsets = ap some t.offsets; meaning = ap (λ l. some (or_empty (constraints_in l))) t.meaning }

  no-constraints : Constrained text none none
  no-constraints = record { offsets = refl; meaning = refl }

  pub constraints-follow : {m : ℕ} (f : Features) → Follows (within text) m 0 (Constrained text) (constraints f) (constraints (without_curly f))
  constraints-follow f =
      either (admitted f.transform_constraints (spanned-follows text (λ c. set-alike {c = c})) next λ p p' t. finished (constrained p p' t))
      (finished no-constraints)

  layered : (p p' : Span) → Spans text p p' → Layered text (layer_set p) (layer_set p')
  layered p p' t = record { offsets = ap layer_set t.offsets; meaning = ap (λ l. layer_set (or_empty (layer_set_in l))) t.meaning }

  no-layers : Layered text no_layers no_layers
  no-layers = record { offsets = refl; meaning = refl }

  one-layer : (i : ℕ) → Layered text (single_layer i) (single_layer i)
  one-layer i = record { offsets = refl; meaning = refl }

  layers-between : (i j : ℕ) → Layered text (layer_range i j) (layer_range i j)
  layers-between i j = record { offsets = refl; meaning = refl }

  pub layers-follow : {m : ℕ} (f : Features) → Follows (within text) m 0 (Layered text) (layer_prefix_contents f) (layer_prefix_contents (without_curly f))
  unfolding layer_prefix_contents
  layers-follow f =
      either
      (admitted f.layers.layer_sets
      (spanned-follows text (λ c. elements-alike {c = c} f.layers.hsc1_layer_ranges) next λ p p' t. finished (layered p p' t)))
      (either
      (uint-alike 1 MAX-LAYER then λ i. loosely (just-alike "-" refl) then λ _. uint-alike 1 MAX-LAYER then λ j. finished (layers-between (min i j) (max i j)))
      (either (uint-alike 1 MAX-LAYER then λ i. finished (one-layer i)) (finished no-layers)))
