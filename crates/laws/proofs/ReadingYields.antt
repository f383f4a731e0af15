-- What reading yields: a tree in the setting's range, well formed, with no more records than the text has bytes, and with numbers that
-- fit their fields. Assumes nothing.
use Prim.Native.Nat.{ℕ, zero, suc, ◌+◌, ◌-◌, ◌≤◌, min, max}
use mathlib.Core.Path.{◌≡◌, refl, sym, ap, ◌∙◌}
use mathlib.Core.Bool.{Bool, true, not, ◌&&◌, ◌||◌}
use mathlib.Core.List.{List, [], ◌∷◌, ◌++◌}
use mathlib.Core.Option.{Option, some}
use native.Mathlib.Omega.{arith}
use lib.Dec.{leb, ltb, eqb-suc-zero}
use lib.IntN.{ℤ, pos, neg_ℤ}
use lib.ListN.{length, take, drop, length-append}
use lib.Seq.{length-take-le, take-append_seam, drop-append_seam, drop-drop}
use borrow.Author.Tests.{leb-true, le-leb, lt-ltb, eq-eqb}
use Rattle.notation.specs.Basics.{between, every}
use Rattle.notation.specs.Chars.{is_family_char}
use Rattle.notation.specs.Utf8.{run, run_from}
use Rattle.notation.specs.Numbers.{fits_bits}
use Rattle.notation.specs.Layers.{LayerSetElement, MAX-LAYER}
use Rattle.notation.specs.Tree.{
  Span,
  span,
  part_of,
  Constraint,
  Layers,
  layer_range,
  layer_set,
  Leaf,
  rotation,
  move,
  pause,
  pair,
  slash,
  megaminx,
  Node,
  leaf,
  block,
  group,
  binary_group,
  nil,
  cons,
  Tree,
  map_node,
  map_body,
  map_nodes,
}
use Rattle.notation.specs.Packed.{family_at, nowhere, node_size, body_size, size}
use Rattle.notation.specs.Grammar.{
  Reading,
  rejected,
  read,
  Reader,
  done,
  and_then,
  when,
  spanned,
  sint,
  i32,
  layer,
  signed_layer,
  prime,
  multiplier,
  MAX-I32,
  braces,
  family,
  family_text,
  constraint,
  constraint_set,
  layer_set_element,
  layer_set_elements,
  layer_prefix_contents,
  constraints,
  rotation_node,
  tilde,
  move_node,
  group_kind,
  group_node,
  binary_group_kind,
  binary_group_node,
  repeatable_node_by,
  megaminx_scramble_move,
  sq1_move,
  node,
  node_list,
  at_end,
  notation,
  node_by,
  node_list_by,
  notation_by,
}
use Rattle.notation.specs.Meaning.{constraints_in, layer_set_in, constraint_meaning, layer_meaning, step_of, unspanned}
use Rattle.notation.specs.WellFormed.{
  inside,
  family_ok,
  constraints_ok,
  layers_ok,
  multiplier_ok,
  leaf_ok,
  node_ok,
  body_ok,
  tree_ok,
}
use Rattle.notation.specs.declared.features.Features.{Features}
use Rattle.notation.specs.declared.common.GroupKind.{GroupKind}
use Rattle.notation.specs.declared.common.BinaryGroupKind.{BinaryGroupKind}
use Rattle.notation.specs.declared.common.MegaminxScrambleMove.{MegaminxScrambleMove}
use Rattle.laws.proofs.Fits.{family_fits, leaf_fits, node_fits, body_fits, tree_fits}
use Rattle.numbers.proofs.TwosComplement.{opposite-fits}
use Rattle.laws.proofs.Bools.{and_left, and_right, and_both, no-some}
use Rattle.laws.proofs.InRange.{
  family_in_range,
  name_in_range,
  constraint_in_range,
  constraints_in_range,
  signed_in_range,
  element_in_range,
  layers_in_range,
  step_in_range,
  node_in_range,
  body_in_range,
  in_range,
}
use Rattle.laws.proofs.Characters.{yields-prime}
use Rattle.laws.proofs.Readers.{
  Place,
  anywhere,
  Took,
  Yields,
  Grows,
  not-read,
  pick-read,
  took-front,
  took-is,
  weaken,
  yields-done,
  yields-fail,
  yields-bind,
  yields-or,
  yields-when,
  yields-just,
  yields-word,
  yields-word-some,
  yields-some_whitespace,
  yields-padded,
  yields-uint,
  yields-separated_by,
  run-le,
}
use Rattle.laws.proofs.Runs.{run_alone}
use Rattle.laws.proofs.Braces.{braces-alone, stops-constraint, stops-element}
use Rattle.laws.proofs.LayerSets.{set-in-full}

-- Numbers.
module _ {c : Place} where
  yields-sint : (low high high_negative : ℕ) {Q : ℤ → Type 0} → ((n : ℕ) → between low high n ≡ true → Q (pos n)) →
      ((n : ℕ) → between low high_negative n ≡ true → Q (neg_ℤ (pos n))) → Yields c (sint low high high_negative) (λ z n. Q z)
  yields-sint low high high_negative p q =
      yields-or
      (yields-bind (yields-just "-") λ _ _ _. yields-bind (yields-uint low high_negative) λ v n h. yields-done (q v h.0))
      (yields-bind (yields-uint low high) λ v n h. yields-done (p v h.0))

  yields-layer : Yields c layer (λ i n. between 1 MAX-LAYER i ≡ true)
  yields-layer = weaken (yields-uint 1 MAX-LAYER) (λ i n h. h.0)

  yields-signed : Yields c signed_layer (λ i n. signed_in_range i ≡ true)
  yields-signed = yields-sint 1 MAX-LAYER MAX-LAYER {Q = λ i. signed_in_range i ≡ true} (λ n e. e) negative
    where
      negative : (n : ℕ) → between 1 MAX-LAYER n ≡ true → signed_in_range (neg_ℤ (pos n)) ≡ true
      negative zero e = e
      negative (suc n) e = e

  yields-i32 : Yields c i32 (λ i n. fits_bits 32 i ≡ true)
  yields-i32 = yields-sint 0 MAX-I32 2147483648 {Q = λ i. fits_bits 32 i ≡ true} positive negative
    where
      positive : (n : ℕ) → between 0 MAX-I32 n ≡ true → fits_bits 32 (pos n) ≡ true
      positive n e = lt-ltb n 2147483648 (omega (arith, leb-true n MAX-I32 (and_right (leb 0 n) _ e)))

      negative : (n : ℕ) → between 0 2147483648 n ≡ true → fits_bits 32 (neg_ℤ (pos n)) ≡ true
      negative n e = opposite-fits 32 n (leb-true n 2147483648 (and_right (leb 0 n) _ e))

  yields-multiplier : (f : Features) → Yields c (multiplier f) (λ m n. multiplier_ok m ≡ true)
  yields-multiplier f =
      yields-bind {Q = λ v n. v ≤ MAX-I32}
      (yields-or (weaken (yields-uint 0 MAX-I32) (λ v n h. leb-true v MAX-I32 (and_right (leb 0 v) _ h.0))) (yields-done (omega arith)))
      λ v n h.
      yields-or (yields-bind (yields-prime f) λ _ _ _. yields-done (negative v h)) (yields-done (lt-ltb v 2147483648 (omega arith)))
    where
      negative : (n : ℕ) → n ≤ MAX-I32 → multiplier_ok (neg_ℤ (pos n)) ≡ true
      negative zero h = refl
      negative (suc n) h = lt-ltb (suc n) 2147483648 (omega arith)

-- Parts in braces.
module _ {c : Place} where
  pub yields-braces : {A : Type 0} {item : Reader A} (t : A → Bool) → Yields c item (λ a n. t a ≡ true) → Yields c (braces item) (λ l n. every t l ≡ true)
  unfolding every
  yields-braces t y =
      yields-bind (yields-just "{") λ _ _ _.
      yields-bind
      (yields-padded (λ l n m h q. q)
      (yields-separated_by ◌∷◌ [] (λ l n. every t l ≡ true) refl (λ a l n m p q. and_both (t a) _ p q) (λ l n m h q. q) y
      (yields-padded (λ a n m h q. tt) (weaken (yields-just ",") (λ a n h. tt)))))
      λ l n q. yields-bind (yields-just "}") λ _ _ _. yields-done q

  yields-family_text : Yields c family_text (λ a n. name_in_range a ≡ true)
  yields-family_text = record {
    took = λ at s h a at' s' e.
        let n = run is_family_char s in
        let k = pick-read (ltb 0 n) e in
        let i : length (take n s) ≡ n = length-take-le n s (run-le is_family_char 0 s) in
        took-is k.1 k.2 k.3
        (took-front at n s (run-le is_family_char 0 s)
        (and_both (ltb 0 (length (take n s))) _ (rw i k.0) (eq-eqb (run is_family_char (take n s)) (length (take n s)) (run_alone is_family_char s ∙ sym i))));
  }

  yields-constraint : Yields c constraint (λ x n. constraint_in_range x ≡ true)
  yields-constraint =
      yields-or
      (yields-bind yields-family_text λ a n p. yields-bind (yields-padded (λ _ _ _ _ _. tt) (yields-word "->")) λ _ _ _.
      yields-bind yields-family_text λ b m q. yields-done (and_both (name_in_range a) _ p q))
      (yields-or
      (yields-bind yields-family_text λ a n p. yields-bind (yields-padded (λ _ _ _ _ _. tt) (yields-word "<>")) λ _ _ _.
      yields-bind yields-family_text λ b m q. yields-done (and_both (name_in_range a) _ p q))
      (yields-bind yields-family_text λ a n p. yields-done p))

  pub yields-element : (hsc1 : Bool) → Yields c (layer_set_element hsc1) (λ x n. element_in_range x ≡ true)
  yields-element hsc1 =
      yields-or
      (yields-bind yields-signed λ i n p. yields-bind (yields-word "..") λ _ _ _.
      yields-bind yields-signed λ j m q. yields-done (and_both (signed_in_range i) _ p q))
      (yields-or
      (yields-when hsc1 λ _.
      yields-bind yields-layer λ i n p. yields-bind (yields-just "-") λ _ _ _.
      yields-bind yields-layer λ j m q. yields-done (and_both (between 1 MAX-LAYER i) _ p q))
      (yields-bind yields-signed λ i n p. yields-done p))

-- A place in a text: the text from there on.
record Here (text : List ℕ) (at : ℕ) (s : List ℕ) : Type 0 where
  from : drop at text ≡ s
  ends : at + length s ≡ length text

abbrev in_text : List ℕ → Place
in_text text = record {
  here = Here text;
  onward = λ at u s h. record {
    from = sym (drop-drop (length u) at text) ∙ ap (drop (length u)) h.from ∙ drop-append_seam u s;
    ends = omega (arith, h.ends, length-append u s);
  };
}

-- the part that a reader takes, as a span
part-is : {text : List ℕ} {at : ℕ} (u s' : List ℕ) → Here text at (u ++ s') → part_of text (span at (length u)) ≡ u
part-is u s' h = rw h.from (take-append_seam u s')

part-inside : {text : List ℕ} {at : ℕ} (u s' : List ℕ) → Here text at (u ++ s') → inside text (span at (length u)) ≡ true
part-inside {text} {at} u s' h = le-leb (at + length u) (length text) (omega (arith, h.ends, length-append u s'))

-- Families.
record FamilyGood (text : List ℕ) (at_least : ℕ) (p : Span) (n : ℕ) : Type 0 where
  ok : family_ok text at_least p ≡ true
  ranged : family_in_range (part_of text p) ≡ true
  long : leb at_least (length (part_of text p)) ≡ true
  fits : family_fits p ≡ true
  least : at_least ≤ n

family-part : (text : List ℕ) (at_least at n : ℕ) (s : List ℕ) → Here text at s → n ≡ run is_family_char s → leb at_least n ≡ true →
    family_fits (span at n) ≡ true → FamilyGood text at_least (span at n) n
family-part text at_least at n s h e t g =
    let i : n ≤ length s = omega (arith, run-le is_family_char 0 s) in
    let j : length (take n s) ≡ n = length-take-le n s i in
    let k : run is_family_char (take n s) ≡ n = rw e (run_alone is_family_char s) in
    record {
      ok = and_both (inside text (span at n) && leb at_least n) _
          (and_both (inside text (span at n)) _ (le-leb (at + n) (length text) (omega (arith, h.ends))) t)
          (rw h.from (eq-eqb (run is_family_char (take n s)) n k));
      ranged = rw h.from (eq-eqb (run is_family_char (take n s)) (length (take n s)) (k ∙ sym j));
      long = rw (h.from, j) t;
      fits = g;
      least = leb-true at_least n t;
    }

nowhere-good : (text : List ℕ) (at_least : ℕ) → leb at_least 0 ≡ true → FamilyGood text at_least nowhere 0
unfolding run_from
nowhere-good text at_least t = record {
  ok = and_both (leb 0 (length text) && leb at_least 0) _ (and_both (leb 0 (length text)) _ (le-leb 0 (length text) (omega arith)) t) refl;
  ranged = refl;
  long = t;
  fits = refl;
  least = leb-true at_least 0 t;
}

family-good : (text : List ℕ) (at_least at n : ℕ) (s : List ℕ) → Here text at s → n ≡ run is_family_char s → leb at_least n ≡ true →
    FamilyGood text at_least (family_at at n) n
family-good text at_least at zero s h e t = nowhere-good text at_least t
family-good text at_least at (suc n) s h e t = rw (eqb-suc-zero n) (family-part text at_least at (suc n) s h e t (rw (eqb-suc-zero n)))

yields-family : (text : List ℕ) (at_least : ℕ) → Yields (in_text text) (family at_least) (FamilyGood text at_least)
yields-family text at_least = record {
  took = λ at s h a at' s' e.
      let n = run is_family_char s in
      let k = pick-read (leb at_least n) e in
      took-is k.1 k.2 k.3 (took-front at n s (run-le is_family_char 0 s) (family-good text at_least at n s h refl k.0));
}

-- Parts in braces, recorded as spans.
record SpanGood {A : Type 0} (meaning : List ℕ → Option A) (Q : A → Type 0) (text : List ℕ) (p : Span) : Type 0 where
  within : inside text p ≡ true
  value : A
  means : meaning (part_of text p) ≡ some value
  holds : Q value

module _ {A : Type 0} {p : Reader A} {Q : A → Type 0} (meaning : List ℕ → Option A) (text : List ℕ)
    (alone : (at : ℕ) (s : List ℕ) (a : A) (at' : ℕ) (s' : List ℕ) → p at s ≡ read a at' s' →
    (u : List ℕ) × (s ≡ u ++ s') × (at' ≡ at + length u) × (meaning u ≡ some a))
    (values : Yields anywhere p (λ a n. Q a)) where
  yields-part : Yields (in_text text) (spanned p) (λ sp n. SpanGood meaning Q text sp)
  yields-part = record { took = λ at s h sp at'' s'' e. go at s h sp at'' s'' (p at s) refl e }
    where
      taken : (at : ℕ) (s : List ℕ) → Here text at s → (a : A) (at' : ℕ) (s' : List ℕ) → p at s ≡ read a at' s' →
          (x : (u : List ℕ) × (s ≡ u ++ s') × (at' ≡ at + length u) × (meaning u ≡ some a)) →
          Took (λ sp n. SpanGood meaning Q text sp) at s (span at (at' - at)) at' s'
      taken at s h a at' s' e x =
          let i : at' - at ≡ length x.0 = omega (arith, x.2) in
          let h' : Here text at (x.0 ++ s') = rw x.1 at h in
          record {
            part = x.0;
            splits = x.1;
            moves = x.2;
            holds = rw i (record {
              within = part-inside x.0 s' h';
              value = a;
              means = rw (part-is x.0 s' h') x.3;
              holds = (values.took at s tt a at' s' e).holds;
            });
          }

      go : (at : ℕ) (s : List ℕ) → Here text at s → (sp : Span) (at'' : ℕ) (s'' : List ℕ) (r : Reading A) → p at s ≡ r →
          and_then r (λ a at'. done (span at (at' - at)) at') ≡ read sp at'' s'' → Took (λ sp n. SpanGood meaning Q text sp) at s sp at'' s''
      go at s h sp at'' s'' rejected e₀ e = not-read e
      go at s h sp at'' s'' (read a at' s') e₀ e = took-is (cc) (cc) (cc) (taken at s h a at' s' e₀ (alone at s a at' s' e₀))

-- A constraint part and a layer set mean alone what was read in their text, the layer set under all features.
pub constraints-alone : (at : ℕ) (s : List ℕ) (l : List Constraint) (at' : ℕ) (s' : List ℕ) → constraint_set at s ≡ read l at' s' →
    (u : List ℕ) × (s ≡ u ++ s') × (at' ≡ at + length u) × (constraints_in u ≡ some l)
unfolding constraint_set constraints_in
constraints-alone at s l at' s' e = braces-alone constraint stops-constraint (weaken yields-constraint (λ _ _ _. tt)) at s l at' s' e

pub layers-alone : (hsc1 : Bool) (at : ℕ) (s : List ℕ) (l : List LayerSetElement) (at' : ℕ) (s' : List ℕ) →
    layer_set_elements hsc1 at s ≡ read l at' s' → (u : List ℕ) × (s ≡ u ++ s') × (at' ≡ at + length u) × (layer_set_in u ≡ some l)
unfolding layer_set_elements layer_set_in
layers-alone hsc1 at s l at' s' e =
    braces-alone (layer_set_element true) (stops-element true) (weaken (yields-element true) (λ _ _ _. tt)) at s l at' s' (set-in-full hsc1 at s l at' s' e)

-- Constraints and layers.
record ConstraintsGood (f : Features) (text : List ℕ) (c : Option Span) : Type 0 where
  ok : constraints_ok text c ≡ true
  ranged : constraints_in_range f (constraint_meaning text c) ≡ true

record LayersGood (f : Features) (text : List ℕ) (l : Layers Span) : Type 0 where
  ok : layers_ok text l ≡ true
  ranged : layers_in_range f (layer_meaning text l) ≡ true

abbrev ConstraintPart : List ℕ → Span → Type 0
ConstraintPart text p = SpanGood constraints_in (λ l. every constraint_in_range l ≡ true) text p

abbrev LayerPart : List ℕ → Span → Type 0
LayerPart text p = SpanGood layer_set_in (λ l. every element_in_range l ≡ true) text p

module _ (f : Features) (text : List ℕ) where
  set-good : {p : Span} → f.transform_constraints ≡ true → ConstraintPart text p → ConstraintsGood f text (some p)
  set-good {p} t g = record {
    ok = rw g.means (and_both (inside text p) _ g.within refl);
    ranged = rw g.means (and_both f.transform_constraints _ t g.holds);
  }

  yields-constraint_set : Yields (in_text text) (spanned constraint_set) (λ p n. ConstraintPart text p)
  unfolding constraint_set
  yields-constraint_set = yields-part constraints_in text constraints-alone (yields-braces constraint_in_range yields-constraint)

  yields-constraints : Yields (in_text text) (constraints f) (λ c n. ConstraintsGood f text c)
  yields-constraints =
      yields-or
      (yields-bind {p = when f.transform_constraints (spanned constraint_set)} {f = λ p. done (some p)} {Q = λ p n. ConstraintsGood f text (some p)}
      (yields-when f.transform_constraints λ t. weaken yields-constraint_set (λ p n g. set-good t g)) λ p n g. yields-done g)
      (yields-done (record { ok = refl; ranged = refl }))

  layers-good : {p : Span} → f.layers.layer_sets ≡ true → LayerPart text p → LayersGood f text (layer_set p)
  layers-good {p} t g = record {
    ok = rw g.means (and_both (inside text p) _ g.within refl);
    ranged = rw g.means (and_both f.layers.layer_sets _ t g.holds);
  }

  yields-layer_set : (hsc1 : Bool) → Yields (in_text text) (spanned (layer_set_elements hsc1)) (λ p n. LayerPart text p)
  unfolding layer_set_elements
  yields-layer_set hsc1 = yields-part layer_set_in text (layers-alone hsc1) (yields-braces element_in_range (yields-element hsc1))

  range-good : (i j : ℕ) → between 1 MAX-LAYER i ≡ true → between 1 MAX-LAYER j ≡ true → LayersGood f text (layer_range (min i j) (max i j))
  range-good i j p q =
      let i₁ = leb-true 1 i (and_left _ (leb i MAX-LAYER) p) in
      let i₂ = leb-true i MAX-LAYER (and_right (leb 1 i) _ p) in
      let j₁ = leb-true 1 j (and_left _ (leb j MAX-LAYER) q) in
      let j₂ = leb-true j MAX-LAYER (and_right (leb 1 j) _ q) in
      let a = le-leb 1 (min i j) (omega arith) in
      let b = le-leb (min i j) (max i j) (omega arith) in
      let c = le-leb (max i j) MAX-LAYER (omega arith) in
      record { ok = rw (a, b, c); ranged = rw (a, b, c) }

  yields-layers : Yields (in_text text) (layer_prefix_contents f) (λ l n. LayersGood f text l)
  unfolding layer_prefix_contents
  yields-layers =
      yields-or
      (yields-when f.layers.layer_sets λ t. yields-bind (yields-layer_set f.layers.hsc1_layer_ranges) λ p n g. yields-done (layers-good t g))
      (yields-or
      (yields-bind yields-layer λ i n p. yields-bind (yields-just "-") λ _ _ _.
      yields-bind yields-layer λ j m q. yields-done (range-good i j p q))
      (yields-or (yields-bind yields-layer λ i n p. yields-done (record { ok = p; ranged = p }))
      (yields-done (record { ok = refl; ranged = refl }))))

-- Nodes and lists, read from n bytes.
record NodeGood (f : Features) (text : List ℕ) (x : Node Leaf) (n : ℕ) : Type 0 where
  ranged : node_in_range f (map_node (step_of text) x) ≡ true
  ok : node_ok text x ≡ true
  fits : node_fits x ≡ true
  small : node_size x ≤ n

pub record TreeGood (f : Features) (text : List ℕ) (t : Tree) (n : ℕ) : Type 0 where
  pub ranged : in_range f (unspanned text t) ≡ true
  pub ok : tree_ok text t ≡ true
  pub fits : tree_fits t ≡ true
  pub small : size t ≤ n

module _ (f : Features) (text : List ℕ) where
  leaf-good : {x : Leaf} {n : ℕ} → step_in_range f (step_of text x) ≡ true → leaf_ok text x ≡ true → leaf_fits x ≡ true → 1 ≤ n →
      NodeGood f text (leaf x) n
  unfolding node_in_range map_node node_ok node_fits node_size
  leaf-good r o w s = record { ranged = r; ok = o; fits = w; small = s }

  group-good : (k : GroupKind) (a : Tree) (m : ℤ) {i n : ℕ} → TreeGood f text a i → multiplier_ok m ≡ true → suc i ≤ n →
      NodeGood f text (block (group k a) m) n
  unfolding node_in_range body_in_range map_node map_body node_ok body_ok node_fits body_fits node_size body_size
  group-good k a m g e h = record {
    ranged = and_both (multiplier_ok m) _ e g.ranged;
    ok = and_both (multiplier_ok m) _ e g.ok;
    fits = g.fits;
    small = omega (arith, g.small);
  }

  binary-good : (k : BinaryGroupKind) (a b : Tree) (m : ℤ) {i j n : ℕ} → TreeGood f text a i → TreeGood f text b j → multiplier_ok m ≡ true →
      suc (i + j) ≤ n → NodeGood f text (block (binary_group k a b) m) n
  unfolding node_in_range body_in_range map_node map_body node_ok body_ok node_fits body_fits node_size body_size
  binary-good k a b m g g' e h = record {
    ranged = and_both (multiplier_ok m) _ e (and_both (in_range f (unspanned text a)) _ g.ranged g'.ranged);
    ok = and_both (multiplier_ok m) _ e (and_both (tree_ok text a) _ g.ok g'.ok);
    fits = and_both (tree_fits a) _ g.fits g'.fits;
    small = omega (arith, g.small, g'.small);
  }

  nil-good : TreeGood f text nil 0
  unfolding in_range map_nodes tree_ok tree_fits size
  nil-good = record { ranged = refl; ok = refl; fits = refl; small = omega arith }

  cons-good : (x : Node Leaf) (l : Tree) (n m : ℕ) → NodeGood f text x n → TreeGood f text l m → TreeGood f text (cons x l) (n + m)
  unfolding in_range map_nodes tree_ok tree_fits size
  cons-good x l n m g g' = record {
    ranged = and_both (node_in_range f (map_node (step_of text) x)) _ g.ranged g'.ranged;
    ok = and_both (node_ok text x) _ g.ok g'.ok;
    fits = and_both (node_fits x) _ g.fits g'.fits;
    small = omega (arith, g.small, g'.small);
  }

  node-grows : Grows (NodeGood f text)
  node-grows x n m h g = record { ranged = g.ranged; ok = g.ok; fits = g.fits; small = omega (arith, g.small) }

  tree-grows : Grows (TreeGood f text)
  tree-grows t n m h g = record { ranged = g.ranged; ok = g.ok; fits = g.fits; small = omega (arith, g.small) }

  -- a node that waits for its multiplier
  abbrev Waiting : (ℤ → Node Leaf) → ℕ → Type 0
  Waiting x n = (m : ℤ) → multiplier_ok m ≡ true → NodeGood f text (x m) n

  rotation-good : (a : Span) (c : Option Span) (n : ℕ) → f.generalized_rotations ≡ true → FamilyGood text 0 a n → ConstraintsGood f text c →
      (k : ℕ) → 1 ≤ k → Waiting (λ m. leaf (rotation a c m)) k
  unfolding step_in_range step_of leaf_ok leaf_fits
  rotation-good a c n t g h k i m e =
      leaf-good
      (and_both f.generalized_rotations _ t (and_both (family_in_range (part_of text a)) _ g.ranged
      (and_both (constraints_in_range f (constraint_meaning text c)) _ h.ranged e)))
      (and_both (family_ok text 0 a && constraints_ok text c) _ (and_both (family_ok text 0 a) _ g.ok h.ok) e)
      g.fits i

  move-good : (t : Bool) (l : Layers Span) (a : Span) (c : Option Span) (n : ℕ) → (not t || f.layers.inverted_layers) ≡ true → LayersGood f text l →
      FamilyGood text 1 a n → ConstraintsGood f text c → (k : ℕ) → n ≤ k → Waiting (λ m. leaf (move t l a c m)) k
  unfolding step_in_range step_of leaf_ok leaf_fits
  move-good t l a c n tilded u g h k i m e =
      leaf-good
      (and_both (not t || f.layers.inverted_layers) _ tilded (and_both (layers_in_range f (layer_meaning text l)) _ u.ranged
      (and_both (name_in_range (part_of text a)) _ (and_both (ltb 0 (length (part_of text a))) _ g.long g.ranged)
      (and_both (constraints_in_range f (constraint_meaning text c)) _ h.ranged e))))
      (and_both (layers_ok text l && family_ok text 1 a && constraints_ok text c) _
      (and_both (layers_ok text l && family_ok text 1 a) _ (and_both (layers_ok text l) _ u.ok g.ok) h.ok) e)
      refl (omega (arith, g.least))

  yields-rotation : Yields (in_text text) (rotation_node f) Waiting
  unfolding rotation_node
  yields-rotation =
      yields-when f.generalized_rotations λ t.
      yields-bind (yields-just "@") λ _ n i.
      yields-bind (yields-family text 0) λ a m g.
      yields-bind (yields-constraints f text) λ c k h.
      yields-done (rotation-good a c m t g h (n + (m + (k + 0))) (omega arith))

  yields-tilde : Yields (in_text text) (tilde f) (λ t n. (not t || f.layers.inverted_layers) ≡ true)
  yields-tilde =
      yields-or (yields-when f.layers.inverted_layers λ t. yields-bind (yields-just "~") λ _ _ _. yields-done t)
      (yields-done refl)

  yields_move : Yields (in_text text) (move_node f) Waiting
  unfolding move_node
  yields_move =
      yields-bind yields-tilde λ t n p.
      yields-bind (yields-layers f text) λ l m u.
      yields-bind (yields-family text 1) λ a k g.
      yields-bind (yields-constraints f text) λ c j h.
      yields-done (move-good t l a c k p u g h (n + (m + (k + (j + 0)))) (omega arith))

  yields-kind : Yields (in_text text) group_kind (λ k n. Unit {0})
  yields-kind =
      yields-or (yields-bind (yields-just "!") λ _ _ _. yields-done tt)
      (yields-or (yields-bind (yields-just "&") λ _ _ _. yields-done tt)
      (yields-or (yields-bind (yields-just "^") λ _ _ _. yields-done tt) (yields-done tt)))

  yields-binary_kind : Yields (in_text text) binary_group_kind (λ k n. Unit {0})
  yields-binary_kind =
      yields-or (yields-bind (yields-just ",") λ _ _ _. yields-done tt)
      (yields-bind (yields-just ":") λ _ _ _. yields-done tt)

  yields-megaminx : Yields (in_text text) megaminx_scramble_move (λ k n. 1 ≤ n)
  unfolding megaminx_scramble_move
  yields-megaminx =
      yields-or (yields-bind (yields-word-some "R" "++") λ _ n h. yields-done (omega arith))
      (yields-or (yields-bind (yields-word-some "R" "--") λ _ n h. yields-done (omega arith))
      (yields-or (yields-bind (yields-word-some "D" "++") λ _ n h. yields-done (omega arith))
      (yields-bind (yields-word-some "D" "--") λ _ n h. yields-done (omega arith))))

  pair-good : (u d : ℤ) {n : ℕ} → f.sq1 ≡ true → fits_bits 32 u ≡ true → fits_bits 32 d ≡ true → 1 ≤ n → NodeGood f text (leaf (pair u d)) n
  unfolding step_in_range step_of leaf_ok leaf_fits
  pair-good u d t p q h =
      let fit = and_both (fits_bits 32 u) _ p q in
      leaf-good (and_both f.sq1 _ t fit) refl fit h

  slash-good : {n : ℕ} → f.sq1 ≡ true → 1 ≤ n → NodeGood f text (leaf slash) n
  unfolding step_in_range step_of leaf_ok leaf_fits
  slash-good t h = leaf-good t refl refl h

  pause-good : {n : ℕ} → 1 ≤ n → NodeGood f text (leaf pause) n
  unfolding step_in_range step_of leaf_ok leaf_fits
  pause-good h = leaf-good refl refl refl h

  megaminx-good : (k : MegaminxScrambleMove) {n : ℕ} → f.megaminx ≡ true → 1 ≤ n → NodeGood f text (leaf (megaminx k)) n
  unfolding step_in_range step_of leaf_ok leaf_fits
  megaminx-good k t h = leaf-good t refl refl h

  yields-sq1 : f.sq1 ≡ true → Yields (in_text text) sq1_move (λ x n. NodeGood f text (leaf x) n)
  unfolding sq1_move
  yields-sq1 t =
      yields-or (yields-bind (yields-just "/") λ _ n i. yields-done (slash-good t (omega arith)))
      (yields-bind (yields-just "(") λ _ n i.
      yields-bind (yields-padded (λ _ _ _ _ q. q) yields-i32) λ u m p.
      yields-bind (yields-just ",") λ _ k _.
      yields-bind (yields-padded (λ _ _ _ _ q. q) yields-i32) λ d j q.
      yields-bind (yields-just ")") λ _ l _.
      yields-done (pair-good u d t p q (omega arith)))

  module _ (list : Reader Tree) (lists : Yields (in_text text) list (TreeGood f text)) where
    yields-group : Yields (in_text text) (group_node list) Waiting
    unfolding group_node
    yields-group =
        yields-bind yields-kind λ k n _.
        yields-bind (yields-just "(") λ _ m i.
        yields-bind lists λ a j g.
        yields-bind (yields-just ")") λ _ l _.
        yields-done (λ m e. group-good k a m g e (omega arith))

    yields-binary : Yields (in_text text) (binary_group_node list) Waiting
    unfolding binary_group_node
    yields-binary =
        yields-bind (yields-just "[") λ _ m i.
        yields-bind lists λ a j g.
        yields-bind yields-binary_kind λ k n _.
        yields-bind lists λ b j' g'.
        yields-bind (yields-just "]") λ _ l _.
        yields-done (λ m e. binary-good k a b m g g' e (omega arith))

    yields-repeatable : Yields (in_text text) (repeatable_node_by (prime f) f list) (NodeGood f text)
    yields-repeatable =
        yields-bind {Q = Waiting} (yields-or yields-rotation (yields-or yields-group (yields-or yields-binary yields_move))) λ x n w.
        yields-bind (yields-multiplier f) λ m k e.
        yields-done (node-grows (x m) n (n + (k + 0)) (omega arith) (w m e))

    yields-node : Yields (in_text text) (node f list) (NodeGood f text)
    unfolding node_by
    yields-node =
        yields-or (yields-bind (yields-just ".") λ _ n i. yields-done (pause-good (omega arith)))
        (yields-or (yields-when f.megaminx λ t. yields-bind yields-megaminx λ k n h. yields-done (megaminx-good k t (omega arith)))
        (yields-or yields-repeatable
        (yields-when f.sq1 λ t. yields-bind (yields-sq1 t) λ x n g. yields-done (node-grows (leaf x) n (n + 0) (omega arith) g))))

  yields-list : (k : ℕ) → Yields (in_text text) (node_list f k) (TreeGood f text)
  unfolding node_list_by
  yields-list zero = yields-fail
  yields-list (suc k) =
      yields-padded tree-grows
      (yields-separated_by cons nil (TreeGood f text) nil-good cons-good tree-grows (yields-node (node_list f k) (yields-list k))
      (weaken yields-some_whitespace (λ _ _ _. tt)))

-- What an accepted text yields, be it UTF-8 or not.
at-end : {A : Type 0} {a : A} (r : Reading A) → at_end r ≡ some a → (at : ℕ) × (r ≡ read a at [])
at-end rejected e = no-some (sym e)
at-end (read b at []) e = (at, cc)
at-end (read b at (x ∷ s)) e = no-some (sym e)

pub reading-good : (f : Features) (text : List ℕ) (t : Tree) → notation f text ≡ some t → TreeGood f text t (length text)
unfolding notation_by
reading-good f text t e =
    let x = at-end (node_list f (suc (length text)) 0 text) e in
    let y = (yields-list f text (suc (length text))).took 0 text (record { from = refl; ends = omega arith }) t x.0 [] x.1 in
    tree-grows f text t (length y.part) (length text) (omega (arith, ap length y.splits, length-append y.part [])) y.holds

-- its tree is in the setting's range
pub reading-in-range : (f : Features) (text : List ℕ) (t : Tree) → notation f text ≡ some t → in_range f (unspanned text t) ≡ true
reading-in-range f text t e = (reading-good f text t e).ranged

-- every part and number of it is as a well-formed tree asks; nesting and packing are not spoken of
pub reading-ok : (f : Features) (text : List ℕ) (t : Tree) → notation f text ≡ some t → tree_ok text t ≡ true
reading-ok f text t e = (reading-good f text t e).ok

-- each record takes at least one byte of its own
pub reading-size : (f : Features) (text : List ℕ) (t : Tree) → notation f text ≡ some t → size t ≤ length text
reading-size f text t e = (reading-good f text t e).small

-- its numbers fit their fields, so that packing keeps them
pub reading-fits : (f : Features) (text : List ℕ) (t : Tree) → notation f text ≡ some t → tree_fits t ≡ true
reading-fits f text t e = (reading-good f text t e).fits
