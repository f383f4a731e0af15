-- One record: what is asked of the node that it says, beside its lists, is what the clauses ask of its fields. Assumes nothing.
use Prim.Native.Nat.{ℕ, ◌≤◌, ◌<◌}
use mathlib.Core.Path.{◌≡◌, refl, sym, ◌∙◌, subst}
use mathlib.Core.Bool.{Bool, true, false, not, ◌&&◌, ◌||◌}
use mathlib.Core.List.{List}
use mathlib.Core.Option.{none, some}
use native.Mathlib.Omega.{arith}
use borrow.Author.Tests.{eqb-true, eq-eqb, leb-true, le-leb}
use lib.Dec.{leb, eqb}
use lib.ListN.{length}
use Rattle.notation.specs.Basics.{pick, between}
use Rattle.notation.specs.Numbers.{from_bits}
use Rattle.notation.specs.Chars.{is_family_char}
use Rattle.notation.specs.Utf8.{run_from, run}
use Rattle.notation.specs.Layers.{MAX-LAYER}
use Rattle.notation.specs.Tree.{Span, part_of}
use Rattle.notation.specs.Packed.{nowhere, family_at, Head, head_at}
use Rattle.notation.specs.Meaning.{constraints_in, layer_set_in}
use Rattle.notation.specs.WellFormed.{is_some, inside, family_ok, constraints_ok, layers_ok, multiplier_ok, leaf_ok}
use Rattle.notation.specs.Clauses.{
  Fields,
  kind,
  form,
  present,
  number,
  low,
  high,
  family,
  constraints,
  set,
  is_move,
  has_multiplier,
  has_family,
  has_constraints,
  has_set,
  kind_ok,
  parts_inside,
  layers_in_range,
  multiplier_in_range,
  family_reads,
  parts_read,
}
use Rattle.record.proofs.Packed.{by-kind}
use Rattle.laws.proofs.Bools.{and_left, and_right, and_both}
use Rattle.well_formed.specs.Formed.{head_ok}
use Rattle.well_formed.proofs.Tests.{multiplier-test}
use Rattle.record.proofs.Written.{fields_at, Clean, below-four, layers_of}
use Rattle.clause_laws.proofs.Written.{◌and◌, used, Single, clean-single}

-- what is asked of the fields that a record of kind k uses
abbrev pub ask_layers : List ℕ → ℕ → Fields → Bool
ask_layers text k r = pick (eqb k 7) (layers_ok text (layers_of r (form r))) true

abbrev pub ask_family : List ℕ → ℕ → Fields → Bool
ask_family text k r = pick (eqb k 6 || eqb k 7) (family_ok text (pick (eqb k 7) 1 0) (family_at (family r).offset (family r).size)) true

abbrev pub ask_constraints : List ℕ → ℕ → Fields → Bool
ask_constraints text k r = pick (eqb k 6 || eqb k 7) (constraints_ok text (pick (has_constraints r) (some (constraints r)) none)) true

abbrev pub ask_multiplier : ℕ → Fields → Bool
ask_multiplier k r = pick (leb k 7) (multiplier_ok (from_bits 32 (number r))) true

abbrev pub asks : List ℕ → ℕ → Fields → Bool
asks text k r = ask_layers text k r && ask_family text k r && ask_constraints text k r && ask_multiplier k r

-- at a depth of 1 a group's level is no question
pub asked : (text bs : List ℕ) → kind_ok (fields_at bs) ≡ true → head_ok text 1 (head_at bs) ≡ asks text (kind (fields_at bs)) (fields_at bs)
unfolding leaf_ok
asked text bs =
    by-kind (λ (k : ℕ) (h : Head). leb k 14 ≡ true → head_ok text 1 h ≡ asks text k (fields_at bs)) bs (kind (fields_at bs)) refl (
      λ e. refl,
      (
        λ e. refl,
        (
          λ e. refl,
          (
            λ e. refl,
            (
              λ e. refl,
              (
                λ e. refl,
                (
                  λ e. refl,
                  (
                    λ e. refl,
                    (λ e. refl, (λ e. refl, (λ e. refl, (λ e. refl, (λ e. refl, (λ e. refl, (λ e. refl, tt))))))),
                  ),
                ),
              ),
            ),
          ),
        ),
      ),
    )
    (λ j l e. absurd (omega (arith, leb-true j 14 e)))

-- The clauses of one record beside its kind and its unused fields.
pub record InBounds (text : List ℕ) (r : Fields) : Type 0 where
  pub inside-ok : parts_inside text r ≡ true
  pub layers-ok : layers_in_range r ≡ true
  pub multiplier-ok : multiplier_in_range r ≡ true
  pub family-ok : family_reads text r ≡ true
  pub parts-ok : parts_read text r ≡ true

-- the clause on layers by the form
abbrev in_range_as : ℕ → Fields → Bool
in_range_as f r = not (between 1 2 f) || leb 1 (low r) && leb (low r) (high r) && leb (high r) MAX-LAYER && (not (eqb f 1) || eqb (low r) (high r))

as-form : (text : List ℕ) (r : Fields) → InBounds text r → (f : ℕ) → form r ≡ f → in_range_as f r ≡ true
as-form text r b f e = subst (λ (n : ℕ). in_range_as n r ≡ true) e b.layers-ok

pub single-layer : (text : List ℕ) (r : Fields) → InBounds text r → Single r
single-layer text r b h =
    let z = as-form text r b 1 (eqb-true (form r) 1 h) in
    eqb-true (low r) (high r) (search (and_left, and_right))

pick_true : (u b : Bool) → (u ≡ true → b ≡ true) → pick u b true ≡ true
pick_true true b h = h refl
pick_true false b h = refl

pick-asked : (u b : Bool) → pick u b true ≡ true → u ≡ true → b ≡ true
pick-asked u b h e = subst (λ (t : Bool). pick t b true ≡ true) e h

or-not : (u b : Bool) → (not u || b) ≡ true → u ≡ true → b ≡ true
or-not u b h e = subst (λ (t : Bool). (not t || b) ≡ true) e h

not-or : (u b : Bool) → (u ≡ true → b ≡ true) → (not u || b) ≡ true
not-or true b h = h refl
not-or false b h = refl

-- a move has a family
move-family : (r : Fields) → is_move r ≡ true → has_family r ≡ true
move-family r e = rw (eqb-true (kind r) 7 e)

module _ (text : List ℕ) (r : Fields) (c : Clean r) where
  -- the family that is read is the one that stands there
  same-family : has_family r ≡ true → family_at (family r).offset (family r).size ≡ family r
  same-family e = subst (λ (u : Bool). pick u (family_at (family r).offset (family r).size) nowhere ≡ family r) e c.family-used

  no-family : has_family r ≡ false → nowhere ≡ family r
  no-family e = subst (λ (u : Bool). pick u (family_at (family r).offset (family r).size) nowhere ≡ family r) e c.family-used

  -- From the clauses to what is asked.
  module _ (b : InBounds text r) where
    inside-family : inside text (family r) ≡ true
    inside-family = and_left _ _ (and_left _ _ b.inside-ok)

    inside-constraints : inside text (constraints r) ≡ true
    inside-constraints = and_right (inside text (family r)) _ (and_left _ _ b.inside-ok)

    inside-set : inside text (set r) ≡ true
    inside-set = and_right (inside text (family r) && inside text (constraints r)) _ b.inside-ok

    layers-asked : layers_ok text (layers_of r (form r)) ≡ true
    layers-asked = below-four (λ f. form r ≡ f → layers_ok text (layers_of r f) ≡ true) (λ e. refl, single, range, listed-set) (form r) (omega arith) refl
      where
        single : form r ≡ 1 → layers_ok text (layers_of r 1) ≡ true
        single e =
            let z = as-form text r b 1 e in
            let l : low r ≤ high r = leb-true (low r) (high r) (search (and_left, and_right)) in
            let h : high r ≤ MAX-LAYER = leb-true (high r) MAX-LAYER (search (and_left, and_right)) in
            and_both (leb 1 (low r)) _ (search (and_left, and_right)) (le-leb (low r) MAX-LAYER (omega arith))

        range : form r ≡ 2 → layers_ok text (layers_of r 2) ≡ true
        range e = and_left _ _ (as-form text r b 2 e)

        listed-set : form r ≡ 3 → layers_ok text (layers_of r 3) ≡ true
        listed-set e = and_both _ _ inside-set (or-not (has_set r) _ (and_left _ _ b.parts-ok) (eq-eqb (form r) 3 e))

    family-asked : has_family r ≡ true → family_ok text (pick (is_move r) 1 0) (family_at (family r).offset (family r).size) ≡ true
    family-asked e = rw (same-family e) (and_both _ _ (and_both _ _ inside-family (least (is_move r) (and_right (eqb (run is_family_char (part_of text (family r))) (family r).size) _ b.family-ok))) (and_left _ _ b.family-ok))
      where
        least : (t : Bool) → (not t || leb 1 (family r).size) ≡ true → leb (pick t 1 0) (family r).size ≡ true
        least true h = h
        least false h = le-leb 0 (family r).size (omega arith)

    constraints-asked : constraints_ok text (pick (has_constraints r) (some (constraints r)) none) ≡ true
    constraints-asked = go (has_constraints r) (and_right (not (has_set r) || is_some (layer_set_in (part_of text (set r)))) _ b.parts-ok)
      where
        go : (t : Bool) → (not t || is_some (constraints_in (part_of text (constraints r)))) ≡ true → constraints_ok text (pick t (some (constraints r)) none) ≡ true
        go true h = and_both _ _ inside-constraints h
        go false h = refl

    multiplier-asked : number r < 4294967296 → has_multiplier r ≡ true → multiplier_ok (from_bits 32 (number r)) ≡ true
    multiplier-asked n e = sym (multiplier-test (number r) n) ∙ subst (λ (t : Bool). not (t && eqb (number r) 2147483648) ≡ true) e b.multiplier-ok

    pub bounds-asked : number r < 4294967296 → asks text (kind r) r ≡ true
    bounds-asked n =
        and_both _ _ (and_both _ _ (and_both _ _
        (pick_true (is_move r) _ (λ e. layers-asked))
        (pick_true (has_family r) _ family-asked))
        (pick_true (has_family r) _ (λ e. constraints-asked)))
        (pick_true (has_multiplier r) _ (multiplier-asked n))

  -- From what is asked to the clauses.
  nowhere-inside : inside text nowhere ≡ true
  nowhere-inside = le-leb 0 (length text) (omega arith)

  module _ (h : asks text (kind r) r ≡ true) where
    layers-answered : 0 < form r → layers_ok text (layers_of r (form r)) ≡ true
    layers-answered l = pick-asked (is_move r) _ (and_left _ _ (and_left _ _ (and_left _ _ h))) (used (is_move r) (form r) c.form-used l)

    family-answered : has_family r ≡ true → family_ok text (pick (is_move r) 1 0) (family r) ≡ true
    family-answered e =
        subst (λ (p : Span). family_ok text (pick (is_move r) 1 0) p ≡ true) (same-family e)
        (pick-asked (has_family r) _ (and_right (ask_layers text (kind r) r) _ (and_left _ _ (and_left _ _ h))) e)

    constraints-answered : has_constraints r ≡ true → constraints_ok text (some (constraints r)) ≡ true
    constraints-answered e =
        let p : present r ≡ 1 = eqb-true (present r) 1 e in
        subst (λ (t : Bool). constraints_ok text (pick t (some (constraints r)) none) ≡ true) e
        (pick-asked (has_family r) _ (and_right (ask_layers text (kind r) r && ask_family text (kind r) r) _ (and_left _ _ h)) (used (has_family r) (present r) c.present-used (omega arith)))

    set-answered : has_set r ≡ true → (inside text (set r) && is_some (layer_set_in (part_of text (set r)))) ≡ true
    set-answered e =
        let f : form r ≡ 3 = eqb-true (form r) 3 e in
        subst (λ (n : ℕ). layers_ok text (layers_of r n) ≡ true) f (layers-answered (omega arith))

    parts-inside : parts_inside text r ≡ true
    parts-inside = and_both _ _ (and_both _ _ (a (has_family r) refl) (b (has_constraints r) refl)) (d (has_set r) refl)
      where
        a : (t : Bool) → has_family r ≡ t → inside text (family r) ≡ true
        a true e = and_left _ _ (and_left _ _ (family-answered e))
        a false e = subst (λ (p : Span). inside text p ≡ true) (no-family e) nowhere-inside

        b : (t : Bool) → has_constraints r ≡ t → inside text (constraints r) ≡ true
        b true e = and_left _ _ (constraints-answered e)
        b false e = subst (λ (p : Span). inside text p ≡ true) (subst (λ (t : Bool). pick t (constraints r) nowhere ≡ constraints r) e c.constraints-used) nowhere-inside

        d : (t : Bool) → has_set r ≡ t → inside text (set r) ≡ true
        d true e = and_left _ _ (set-answered e)
        d false e = subst (λ (p : Span). inside text p ≡ true) (subst (λ (t : Bool). pick t (set r) nowhere ≡ set r) e c.set-used) nowhere-inside

    layers-in-range : layers_in_range r ≡ true
    layers-in-range =
        below-four (λ f. form r ≡ f → in_range_as f r ≡ true)
        (λ e. refl, single, λ e. and_both _ _ (layers 2 e (omega arith)) refl, λ e. refl) (form r) (omega arith) refl
      where
        layers : (f : ℕ) → form r ≡ f → 0 < form r → layers_ok text (layers_of r f) ≡ true
        layers f e l = subst (λ (n : ℕ). layers_ok text (layers_of r n) ≡ true) e (layers-answered l)

        single : form r ≡ 1 → in_range_as 1 r ≡ true
        single e =
            let z = layers 1 e (omega arith) in
            let s : low r ≡ high r = clean-single r c (eq-eqb (form r) 1 e) in
            let m = leb-true (low r) MAX-LAYER (and_right (leb 1 (low r)) _ z) in
            let one : leb 1 (low r) ≡ true = and_left _ _ z in
            one and le-leb (low r) (high r) (omega arith) and le-leb (high r) MAX-LAYER (omega arith) and eq-eqb (low r) (high r) s

    multiplier-in-range : number r < 4294967296 → multiplier_in_range r ≡ true
    multiplier-in-range n = go (has_multiplier r) refl
      where
        go : (t : Bool) → has_multiplier r ≡ t → not (t && eqb (number r) 2147483648) ≡ true
        go true e =
            multiplier-test (number r) n
            ∙ pick-asked (has_multiplier r) _ (and_right (ask_layers text (kind r) r && ask_family text (kind r) r && ask_constraints text (kind r) r) _ h) e
        go false e = refl

    family-reads : family_reads text r ≡ true
    unfolding run_from
    family-reads = and_both _ _ (go (has_family r) refl) (not-or (is_move r) _ least)
      where
        go : (t : Bool) → has_family r ≡ t → eqb (run is_family_char (part_of text (family r))) (family r).size ≡ true
        go true e = and_right (inside text (family r) && leb (pick (is_move r) 1 0) (family r).size) _ (family-answered e)
        go false e = subst (λ (p : Span). eqb (run is_family_char (part_of text p)) p.size ≡ true) (no-family e) refl

        least : is_move r ≡ true → leb 1 (family r).size ≡ true
        least e =
            subst (λ (t : Bool). leb (pick t 1 0) (family r).size ≡ true) e
            (and_right (inside text (family r)) _ (and_left _ _ (family-answered (move-family r e))))

    parts-read : parts_read text r ≡ true
    parts-read =
        and_both _ _
        (not-or (has_set r) _ (λ e. and_right (inside text (set r)) _ (set-answered e)))
        (not-or (has_constraints r) _ (λ e. and_right (inside text (constraints r)) _ (constraints-answered e)))

    pub asked-bounds : number r < 4294967296 → InBounds text r
    asked-bounds n =
        record {
          inside-ok = parts-inside;
          layers-ok = layers-in-range;
          multiplier-ok = multiplier-in-range n;
          family-ok = family-reads;
          parts-ok = parts-read;
        }
