-- A leaf's record is what packing writes of what it says exactly if the fields that it does not use are 0: the tests of unused.rt, kind by kind. Assumes nothing.
use Prim.Native.Nat.{ℕ, ◌+◌, ◌/◌, ◌%◌, ◌≤◌, ◌<◌}
use mathlib.Core.Path.{◌≡◌, refl, sym, ap, ap₂, subst, ◌∙◌}
use mathlib.Core.Bool.{Bool, true, false, not, ◌&&◌, ◌||◌}
use mathlib.Core.List.{List}
use native.Mathlib.Omega.{arith}
use borrow.Author.Tests.{eq-eqb, ne_eqb, eqb-true, lt-leb, le-leb}
use lib.Dec.{eqb}
use lib.ListN.{get_or}
use Rattle.notation.specs.Basics.{pick, same_list}
use Rattle.notation.specs.Tree.{Span, span}
use Rattle.notation.specs.Packed.{nowhere, family_at, low_and_high, Head, head_fields, head_at}
use Rattle.notation.specs.Clauses.{Fields, kind, tilde, form, present, number, other, is_group, is_binary, is_move, is_pair, has_multiplier, has_family, has_constraints, has_set, kind_ok}
use Rattle.notation.proofs.Bools.{false-true, and_left, and_right, and_both, above}
use Rattle.numbers.proofs.Positional.{Below}
use Rattle.record.specs.Meaning.{field, both_zero, span_at, layers_at, kind_at, SMALL, FIRST, NUMBER, OTHER, FAMILY, FAMILY-SIZE, CONSTRAINTS, LAYER-SET, COUNT}
use Rattle.record.specs.Unused.{family_written, parts_written, set_written}
use Rattle.record.proofs.Packed.{by-kind, head_at-kind}
use Rattle.record.proofs.Same.{same_refl, same-eq, refuted}
use Rattle.record.proofs.Written.{layer_numbers, layers-numbers, fields_at, listed_same, written, LeafIsOne, Clean, clean-same, same-clean}

module _ (bs : List ℕ) (i : ℕ) where
  zeros : both_zero i bs ≡ true → (field i bs ≡ 0) × (field (i + 1) bs ≡ 0)
  zeros e = (eqb-true (field i bs) 0 (and_left _ _ e), eqb-true (field (i + 1) bs) 0 (and_right (eqb (field i bs) 0) _ e))

  are-zero : field i bs ≡ 0 → field (i + 1) bs ≡ 0 → both_zero i bs ≡ true
  are-zero a b = and_both _ _ (eq-eqb (field i bs) 0 a) (eq-eqb (field (i + 1) bs) 0 b)

  nowhere-is : both_zero i bs ≡ true → nowhere ≡ span_at i bs
  nowhere-is e = ap₂ span (sym (zeros e).0) (sym (zeros e).1)

  is-nowhere : nowhere ≡ span_at i bs → both_zero i bs ≡ true
  is-nowhere e = are-zero (ap (λ (p : Span). p.offset) (sym e)) (ap (λ (p : Span). p.size) (sym e))

  -- a part that is used, or else nowhere
  part-kept : (u : Bool) → (u || both_zero i bs) ≡ true → pick u (span_at i bs) nowhere ≡ span_at i bs
  part-kept true e = refl
  part-kept false e = nowhere-is e

  kept-part : (u : Bool) → pick u (span_at i bs) nowhere ≡ span_at i bs → (u || both_zero i bs) ≡ true
  kept-part true e = refl
  kept-part false e = is-nowhere e

family-kept : (bs : List ℕ) → family_written bs ≡ true → family_at (field FAMILY bs) (field FAMILY-SIZE bs) ≡ span_at FAMILY bs
family-kept bs = go (eqb (field FAMILY-SIZE bs) 0) refl
  where
    go : (t : Bool) → eqb (field FAMILY-SIZE bs) 0 ≡ t → (not t || eqb (field FAMILY bs) 0) ≡ true → pick t nowhere (span (field FAMILY bs) (field FAMILY-SIZE bs)) ≡ span_at FAMILY bs
    go true e h = ap₂ span (sym (eqb-true (field FAMILY bs) 0 h)) (sym (eqb-true (field FAMILY-SIZE bs) 0 e))
    go false e h = refl

kept-family : (bs : List ℕ) → family_at (field FAMILY bs) (field FAMILY-SIZE bs) ≡ span_at FAMILY bs → family_written bs ≡ true
kept-family bs = go (eqb (field FAMILY-SIZE bs) 0)
  where
    go : (t : Bool) → pick t nowhere (span (field FAMILY bs) (field FAMILY-SIZE bs)) ≡ span_at FAMILY bs → (not t || eqb (field FAMILY bs) 0) ≡ true
    go true e = eq-eqb (field FAMILY bs) 0 (ap (λ (p : Span). p.offset) (sym e))
    go false e = refl

-- What a leaf uses: tilde and layers, a family, a number, d of a pair.
record Uses (r : Fields) (m f n p : Bool) : Type 0 where
  moves : is_move r ≡ m
  named : has_family r ≡ f
  alone : is_group r ≡ false
  single : is_binary r ≡ false
  numbered : (has_multiplier r || is_pair r) ≡ n
  paired : is_pair r ≡ p

module _ (r : Fields) where
  uses-move : kind r ≡ 7 → Uses r true true true false
  uses-move e = record { moves = rw e; named = rw e; alone = rw e; single = rw e; numbered = rw e; paired = rw e }

  uses-rotation : kind r ≡ 6 → Uses r false true true false
  uses-rotation e = record { moves = rw e; named = rw e; alone = rw e; single = rw e; numbered = rw e; paired = rw e }

  uses-pair : kind r ≡ 9 → Uses r false false true true
  uses-pair e = record { moves = rw e; named = rw e; alone = rw e; single = rw e; numbered = rw e; paired = rw e }

  uses-none : 7 < kind r → (kind r ≡ 9 → ⊥) → Uses r false false false false
  uses-none h n =
      record {
        moves = ne_eqb (kind r) 7 (λ e. omega arith);
        named = rw (ne_eqb (kind r) 6 (λ e. omega arith), ne_eqb (kind r) 7 (λ e. omega arith));
        alone = lt-leb (kind r) 5 (omega arith);
        single = above 4 5 (kind r) (omega arith);
        numbered = rw (lt-leb (kind r) 7 h, ne_eqb (kind r) 9 n);
        paired = ne_eqb (kind r) 9 n;
      }

-- the bits beside the kind
no-layers : (s : ℕ) → 0 ≡ s / 8 % 2 → 0 ≡ s / 2 % 4 → s / 2 % 8 ≡ 0
no-layers s t f = let same : s / 2 / 4 ≡ s / 8 = omega arith in go (s / 2) (rw same t) f
  where
    go : (q : ℕ) → 0 ≡ q / 4 % 2 → 0 ≡ q % 4 → q % 8 ≡ 0
    go q t f = let same : q / 4 / 2 ≡ q / 8 = omega arith in omega arith

no_bits : (s : ℕ) → 0 ≡ s / 8 % 2 → 0 ≡ s / 2 % 4 → 0 ≡ s % 2 → s % 16 ≡ 0
no_bits s t f p = let same : s / 2 / 8 ≡ s / 16 = omega arith in let l = no-layers s t f in omega arith

-- The tests of each kind say that the record is clean, and a clean record passes them.
module _ (bs : List ℕ) (lists : both_zero FIRST bs ≡ true) where
  abbrev r : Fields
  r = fields_at bs

  move-clean : Uses r true true true false → eqb (field OTHER bs) (low_and_high (layers_at bs)) ≡ true → set_written bs ≡ true → parts_written bs ≡ true → Clean r
  move-clean u o s p =
      record {
        tilde-used = rw u.moves;
        form-used = rw u.moves;
        present-used = rw u.named;
        first-used = rw u.alone (sym (zeros bs 1 lists).0);
        second-used = rw u.single (sym (zeros bs 1 lists).1);
        number-used = rw u.numbered;
        other-used = rw u.paired (sym (layers-numbers r (form r) (omega arith)) ∙ sym (eqb-true (field OTHER bs) (low_and_high (layers_at bs)) o));
        family-used = rw u.named (family-kept bs (and_left _ _ p));
        constraints-used = part-kept bs 7 (has_constraints r) (and_right (family_written bs) _ p);
        set-used = part-kept bs 9 (has_set r) s;
      }

  clean-move : Uses r true true true false → Clean r → (eqb (field OTHER bs) (low_and_high (layers_at bs)) && (set_written bs && parts_written bs)) ≡ true
  clean-move u c =
      and_both _ _ (eq-eqb (field OTHER bs) (low_and_high (layers_at bs)) (sym (rw u.paired at c.other-used) ∙ sym (layers-numbers r (form r) (omega arith))))
      (and_both _ _ (kept-part bs 9 (has_set r) c.set-used)
      (and_both _ _ (kept-family bs (rw u.named at c.family-used)) (kept-part bs 7 (has_constraints r) c.constraints-used)))

  rotation-clean : Uses r false true true false → eqb (field SMALL bs / 2 % 8) 0 ≡ true → eqb (field OTHER bs) 0 ≡ true → both_zero LAYER-SET bs ≡ true → parts_written bs ≡ true → Clean r
  rotation-clean u t o s p =
      let z : get_or r 0 0 / 2 % 8 ≡ 0 = eqb-true (field SMALL bs / 2 % 8) 0 t in
      let bare : 0 ≡ form r = omega arith in
      record {
        tilde-used = rw u.moves (omega arith);
        form-used = rw u.moves bare;
        present-used = rw u.named;
        first-used = rw u.alone (sym (zeros bs 1 lists).0);
        second-used = rw u.single (sym (zeros bs 1 lists).1);
        number-used = rw u.numbered;
        other-used = rw (u.paired, ← bare) (sym (eqb-true (field OTHER bs) 0 o));
        family-used = rw u.named (family-kept bs (and_left _ _ p));
        constraints-used = part-kept bs 7 (has_constraints r) (and_right (family_written bs) _ p);
        set-used = rw (← bare) (nowhere-is bs 9 s);
      }

  clean-rotation : Uses r false true true false → Clean r → (eqb (field SMALL bs / 2 % 8) 0 && (eqb (field OTHER bs) 0 && (both_zero LAYER-SET bs && parts_written bs))) ≡ true
  clean-rotation u c =
      let t : 0 ≡ tilde r = rw u.moves at c.tilde-used in
      let f : 0 ≡ form r = rw u.moves at c.form-used in
      let z : field SMALL bs / 2 % 8 ≡ 0 = no-layers (field SMALL bs) t f in
      and_both _ _ (eq-eqb (field SMALL bs / 2 % 8) 0 z)
      (and_both _ _ (eq-eqb (field OTHER bs) 0 (sym (rw (u.paired, ← f) at c.other-used)))
      (and_both _ _ (is-nowhere bs 9 (rw (← f) at c.set-used))
      (and_both _ _ (kept-family bs (rw u.named at c.family-used)) (kept-part bs 7 (has_constraints r) c.constraints-used))))

  -- a pair, or a kind alone: nothing beside the kind but numbers
  abbrev alone : Bool
  alone = eqb (field SMALL bs % 16) 0 && (both_zero FAMILY bs && (both_zero CONSTRAINTS bs && both_zero LAYER-SET bs))

  bare-clean : {n p : Bool} → Uses r false false n p → alone ≡ true → pick n (number r) 0 ≡ number r → (0 ≡ form r → pick p (other r) (get_or (layer_numbers r) (form r) 0) ≡ other r) → Clean r
  bare-clean u a n o =
      let z : get_or r 0 0 % 16 ≡ 0 = eqb-true (field SMALL bs % 16) 0 (and_left _ _ a) in
      let t : 0 ≡ tilde r = omega arith in
      let f : 0 ≡ form r = omega arith in
      let p : 0 ≡ present r = omega arith in
      let parts = and_right (eqb (field SMALL bs % 16) 0) _ a in
      record {
        tilde-used = rw u.moves t;
        form-used = rw u.moves f;
        present-used = rw u.named p;
        first-used = rw u.alone (sym (zeros bs 1 lists).0);
        second-used = rw u.single (sym (zeros bs 1 lists).1);
        number-used = rw u.numbered n;
        other-used = rw u.paired (o f);
        family-used = rw u.named (nowhere-is bs 5 (and_left _ _ parts));
        constraints-used = rw (← p) (nowhere-is bs 7 (and_left _ _ (and_right (both_zero FAMILY bs) _ parts)));
        set-used = rw (← f) (nowhere-is bs 9 (and_right (both_zero CONSTRAINTS bs) _ (and_right (both_zero FAMILY bs) _ parts)));
      }

  clean-bare : {n p : Bool} → Uses r false false n p → Clean r → alone ≡ true
  clean-bare u c =
      let t : 0 ≡ tilde r = rw u.moves at c.tilde-used in
      let f : 0 ≡ form r = rw u.moves at c.form-used in
      let p : 0 ≡ present r = rw u.named at c.present-used in
      let z : field SMALL bs % 16 ≡ 0 = no_bits (field SMALL bs) t f p in
      and_both _ _ (eq-eqb (field SMALL bs % 16) 0 z)
      (and_both _ _ (is-nowhere bs 5 (rw u.named at c.family-used))
      (and_both _ _ (is-nowhere bs 7 (rw (← p) at c.constraints-used)) (is-nowhere bs 9 (rw (← f) at c.set-used))))

-- A leaf's record by its kind.
module _ (bs : List ℕ) (below : Below 256 bs) (k : ℕ) (e : k ≡ kind_at bs) (leafy : 6 ≤ k) (one : field COUNT bs ≡ 1) where
  abbrev same : Bool
  same = same_list (head_fields (head_at bs)) (fields_at bs)

  counts-one : LeafIsOne (fields_at bs)
  counts-one = rw (lt-leb (kind (fields_at bs)) 5 (omega arith)) (sym one)

  known : k ≤ 14 → kind_ok (fields_at bs) ≡ true
  known h = le-leb (kind (fields_at bs)) 14 (omega arith)

  passes : k ≤ 14 → Clean (fields_at bs) → true ≡ same
  passes h c =
      let z : head_fields (head_at bs) ≡ fields_at bs = written bs below (known h) ∙ clean-same (fields_at bs) c counts-one ∙ listed_same bs in
      sym (subst (λ (l : List ℕ). same_list l (fields_at bs) ≡ true) (sym z) (same_refl (fields_at bs)))

  fails : k ≤ 14 → (Clean (fields_at bs) → ⊥) → false ≡ same
  fails h n = refuted same λ q. n (same-clean (fields_at bs) (sym (written bs below (known h)) ∙ same-eq (head_fields (head_at bs)) (fields_at bs) q ∙ sym (listed_same bs)))

  tells : k ≤ 14 → (t : Bool) → (t ≡ true → Clean (fields_at bs)) → (Clean (fields_at bs) → t ≡ true) → t ≡ same
  tells h true p q = passes h (p refl)
  tells h false p q = fails h (λ c. false-true (q c))

  -- no leaf has lists
  no-lists : (get_or (head_fields (head_at bs)) 1 0 ≡ 0) × (get_or (head_fields (head_at bs)) 2 0 ≡ 0)
  no-lists =
      by-kind (λ (j : ℕ) (h : Head). 6 ≤ j → (get_or (head_fields h) 1 0 ≡ 0) × (get_or (head_fields h) 2 0 ≡ 0)) bs k e (
        λ l. absurd (omega arith),
        (
          λ l. absurd (omega arith),
          (
            λ l. absurd (omega arith),
            (
              λ l. absurd (omega arith),
              (
                λ l. absurd (omega arith),
                (
                  λ l. absurd (omega arith),
                  (λ l. (refl, refl), (λ l. (refl, refl), (λ l. (refl, refl), (λ l. (refl, refl), (λ l. (refl, refl), (λ l. (refl, refl), (λ l. (refl, refl), (λ l. (refl, refl), (λ l. (refl, refl), tt))))))))),
                ),
              ),
            ),
          ),
        ),
      )
      (λ j z l. (refl, refl)) leafy

  pub with-lists : both_zero FIRST bs ≡ false → false ≡ same
  with-lists n = refuted same λ q.
      let z = same-eq (head_fields (head_at bs)) (fields_at bs) q in
      let at : (i : ℕ) → get_or (head_fields (head_at bs)) i 0 ≡ field i bs = λ i. ap (λ (l : List ℕ). get_or l i 0) z in
      false-true (sym n ∙ are-zero bs 1 (sym (at 1) ∙ no-lists.0) (sym (at 2) ∙ no-lists.1))

  -- a pause has another kind
  pub no_kind : k ≡ 15 → false ≡ same
  no_kind z = refuted same λ q.
      let l = same-eq (head_fields (head_at bs)) (fields_at bs) q in
      let small : get_or (head_fields (head_at bs)) 0 0 ≡ field SMALL bs = ap (λ (s : List ℕ). get_or s 0 0) l in
      let pauses : get_or (head_fields (head_at bs)) 0 0 ≡ 128 = ap (λ (h : Head). get_or (head_fields h) 0 0) (head_at-kind bs 15 (sym z ∙ e)) in
      omega arith

  module _ (lists : both_zero FIRST bs ≡ true) where
    pub a_move : k ≡ 7 → (t : Bool) → t ≡ (eqb (field OTHER bs) (low_and_high (layers_at bs)) && (set_written bs && parts_written bs)) → t ≡ same
    a_move z t p =
        let u = uses-move (fields_at bs) (sym e ∙ z) in
        tells (omega arith) t
        (λ h. let q = sym p ∙ h in let s = and_right (eqb (field OTHER bs) (low_and_high (layers_at bs))) _ q in move-clean bs lists u (and_left _ _ q) (and_left _ _ s) (and_right (set_written bs) _ s))
        (λ c. p ∙ clean-move bs lists u c)

    pub a-rotation : k ≡ 6 → (t : Bool) → t ≡ (eqb (field SMALL bs / 2 % 8) 0 && (eqb (field OTHER bs) 0 && (both_zero LAYER-SET bs && parts_written bs))) → t ≡ same
    a-rotation z t p =
        let u = uses-rotation (fields_at bs) (sym e ∙ z) in
        tells (omega arith) t
        (λ h.
        let q = sym p ∙ h in
        let s = and_right (eqb (field SMALL bs / 2 % 8) 0) _ q in
        let v = and_right (eqb (field OTHER bs) 0) _ s in
        rotation-clean bs lists u (and_left _ _ q) (and_left _ _ s) (and_left _ _ v) (and_right (both_zero LAYER-SET bs) _ v))
        (λ c. p ∙ clean-rotation bs lists u c)

    pub a_pair : k ≡ 9 → (t : Bool) → t ≡ alone bs lists → t ≡ same
    a_pair z t p =
        let u = uses-pair (fields_at bs) (sym e ∙ z) in
        tells (omega arith) t (λ h. bare-clean bs lists u (sym p ∙ h) refl (λ f. refl)) (λ c. p ∙ clean-bare bs lists u c)

    pub a-kind : (k ≡ 6 → ⊥) → (k ≡ 7 → ⊥) → (k ≡ 9 → ⊥) → k ≤ 14 → (t : Bool) → t ≡ (alone bs lists && both_zero NUMBER bs) → t ≡ same
    a-kind six seven nine few t p =
        let u = uses-none (fields_at bs) (omega (arith, six, seven)) (λ z. nine (e ∙ z)) in
        tells few t
        (λ h.
        let q = sym p ∙ h in
        let n = zeros bs 3 (and_right (alone bs lists) _ q) in
        bare-clean bs lists u (and_left _ _ q) (sym n.0) (λ f. rw (← f) (sym n.1)))
        (λ c.
        let f : 0 ≡ form (fields_at bs) = rw u.moves at c.form-used in
        p ∙ and_both _ _ (clean-bare bs lists u c) (are-zero bs 3 (sym (rw u.numbered at c.number-used)) (sym (rw (u.paired, ← f) at c.other-used))))
