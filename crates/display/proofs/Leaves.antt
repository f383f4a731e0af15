-- The parts of the text that a leaf names: well formed, they lie within it, and their sets print what they mean. Assumes nothing.
use Prim.Native.Nat.{ℕ, zero, suc, ◌+◌, ◌-◌, ◌≤◌, ◌<◌}
use mathlib.Core.Path.{◌≡◌, refl, ap, sym, ◌∙◌}
use mathlib.Core.Bool.{Bool, true, false, ◌&&◌}
use mathlib.Core.Logic.{◌⊎◌, inl, inr, ⊎_elim}
use mathlib.Core.List.{List, ◌∷◌, ◌++◌}
use mathlib.Core.Option.{Option, some}
use native.Mathlib.Omega.{arith}
use borrow.Author.Tests.{ne_eqb}
use lib.Arith.{lt_of_le-ne}
use lib.Dec.{leb, eqb}
use lib.IntN.{ℤ}
use Rattle.notation.specs.Basics.{pick}
use Rattle.notation.specs.Chars.{is_family_char}
use Rattle.notation.specs.Utf8.{run}
use Rattle.notation.specs.Numbers.{from_bits}
use Rattle.notation.specs.Tree as tree
use Rattle.notation.specs.Tree.{part_of, no_layers, Leaf, rotation, move, pair, megaminx}
use Rattle.notation.specs.Packed.{family_at, leaf_head, head_at, megaminx_number}
use Rattle.notation.specs.Meaning.{or_empty, constraints_in, constraint_meaning, layer_meaning, step_of}
use Rattle.notation.specs.WellFormed.{inside, family_ok, constraints_ok, layers_ok, multiplier_ok, leaf_ok}
use Rattle.notation.specs.Print.{put_braces, put_constraint, put_constraints, put_layers, put_tilde, put_multiplier, put_megaminx, put_step}
use Rattle.notation.specs.declared.common.MegaminxScrambleMove.{MegaminxScrambleMove}
use Rattle.record.specs.Meaning.{span, field, span_at, layers_at, constraints_at, kind_at, tilde_at, present_at, NUMBER, OTHER, FAMILY, FAMILY-SIZE, CONSTRAINTS}
use Rattle.record.specs.declared.spanned.Span.{Span}
use Rattle.record.proofs.Packed.{head_at-kind}
use Rattle.laws.proofs.Bools.{and_left, and_right}
use Rattle.display.specs.Written.{Wrote}
use Rattle.display.specs.declared.write.Printer.{Printer}
use Rattle.display.specs.Nodes.{GoodLeaf, GoodTransform, put_before, put_transform}
use Rattle.display.specs.Squeezed.{squeezed}
use Rattle.display.proofs.Writing.{wrote_as}
use Rattle.display.proofs.ByKind.{megaminx-told}
use Rattle.display.proofs.Squeezing.{set-squeezed}

-- the constraints of a record, by the bit that tells of them
pub some-constraints : (bs : List ℕ) (p : Span) {r : Bool} → r ≡ present_at bs → r ≡ true → span p ≡ span_at CONSTRAINTS bs → constraints_at bs ≡ some (span p)
some-constraints bs p e h i = rw (sym e ∙ h) (ap some (sym i))

module _ (text : List ℕ) {q : Option tree.Span} (p : Span) (e : q ≡ some (span p)) (h : constraints_ok text q ≡ true) where
  pub constraints-print : {old new : Printer} → Wrote old new (λ rest. squeezed (part_of text (span p)) ++ rest) → Wrote old new (put_constraints (constraint_meaning text q))
  constraints-print w =
      rw e (wrote_as (put_braces put_constraint (or_empty (constraints_in (part_of text (span p)))))
      (set-squeezed (part_of text (span p)) (and_right (inside text (span p)) _ (rw e at h))) w)

-- What a leaf that is well formed consists of.
family-inside : (text : List ℕ) (n : ℕ) (f : tree.Span) → family_ok text n f ≡ true → inside text f ≡ true
family-inside text n f h =
    and_left (inside text f) (leb n f.size) (and_left (inside text f && leb n f.size) (eqb (run is_family_char (part_of text f)) f.size) h)

pub record RotationParts (text : List ℕ) (f : tree.Span) (c : Option tree.Span) : Type 0 where
  pub family : inside text f ≡ true
  pub constraints : constraints_ok text c ≡ true

pub rotation-parts : (text : List ℕ) (f : tree.Span) (c : Option tree.Span) (m : ℤ) → leaf_ok text (rotation f c m) ≡ true → RotationParts text f c
unfolding leaf_ok
rotation-parts text f c m h =
    let h₁ = and_left (family_ok text 0 f && constraints_ok text c) (multiplier_ok m) h in
    record {
      family = family-inside text 0 f (and_left (family_ok text 0 f) (constraints_ok text c) h₁);
      constraints = and_right (family_ok text 0 f) (constraints_ok text c) h₁;
    }

pub record MoveParts (text : List ℕ) (l : tree.Layers tree.Span) (f : tree.Span) (c : Option tree.Span) : Type 0 where
  pub layers : layers_ok text l ≡ true
  pub family : inside text f ≡ true
  pub constraints : constraints_ok text c ≡ true

pub move-parts : (text : List ℕ) (t : Bool) (l : tree.Layers tree.Span) (f : tree.Span) (c : Option tree.Span) (m : ℤ) →
    leaf_ok text (move t l f c m) ≡ true → MoveParts text l f c
unfolding leaf_ok
move-parts text t l f c m h =
    let h₁ = and_left ((layers_ok text l && family_ok text 1 f) && constraints_ok text c) (multiplier_ok m) h in
    let h₂ = and_left (layers_ok text l && family_ok text 1 f) (constraints_ok text c) h₁ in
    record {
      layers = and_left (layers_ok text l) (family_ok text 1 f) h₂;
      family = family-inside text 1 f (and_right (layers_ok text l) (family_ok text 1 f) h₂);
      constraints = and_right (layers_ok text l && family_ok text 1 f) (constraints_ok text c) h₁;
    }

-- What stands before the family, by the fields of the record.
tilde-put : (t : Bool) (rest : List ℕ) → pick t (126 ∷ rest) rest ≡ put_tilde t rest
tilde-put true rest = refl
tilde-put false rest = refl

module _ (text bs : List ℕ) {kind : ℕ} (e : kind ≡ kind_at bs) {old new : Printer} where
  pub move-before : {t : Bool} {l : tree.Layers tree.Span} → (kind ≡ 6 → ⊥) → t ≡ tilde_at bs → l ≡ layers_at bs →
      Wrote old new (λ rest. let rest' = put_layers (layer_meaning text l) rest in pick t (126 ∷ rest') rest') → Wrote old new (put_before text bs)
  move-before {t = t} {l = l} h i j w =
      wrote_as (put_before text bs)
      (λ rest. rw (ne_eqb (kind_at bs) 6 (λ z. h (e ∙ z))) (tilde-put t (put_layers (layer_meaning text l) rest) ∙ rw (i, j))) w

pub transform-as : (text bs : List ℕ) {f : tree.Span} {m : ℕ} → f ≡ family_at (field FAMILY bs) (field FAMILY-SIZE bs) → m ≡ field NUMBER bs → {old new : Printer} →
    Wrote old new (λ rest. put_before text bs (part_of text f ++ put_constraints (constraint_meaning text (constraints_at bs)) (put_multiplier (from_bits 32 m) rest))) →
    Wrote old new (put_transform text bs)
transform-as text bs e i w = rw (e, i) at w

-- A leaf is told by its head.
leaf-same : {x y : Leaf} → leaf_head x ≡ leaf_head y → x ≡ y
leaf-same e = cc

module _ (text bs : List ℕ) {old new : Printer} where
  pub leaf-put : (y : Leaf) → head_at bs ≡ leaf_head y → Wrote old new (put_step (step_of text y)) →
      (x : Leaf) → head_at bs ≡ leaf_head x → Wrote old new (put_step (step_of text x))
  leaf-put y h w x i = let e : y ≡ x = leaf-same (sym h ∙ i) in rw e at w

  pub pair_put : {kind u d : ℕ} → kind ≡ kind_at bs → kind ≡ 9 → u ≡ field NUMBER bs → d ≡ field OTHER bs → Wrote old new (put_step (pair (from_bits 32 u) (from_bits 32 d))) →
      (x : Leaf) → head_at bs ≡ leaf_head x → Wrote old new (put_step (step_of text x))
  unfolding step_of
  pair_put e h i j w = leaf-put (pair (from_bits 32 (field NUMBER bs)) (from_bits 32 (field OTHER bs))) (head_at-kind bs 9 (sym h ∙ e)) (rw (i, j) at w)

  -- what the arms before leave
  pub megaminx-put : {kind : ℕ} → kind ≡ kind_at bs → GoodLeaf text bs → ((Unit {0} × (kind ≡ 8 → ⊥)) × (kind ≡ 9 → ⊥)) × (kind ≡ 10 → ⊥) → (kind ≡ 6 → ⊥) → (kind ≡ 7 → ⊥) →
      ((m : MegaminxScrambleMove) → kind ≡ megaminx_number m → Wrote old new (put_megaminx m)) →
      (x : Leaf) → head_at bs ≡ leaf_head x → Wrote old new (put_step (step_of text x))
  unfolding put_step step_of
  megaminx-put {kind} e g others h h' w =
      let low : 7 < kind = lt_of_le-ne (lt_of_le-ne (omega (arith, g.low)) (λ z. h (sym z))) (λ z. h' (sym z)) in
      let eleven : 10 < kind = lt_of_le-ne (lt_of_le-ne (lt_of_le-ne low (λ z. others.0.0.1 (sym z))) (λ z. others.0.1 (sym z))) (λ z. others.1 (sym z)) in
      let m = megaminx-told bs kind eleven (omega (arith, g.high)) in
      leaf-put (megaminx m.0) (head_at-kind bs kind e ∙ m.2) (w m.0 m.1)

pub sixth-or-seventh : (k : ℕ) → 6 ≤ k → k < 8 → (k ≡ 6) ⊎ (k ≡ 7)
sixth-or-seventh k l h = go (k - 6) (omega arith)
  where
    go : (d : ℕ) → k ≡ 6 + d → (k ≡ 6) ⊎ (k ≡ 7)
    go zero e = inl e
    go (suc zero) e = inr e
    go (suc (suc d)) e = absurd (omega arith)

-- A rotation or a move by the fields of its record.
module _ (text bs : List ℕ) {kind : ℕ} (e : kind ≡ kind_at bs) where
  abbrev family : tree.Span
  family = family_at (field FAMILY bs) (field FAMILY-SIZE bs)

  abbrev rotated : Leaf
  rotated = rotation family (constraints_at bs) (from_bits 32 (field NUMBER bs))

  abbrev moved : Leaf
  moved = move (tilde_at bs) (layers_at bs) family (constraints_at bs) (from_bits 32 (field NUMBER bs))

  rotation-told : kind ≡ 6 → head_at bs ≡ leaf_head rotated
  rotation-told h = head_at-kind bs 6 (sym h ∙ e)

  move-told : kind ≡ 7 → head_at bs ≡ leaf_head moved
  move-told h = head_at-kind bs 7 (sym h ∙ e)

  pub transform-good : GoodLeaf text bs → (kind ≡ 6) ⊎ (kind ≡ 7) → GoodTransform text bs
  transform-good g = ⊎_elim one two
    where
      ok : (y : Leaf) → head_at bs ≡ leaf_head y → leaf_ok text y ≡ true
      ok y h = let e : g.leaf ≡ y = leaf-same (sym g.head ∙ h) in rw e at g.ok

      one : kind ≡ 6 → GoodTransform text bs
      one h =
          let p = rotation-parts text family (constraints_at bs) (from_bits 32 (field NUMBER bs)) (ok rotated (rotation-told h)) in
          record { room = g.room; layers = λ z. absurd (z (sym e ∙ h)); family = p.family; constraints = p.constraints }

      two : kind ≡ 7 → GoodTransform text bs
      two h =
          let p = move-parts text (tilde_at bs) (layers_at bs) family (constraints_at bs) (from_bits 32 (field NUMBER bs)) (ok moved (move-told h)) in
          record { room = g.room; layers = λ z. p.layers; family = p.family; constraints = p.constraints }

  module _ {old new : Printer} (w : Wrote old new (put_transform text bs)) (x : Leaf) (told : head_at bs ≡ leaf_head x) where
    rotation-put : kind ≡ 6 → Wrote old new (put_step (step_of text x))
    unfolding put_step step_of
    rotation-put h =
        let i : kind_at bs ≡ 6 = sym e ∙ h in
        leaf-put text bs rotated (rotation-told h) (wrote_as (put_step (step_of text rotated)) (λ rest. rw i) w) x told

    move-put : kind ≡ 7 → Wrote old new (put_step (step_of text x))
    unfolding put_step step_of
    move-put h =
        let i : kind_at bs ≡ 7 = sym e ∙ h in
        leaf-put text bs moved (move-told h) (wrote_as (put_step (step_of text moved)) (λ rest. rw i) w) x told

    pub transform-put : (kind ≡ 6) ⊎ (kind ≡ 7) → Wrote old new (put_step (step_of text x))
    transform-put k = ⊎_elim rotation-put move-put k
