-- A tree in range of at most 64 parentheses one inside another is printed to a text that refusal 3 lets pass. Each printer keeps the
-- nesting of what follows. Assumes nothing.
use Prim.Native.Nat.{ℕ, zero, suc, ◌+◌, ◌/◌, ◌%◌, ◌≤◌, ◌<◌}
use Prim.Native.Char.{code}
use Prim.Native.String as S
use Prim.Native.String.{String}
use mathlib.Core.Path.{◌≡◌, refl, subst, ◌∙◌}
use mathlib.Core.Bool.{Bool, true, false, not, ◌&&◌, ◌||◌}
use mathlib.Core.List.{List, [], ◌∷◌, ◌++◌}
use mathlib.Core.Option.{Option, none, some}
use native.Mathlib.Omega.{arith}
use lib.Dec.{ltb, eqb}
use lib.IntN.{ℤ, pos, negsuc, nat_abs}
use lib.ListN.{length}
use lib.Seq.{take_all}
use borrow.Author.Tests.{eqb-true, ltb-true, le-leb}
use Rattle.notation.specs.Basics.{pick, every}
use Rattle.notation.specs.Chars.{is_family_char}
use Rattle.notation.specs.Utf8.{run}
use Rattle.notation.specs.Numbers.{show_from, show, show_signed}
use Rattle.notation.specs.Layers.{LayerSetElement, single, range}
use Rattle.notation.specs.Tree.{
  Constraint,
  from_to,
  swap,
  fix,
  Layers,
  no_layers,
  single_layer,
  layer_range,
  layer_set,
  Step,
  rotation,
  move,
  pause,
  pair,
  slash,
  megaminx,
  Node,
  leaf,
  block,
  Body,
  group,
  binary_group,
  NodeList,
  nil,
  cons,
}
use Rattle.notation.specs.Print.{
  put,
  put_prime,
  put_multiplier,
  put_more,
  put_braces,
  put_constraint,
  put_constraints,
  put_element,
  put_layers,
  put_tilde,
  put_megaminx,
  put_step,
  put_prefix,
  put_separator,
  put_node,
  put_body,
  put_nodes,
  put_others,
}
use Rattle.notation.specs.WellFormed.{multiplier_ok}
use Rattle.notation.specs.Entries.{opens, closes, nesting_ok}
use Rattle.notation.specs.declared.features.Features.{Features}
use Rattle.notation.specs.declared.common.GroupKind.{GroupKind}
use Rattle.notation.specs.declared.common.GroupKind.TheVariants.{Simple, Macro, Simultaneous, Niss}
use Rattle.notation.specs.declared.common.BinaryGroupKind.{BinaryGroupKind}
use Rattle.notation.specs.declared.common.BinaryGroupKind.TheVariants.{Commutator, Conjugate}
use Rattle.notation.specs.declared.common.MegaminxScrambleMove.{MegaminxScrambleMove}
use Rattle.notation.specs.declared.common.MegaminxScrambleMove.TheVariants.{Rpp, Rmm, Dpp, Dmm}
use Rattle.laws.proofs.Bools.{and_left, and_right, and_both}
use Rattle.laws.proofs.InRange.{
  family_in_range,
  name_in_range,
  constraint_in_range,
  constraints_in_range,
  element_in_range,
  layers_in_range,
  step_in_range,
  node_in_range,
  body_in_range,
  in_range,
}
use Rattle.laws.proofs.Parens.{leaf_parens, node_parens, body_parens, parens}
use Rattle.laws.proofs.PlainBytes.{plain, plain-digit, plain-families, over_plain, over-plains, Ok, along, opening, closing}

-- Words, digits and families.
put-ok : {o : ℕ} {s : List ℕ} (w : String) → every plain (put w []) ≡ true → Ok o s → Ok o (put w s)
unfolding every
put-ok S.[] e h = h
put-ok {o} {s} (S.◌∷◌ c w) e h = along (over_plain o (code c) (put w s) (and_left _ _ e)) (put-ok w (and_right (plain (code c)) _ e) h)

digit_ok : {o : ℕ} {s : List ℕ} (d : ℕ) → d < 10 → Ok o s → Ok o ((48 + d) ∷ s)
digit_ok {o} {s} d l h =
    let e = plain-digit (48 + d) (and_both _ _ (le-leb 48 (48 + d) (omega arith)) (le-leb (48 + d) 57 (omega arith))) in
    along (over_plain o (48 + d) s e) h

show_from-ok : {o : ℕ} {s : List ℕ} (k n : ℕ) → Ok o s → Ok o (show_from k n s)
unfolding show_from
show_from-ok {o} {s = s} zero n h = h
show_from-ok {o} {s} (suc k) n h = go (ltb n 10) refl (show_from-ok {s = (48 + n % 10) ∷ s} k (n / 10) (digit_ok (n % 10) (omega arith) h))
  where
    go : (t : Bool) → ltb n 10 ≡ t → Ok o (show_from k (n / 10) ((48 + n % 10) ∷ s)) →
        Ok o (pick t ((48 + n) ∷ s) (show_from k (n / 10) ((48 + n % 10) ∷ s)))
    go true e g = digit_ok n (ltb-true n 10 e) h
    go false e g = g

show-ok : {o : ℕ} {s : List ℕ} (n : ℕ) → Ok o s → Ok o (show n s)
show-ok n h = show_from-ok 10 n h

signed-ok : {o : ℕ} {s : List ℕ} (i : ℤ) → Ok o s → Ok o (show_signed i s)
signed-ok (pos n) h = show-ok n h
signed-ok {o} {s} (negsuc n) h = along (over_plain o 45 (show (suc n) s) refl) (show-ok (suc n) h)

family-plain : (f : List ℕ) → family_in_range f ≡ true → every plain f ≡ true
family-plain f e =
    let n = run is_family_char f in
    subst (λ (l : List ℕ). every plain l ≡ true) (take_all n f (omega (arith, eqb-true n (length f) e))) (plain-families f)

family-ok : {o : ℕ} {s : List ℕ} (f : List ℕ) → family_in_range f ≡ true → Ok o s → Ok o (f ++ s)
family-ok {o} {s} f e h = along (over-plains o f s (family-plain f e)) h

name-ok : {o : ℕ} {s : List ℕ} (f : List ℕ) → name_in_range f ≡ true → Ok o s → Ok o (f ++ s)
name-ok f e h = family-ok f (and_right (ltb 0 (length f)) _ e) h

multiplier-ok : {o : ℕ} {s : List ℕ} (m : ℤ) → Ok o s → Ok o (put_multiplier m s)
unfolding every
multiplier-ok {o} {s} m h = go (eqb (nat_abs m) 1) (prime m)
  where
    prime : (m : ℤ) → Ok o (put_prime m s)
    prime (pos n) = h
    prime (negsuc n) = put-ok "'" refl h

    go : (t : Bool) → Ok o (put_prime m s) → Ok o (pick t (put_prime m s) (show (nat_abs m) (put_prime m s)))
    go true g = g
    go false g = show-ok (nat_abs m) g

-- What stands in braces.
module _ {A : Type 0} {o : ℕ} (f : A → List ℕ → List ℕ) (r : A → Bool)
    (each : (a : A) (s : List ℕ) → r a ≡ true → Ok o s → Ok o (f a s)) where
  more-ok : (l : List A) (s : List ℕ) → every r l ≡ true → Ok o s → Ok o (put_more f l s)
  unfolding put_more every
  more-ok [] s e h = h
  more-ok (a ∷ l) s e h = put-ok "," refl (each a _ (and_left _ _ e) (more-ok l s (and_right (r a) _ e) h))

  braces-ok : (l : List A) (s : List ℕ) → every r l ≡ true → Ok o s → Ok o (put_braces f l s)
  unfolding every
  braces-ok [] s e h = put-ok "{}" refl h
  braces-ok (a ∷ l) s e h =
      put-ok "{" refl (each a _ (and_left _ _ e) (more-ok l (put "}" s) (and_right (r a) _ e) (put-ok "}" refl h)))

constraint-ok : {o : ℕ} (c : Constraint) (s : List ℕ) → constraint_in_range c ≡ true → Ok o s → Ok o (put_constraint c s)
unfolding every
constraint-ok (from_to a b) s e h = name-ok a (and_left _ _ e) (put-ok "->" refl (name-ok b (and_right (name_in_range a) _ e) h))
constraint-ok (swap a b) s e h = name-ok a (and_left _ _ e) (put-ok "<>" refl (name-ok b (and_right (name_in_range a) _ e) h))
constraint-ok (fix a) s e h = name-ok a e h

constraints-ok : {o : ℕ} {s : List ℕ} (f : Features) (c : Option (List Constraint)) → constraints_in_range f c ≡ true → Ok o s →
    Ok o (put_constraints c s)
constraints-ok f none e h = h
constraints-ok {s = s} f (some l) e h =
    braces-ok put_constraint constraint_in_range constraint-ok l s (and_right f.transform_constraints _ e) h

element-ok : {o : ℕ} (x : LayerSetElement) (s : List ℕ) → Ok o s → Ok o (put_element x s)
unfolding every
element-ok (single i) s h = signed-ok i h
element-ok (range i j) s h = signed-ok i (put-ok ".." refl (signed-ok j h))

layers-ok : {o : ℕ} {s : List ℕ} (f : Features) (l : Layers (List LayerSetElement)) → layers_in_range f l ≡ true → Ok o s →
    Ok o (put_layers l s)
unfolding every
layers-ok f no_layers e h = h
layers-ok f (single_layer i) e h = show-ok i h
layers-ok f (layer_range i j) e h = show-ok i (put-ok "-" refl (show-ok j h))
layers-ok {s = s} f (layer_set l) e h =
    braces-ok put_element element_in_range (λ x s _ h. element-ok x s h) l s (and_right f.layers.layer_sets _ e) h

-- Parentheses.
open-ok : {o : ℕ} {s : List ℕ} (b : ℕ) → opens b ≡ 1 → closes b ≡ 0 → Ok (suc o) s → Ok o (b ∷ s)
open-ok {o} {s} b e f h = along (opening o b s e f) h

close-ok : {o : ℕ} {s : List ℕ} (b : ℕ) → opens b ≡ 0 → closes b ≡ 1 → suc o ≤ 64 → Ok o s → Ok (suc o) (b ∷ s)
close-ok {o} {s} b e f l h = record { passes = closing o b s e f ∙ and_both _ _ (le-leb (suc o) 64 l) h.passes }

-- Steps and nodes.
tilde-ok : {o : ℕ} {s : List ℕ} (t : Bool) → Ok o s → Ok o (put_tilde t s)
unfolding every
tilde-ok true h = put-ok "~" refl h
tilde-ok false h = h

megaminx-ok : {o : ℕ} {s : List ℕ} (k : MegaminxScrambleMove) → Ok o s → Ok o (put_megaminx k s)
unfolding every
megaminx-ok Rpp h = put-ok "R++" refl h
megaminx-ok Rmm h = put-ok "R--" refl h
megaminx-ok Dpp h = put-ok "D++" refl h
megaminx-ok Dmm h = put-ok "D--" refl h

tail-ok : {o : ℕ} {s : List ℕ} (f : Features) (c : Option (List Constraint)) (m : ℤ) → (constraints_in_range f c && multiplier_ok m) ≡ true →
    Ok o s → Ok o (put_constraints c (put_multiplier m s))
tail-ok f c m e h = constraints-ok f c (and_left _ _ e) (multiplier-ok m h)

step_ok : {o : ℕ} {s : List ℕ} (f : Features) (x : Step) → step_in_range f x ≡ true → o + leaf_parens x ≤ 64 → Ok o s → Ok o (put_step x s)
unfolding put_step step_in_range every
step_ok f (rotation a c m) e l h =
    let e' = and_right f.generalized_rotations _ e in
    put-ok "@" refl (family-ok a (and_left _ _ e') (tail-ok f c m (and_right (family_in_range a) _ e') h))
step_ok f (move t y a c m) e l h =
    let e' = and_right (not t || f.layers.inverted_layers) _ e in
    let e'' = and_right (layers_in_range f y) _ e' in
    tilde-ok t (layers-ok f y (and_left _ _ e') (name-ok a (and_left _ _ e'') (tail-ok f c m (and_right (name_in_range a) _ e'') h)))
step_ok f pause e l h = put-ok "." refl h
step_ok f (pair u d) e l h =
    open-ok 40 refl refl (signed-ok u (put-ok ", " refl (signed-ok d (close-ok 41 refl refl (omega arith) h))))
step_ok f slash e l h = put-ok "/" refl h
step_ok f (megaminx k) e l h = megaminx-ok k h

prefix-ok : {o : ℕ} {s : List ℕ} (k : GroupKind) → Ok o s → Ok o (put_prefix k s)
unfolding every
prefix-ok Simple h = h
prefix-ok Macro h = put-ok "!" refl h
prefix-ok Simultaneous h = put-ok "&" refl h
prefix-ok Niss h = put-ok "^" refl h

separator-ok : {o : ℕ} {s : List ℕ} (k : BinaryGroupKind) → Ok o s → Ok o (put_separator k s)
unfolding every
separator-ok Commutator h = put-ok ", " refl h
separator-ok Conjugate h = put-ok ": " refl h

module _ (f : Features) where
  mutual
    unfolding put_node put_body put_nodes put_others node_in_range body_in_range in_range node_parens body_parens parens every

    node_ok_lem : (n : Node Step) (o : ℕ) (s : List ℕ) → node_in_range f n ≡ true → o + node_parens n ≤ 64 → Ok o s → Ok o (put_node n s)
    node_ok_lem (leaf x) o s e l h = step_ok f x e l h
    node_ok_lem (block b m) o s e l h = body_ok_lem b o (put_multiplier m s) (and_right (multiplier_ok m) _ e) (omega arith) (multiplier-ok m h)

    body_ok_lem : (b : Body Step) (o : ℕ) (s : List ℕ) → body_in_range f b ≡ true → suc o + body_parens b ≤ 64 → Ok o s → Ok o (put_body b s)
    body_ok_lem (group k a) o s e l h =
        prefix-ok k (open-ok 40 refl refl (nodes-ok a (suc o) (put ")" s) e (omega arith) (close-ok 41 refl refl (omega arith) h)))
    body_ok_lem (binary_group k a b) o s e l h =
        let h₁ : Ok (suc o) (put "]" s) = close-ok 93 refl refl (omega arith) h in
        let h₂ = nodes-ok b (suc o) (put "]" s) (and_right (in_range f a) _ e) (omega arith) h₁ in
        open-ok 91 refl refl (nodes-ok a (suc o) _ (and_left _ _ e) (omega arith) (separator-ok k h₂))

    nodes-ok : (u : NodeList Step) (o : ℕ) (s : List ℕ) → in_range f u ≡ true → o + parens u ≤ 64 → Ok o s → Ok o (put_nodes u s)
    nodes-ok nil o s e l h = h
    nodes-ok (cons n u) o s e l h =
        let h' = others-ok u o s (and_right (node_in_range f n) _ e) (omega arith) h in
        node_ok_lem n o (put_others u s) (and_left _ _ e) (omega arith) h'

    others-ok : (u : NodeList Step) (o : ℕ) (s : List ℕ) → in_range f u ≡ true → o + parens u ≤ 64 → Ok o s → Ok o (put_others u s)
    others-ok nil o s e l h = h
    others-ok (cons n u) o s e l h =
        let h' = others-ok u o s (and_right (node_in_range f n) _ e) (omega arith) h in
        put-ok " " refl (node_ok_lem n o (put_others u s) (and_left _ _ e) (omega arith) h')

pub printed-nesting : (f : Features) (u : NodeList Step) → in_range f u ≡ true → parens u ≤ 64 → nesting_ok 0 0 (put_nodes u []) ≡ true
unfolding nesting_ok
printed-nesting f u e l = (nodes-ok f u 0 [] e (omega arith) (record { passes = refl })).passes
