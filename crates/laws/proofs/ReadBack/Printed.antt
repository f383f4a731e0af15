-- Printing only puts ASCII bytes and families in front of what follows: whatever these keep between two texts, printing keeps. Assumes nothing.
use Prim.Native.Nat.{ℕ, zero, suc, ◌+◌, ◌/◌, ◌%◌, ◌≤◌}
use mathlib.Core.Path.{◌≡◌, refl, sym, ap, ◌∙◌}
use mathlib.Core.Bool.{Bool, true, false, not, ◌&&◌, ◌||◌}
use mathlib.Core.List.{List, [], ◌∷◌, ◌++◌, append_assoc}
use mathlib.Core.Option.{Option, none, some}
use lib.Dec.{leb, ltb, eqb}
use lib.IntN.{ℤ, pos, negsuc}
use lib.ListN.{length, length-append}
use native.Mathlib.Omega.{arith}
use borrow.Author.Tests.{le-leb, ltb-true}
use Rattle.notation.specs.Basics.{pick, every}
use Rattle.notation.specs.Utf8.{utf8, utf8_from, char_width}
use Rattle.notation.specs.Numbers.{show_from, show_signed}
use Rattle.notation.specs.Layers.{LayerSetElement, single, range}
use Rattle.notation.specs.Tree.{
  Constraint,
  from_to,
  swap,
  fix,
  Layers,
  no_layers,
  single_layer,
  layer_range,
  layer_set,
  Step,
  rotation,
  move,
  pause,
  pair,
  slash,
  megaminx,
  Node,
  leaf,
  block,
  Body,
  group,
  binary_group,
  NodeList,
  nil,
  cons,
}
use Rattle.notation.specs.Print.{
  put_multiplier,
  put_more,
  put_braces,
  put_constraint,
  put_constraints,
  put_element,
  put_layers,
  put_tilde,
  put_megaminx,
  put_step,
  put_prefix,
  put_separator,
  put_node,
  put_body,
  put_nodes,
  put_others,
}
use Rattle.notation.specs.WellFormed.{multiplier_ok}
use Rattle.notation.specs.declared.features.Features.{Features}
use Rattle.notation.specs.declared.common.GroupKind.{GroupKind}
use Rattle.notation.specs.declared.common.GroupKind.TheVariants.{Simple, Macro, Simultaneous, Niss}
use Rattle.notation.specs.declared.common.BinaryGroupKind.{BinaryGroupKind}
use Rattle.notation.specs.declared.common.BinaryGroupKind.TheVariants.{Commutator, Conjugate}
use Rattle.notation.specs.declared.common.MegaminxScrambleMove.{MegaminxScrambleMove}
use Rattle.notation.specs.declared.common.MegaminxScrambleMove.TheVariants.{Rpp, Rmm, Dpp, Dmm}
use Rattle.laws.proofs.Bools.{and_left, and_right}
use Rattle.laws.proofs.ReadBack.Starts.{utf8_append, family-whole}
use Rattle.laws.proofs.InRange.{
  family_in_range,
  name_in_range,
  constraint_in_range,
  constraints_in_range,
  element_in_range,
  layers_in_range,
  step_in_range,
  node_in_range,
  body_in_range,
  in_range,
}

-- what a rotation and a move in range consist of
pub record RotationOk (f : Features) (a : List ℕ) (c : Option (List Constraint)) (m : ℤ) : Type 0 where
  pub admitted : f.generalized_rotations ≡ true
  pub family : family_in_range a ≡ true
  pub constraints : constraints_in_range f c ≡ true
  pub multiplier : multiplier_ok m ≡ true

pub record MoveOk (f : Features) (t : Bool) (l : Layers (List LayerSetElement)) (a : List ℕ) (c : Option (List Constraint)) (m : ℤ) : Type 0 where
  pub tilde : (not t || f.layers.inverted_layers) ≡ true
  pub layers : layers_in_range f l ≡ true
  pub family : name_in_range a ≡ true
  pub constraints : constraints_in_range f c ≡ true
  pub multiplier : multiplier_ok m ≡ true

pub rotation-ok : (f : Features) (a : List ℕ) (c : Option (List Constraint)) (m : ℤ) → step_in_range f (rotation a c m) ≡ true → RotationOk f a c m
unfolding step_in_range
rotation-ok f a c m h =
    let h₁ = and_right f.generalized_rotations (family_in_range a && (constraints_in_range f c && multiplier_ok m)) h in
    let h₂ = and_right (family_in_range a) (constraints_in_range f c && multiplier_ok m) h₁ in
    record {
      admitted = and_left f.generalized_rotations (family_in_range a && (constraints_in_range f c && multiplier_ok m)) h;
      family = and_left (family_in_range a) (constraints_in_range f c && multiplier_ok m) h₁;
      constraints = and_left (constraints_in_range f c) (multiplier_ok m) h₂;
      multiplier = and_right (constraints_in_range f c) (multiplier_ok m) h₂;
    }

pub move-ok : (f : Features) (t : Bool) (l : Layers (List LayerSetElement)) (a : List ℕ) (c : Option (List Constraint)) (m : ℤ) →
    step_in_range f (move t l a c m) ≡ true → MoveOk f t l a c m
unfolding step_in_range
move-ok f t l a c m h =
    let b : Bool = constraints_in_range f c && multiplier_ok m in
    let h₁ = and_right (not t || f.layers.inverted_layers) (layers_in_range f l && (name_in_range a && b)) h in
    let h₂ = and_right (layers_in_range f l) (name_in_range a && b) h₁ in
    let h₃ = and_right (name_in_range a) b h₂ in
    record {
      tilde = and_left (not t || f.layers.inverted_layers) (layers_in_range f l && (name_in_range a && b)) h;
      layers = and_left (layers_in_range f l) (name_in_range a && b) h₁;
      family = and_left (name_in_range a) b h₂;
      constraints = and_left (constraints_in_range f c) (multiplier_ok m) h₃;
      multiplier = and_right (constraints_in_range f c) (multiplier_ok m) h₃;
    }

module _
    (R : List ℕ → List ℕ → Type 0)
    (byte : (b : ℕ) (s t : List ℕ) → leb b 0x7f ≡ true → R s t → R (b ∷ s) (b ∷ t))
    (name : (a s t : List ℕ) → family_in_range a ≡ true → R s t → R (a ++ s) (a ++ t)) where
  show-keeps : (k n : ℕ) (s t : List ℕ) → R s t → R (show_from k n s) (show_from k n t)
  unfolding show_from
  show-keeps zero n s t r = r
  show-keeps (suc k) n s t r = go (ltb n 10) refl
      (show-keeps k (n / 10) ((48 + n % 10) ∷ s) ((48 + n % 10) ∷ t) (byte (48 + n % 10) s t (le-leb (48 + n % 10) 0x7f (omega arith)) r))
    where
      go : (b : Bool) → ltb n 10 ≡ b → R (show_from k (n / 10) ((48 + n % 10) ∷ s)) (show_from k (n / 10) ((48 + n % 10) ∷ t)) →
          R (pick b ((48 + n) ∷ s) (show_from k (n / 10) ((48 + n % 10) ∷ s))) (pick b ((48 + n) ∷ t) (show_from k (n / 10) ((48 + n % 10) ∷ t)))
      go true e x = byte (48 + n) s t (le-leb (48 + n) 0x7f (omega (arith, ltb-true n 10 e))) r
      go false e x = x

  signed-keeps : (i : ℤ) (s t : List ℕ) → R s t → R (show_signed i s) (show_signed i t)
  signed-keeps (pos n) s t r = show-keeps 10 n s t r
  signed-keeps (negsuc n) s t r = byte 45 _ _ refl (show-keeps 10 (suc n) s t r)

  name-keeps : (a s t : List ℕ) → name_in_range a ≡ true → R s t → R (a ++ s) (a ++ t)
  name-keeps a s t h r = name a s t (and_right (ltb 0 (length a)) (family_in_range a) h) r

  pub constraint-keeps : (c : Constraint) (s t : List ℕ) → constraint_in_range c ≡ true → R s t → R (put_constraint c s) (put_constraint c t)
  constraint-keeps (from_to a b) s t h r =
      name-keeps a _ _ (and_left (name_in_range a) (name_in_range b) h)
      (byte 45 _ _ refl (byte 62 _ _ refl (name-keeps b s t (and_right (name_in_range a) (name_in_range b) h) r)))
  constraint-keeps (swap a b) s t h r =
      name-keeps a _ _ (and_left (name_in_range a) (name_in_range b) h)
      (byte 60 _ _ refl (byte 62 _ _ refl (name-keeps b s t (and_right (name_in_range a) (name_in_range b) h) r)))
  constraint-keeps (fix a) s t h r = name-keeps a s t h r

  pub element-keeps : (e : LayerSetElement) (s t : List ℕ) → element_in_range e ≡ true → R s t → R (put_element e s) (put_element e t)
  element-keeps (single i) s t h r = signed-keeps i s t r
  element-keeps (range i j) s t h r = signed-keeps i _ _ (byte 46 _ _ refl (byte 46 _ _ refl (signed-keeps j s t r)))

  more-keeps : {A : Type 0} (f : A → List ℕ → List ℕ) (ok : A → Bool) →
      ((a : A) (s t : List ℕ) → ok a ≡ true → R s t → R (f a s) (f a t)) →
      (l : List A) (s t : List ℕ) → every ok l ≡ true → R s t → R (put_more f l s) (put_more f l t)
  unfolding put_more every
  more-keeps f ok k [] s t h r = r
  more-keeps f ok k (a ∷ l) s t h r =
      byte 44 _ _ refl (k a _ _ (and_left (ok a) (every ok l) h) (more-keeps f ok k l s t (and_right (ok a) (every ok l) h) r))

  braces-keeps : {A : Type 0} (f : A → List ℕ → List ℕ) (ok : A → Bool) →
      ((a : A) (s t : List ℕ) → ok a ≡ true → R s t → R (f a s) (f a t)) →
      (l : List A) (s t : List ℕ) → every ok l ≡ true → R s t → R (put_braces f l s) (put_braces f l t)
  unfolding every
  braces-keeps f ok k [] s t h r = byte 123 _ _ refl (byte 125 _ _ refl r)
  braces-keeps f ok k (a ∷ l) s t h r =
      byte 123 _ _ refl (k a _ _ (and_left (ok a) (every ok l) h)
      (more-keeps f ok k l (125 ∷ s) (125 ∷ t) (and_right (ok a) (every ok l) h) (byte 125 _ _ refl r)))

  constraints-keeps : (f : Features) (c : Option (List Constraint)) (s t : List ℕ) → constraints_in_range f c ≡ true → R s t →
      R (put_constraints c s) (put_constraints c t)
  constraints-keeps f none s t h r = r
  constraints-keeps f (some l) s t h r =
      braces-keeps put_constraint constraint_in_range constraint-keeps l s t (and_right f.transform_constraints (every constraint_in_range l) h) r

  layers-keeps : (f : Features) (l : Layers (List LayerSetElement)) (s t : List ℕ) → layers_in_range f l ≡ true → R s t →
      R (put_layers l s) (put_layers l t)
  layers-keeps f no_layers s t h r = r
  layers-keeps f (single_layer i) s t h r = show-keeps 10 i s t r
  layers-keeps f (layer_range i j) s t h r = show-keeps 10 i _ _ (byte 45 _ _ refl (show-keeps 10 j s t r))
  layers-keeps f (layer_set l) s t h r =
      braces-keeps put_element element_in_range element-keeps l s t (and_right f.layers.layer_sets (every element_in_range l) h) r

  magnitude-keeps : (b : Bool) (n : ℕ) (s t : List ℕ) → R s t → R (pick b s (show_from 10 n s)) (pick b t (show_from 10 n t))
  magnitude-keeps true n s t r = r
  magnitude-keeps false n s t r = show-keeps 10 n s t r

  pub multiplier-keeps : (m : ℤ) (s t : List ℕ) → R s t → R (put_multiplier m s) (put_multiplier m t)
  multiplier-keeps (pos n) s t r = magnitude-keeps (eqb n 1) n s t r
  multiplier-keeps (negsuc n) s t r = magnitude-keeps (eqb (suc n) 1) (suc n) (39 ∷ s) (39 ∷ t) (byte 39 s t refl r)

  tilde-keeps : (b : Bool) (s t : List ℕ) → R s t → R (put_tilde b s) (put_tilde b t)
  tilde-keeps true s t r = byte 126 s t refl r
  tilde-keeps false s t r = r

  megaminx-keeps : (k : MegaminxScrambleMove) (s t : List ℕ) → R s t → R (put_megaminx k s) (put_megaminx k t)
  megaminx-keeps Rpp s t r = byte 82 _ _ refl (byte 43 _ _ refl (byte 43 _ _ refl r))
  megaminx-keeps Rmm s t r = byte 82 _ _ refl (byte 45 _ _ refl (byte 45 _ _ refl r))
  megaminx-keeps Dpp s t r = byte 68 _ _ refl (byte 43 _ _ refl (byte 43 _ _ refl r))
  megaminx-keeps Dmm s t r = byte 68 _ _ refl (byte 45 _ _ refl (byte 45 _ _ refl r))

  pub step_keeps : (f : Features) (x : Step) (s t : List ℕ) → step_in_range f x ≡ true → R s t → R (put_step x s) (put_step x t)
  unfolding put_step
  step_keeps f (rotation a c m) s t h r =
      let o = rotation-ok f a c m h in
      byte 64 _ _ refl (name a _ _ o.family (constraints-keeps f c _ _ o.constraints (multiplier-keeps m s t r)))
  step_keeps f (move b l a c m) s t h r =
      let o = move-ok f b l a c m h in
      tilde-keeps b _ _ (layers-keeps f l _ _ o.layers
      (name-keeps a _ _ o.family (constraints-keeps f c _ _ o.constraints (multiplier-keeps m s t r))))
  step_keeps f pause s t h r = byte 46 s t refl r
  step_keeps f (pair u d) s t h r =
      byte 40 _ _ refl (signed-keeps u _ _ (byte 44 _ _ refl (byte 32 _ _ refl (signed-keeps d _ _ (byte 41 s t refl r)))))
  step_keeps f slash s t h r = byte 47 s t refl r
  step_keeps f (megaminx k) s t h r = megaminx-keeps k s t r

  prefix-keeps : (k : GroupKind) (s t : List ℕ) → R s t → R (put_prefix k s) (put_prefix k t)
  prefix-keeps Simple s t r = r
  prefix-keeps Macro s t r = byte 33 s t refl r
  prefix-keeps Simultaneous s t r = byte 38 s t refl r
  prefix-keeps Niss s t r = byte 94 s t refl r

  separator-keeps : (k : BinaryGroupKind) (s t : List ℕ) → R s t → R (put_separator k s) (put_separator k t)
  separator-keeps Commutator s t r = byte 44 _ _ refl (byte 32 s t refl r)
  separator-keeps Conjugate s t r = byte 58 _ _ refl (byte 32 s t refl r)

  mutual
    unfolding node_in_range body_in_range in_range put_node put_body put_nodes put_others

    pub node-keeps : (n : Node Step) (f : Features) (s t : List ℕ) → node_in_range f n ≡ true → R s t → R (put_node n s) (put_node n t)
    node-keeps (leaf x) f s t h r = step_keeps f x s t h r
    node-keeps (block b m) f s t h r =
        body-keeps b f (put_multiplier m s) (put_multiplier m t) (and_right (multiplier_ok m) (body_in_range f b) h) (multiplier-keeps m s t r)

    body-keeps : (b : Body Step) (f : Features) (s t : List ℕ) → body_in_range f b ≡ true → R s t → R (put_body b s) (put_body b t)
    body-keeps (group k a) f s t h r = prefix-keeps k _ _ (byte 40 _ _ refl (nodes-keep a f (41 ∷ s) (41 ∷ t) h (byte 41 s t refl r)))
    body-keeps (binary_group k a b) f s t h r =
        byte 91 _ _ refl (nodes-keep a f (put_separator k (put_nodes b (93 ∷ s))) (put_separator k (put_nodes b (93 ∷ t)))
        (and_left (in_range f a) (in_range f b) h)
        (separator-keeps k _ _ (nodes-keep b f (93 ∷ s) (93 ∷ t) (and_right (in_range f a) (in_range f b) h) (byte 93 s t refl r))))

    nodes-keep : (u : NodeList Step) (f : Features) (s t : List ℕ) → in_range f u ≡ true → R s t → R (put_nodes u s) (put_nodes u t)
    nodes-keep nil f s t h r = r
    nodes-keep (cons n l) f s t h r =
        node-keeps n f (put_others l s) (put_others l t) (and_left (node_in_range f n) (in_range f l) h)
        (others_keep l f s t (and_right (node_in_range f n) (in_range f l) h) r)

    others_keep : (u : NodeList Step) (f : Features) (s t : List ℕ) → in_range f u ≡ true → R s t → R (put_others u s) (put_others u t)
    others_keep nil f s t h r = r
    others_keep (cons n l) f s t h r =
        byte 32 _ _ refl (node-keeps n f (put_others l s) (put_others l t) (and_left (node_in_range f n) (in_range f l) h)
        (others_keep l f s t (and_right (node_in_range f n) (in_range f l) h) r))

-- The printed text is UTF-8.
abbrev Utf8After : List ℕ → List ℕ → Type 0
Utf8After s t = utf8 t ≡ true

utf8-byte : (b : ℕ) (s t : List ℕ) → leb b 0x7f ≡ true → Utf8After s t → Utf8After (b ∷ s) (b ∷ t)
unfolding utf8_from char_width
utf8-byte b s t h r = rw h r

utf8-name : (a s t : List ℕ) → family_in_range a ≡ true → Utf8After s t → Utf8After (a ++ s) (a ++ t)
utf8-name a s t h r = utf8_append t (family-whole a h) r

pub printed-utf8 : (f : Features) (u : NodeList Step) → in_range f u ≡ true → utf8 (put_nodes u []) ≡ true
unfolding utf8_from
printed-utf8 f u h = nodes-keep Utf8After utf8-byte utf8-name u f [] [] h refl

-- What follows stands after what is printed alone.
abbrev FollowedBy : List ℕ → List ℕ → List ℕ → Type 0
FollowedBy rest s t = t ≡ s ++ rest

followed-byte : (rest : List ℕ) (b : ℕ) (s t : List ℕ) → leb b 0x7f ≡ true → FollowedBy rest s t → FollowedBy rest (b ∷ s) (b ∷ t)
followed-byte rest b s t h r = ap (λ (l : List ℕ). b ∷ l) r

followed-name : (rest a s t : List ℕ) → family_in_range a ≡ true → FollowedBy rest s t → FollowedBy rest (a ++ s) (a ++ t)
followed-name rest a s t h r = ap (λ (l : List ℕ). a ++ l) r ∙ sym (append_assoc a s rest)

pub constraints-apart : (l : List Constraint) (rest : List ℕ) → every constraint_in_range l ≡ true →
    put_braces put_constraint l rest ≡ put_braces put_constraint l [] ++ rest
constraints-apart l rest h =
    braces-keeps (FollowedBy rest) (followed-byte rest) (followed-name rest) put_constraint constraint_in_range
    (constraint-keeps (FollowedBy rest) (followed-byte rest) (followed-name rest)) l [] rest h refl

pub elements-apart : (l : List LayerSetElement) (rest : List ℕ) → every element_in_range l ≡ true →
    put_braces put_element l rest ≡ put_braces put_element l [] ++ rest
elements-apart l rest h =
    braces-keeps (FollowedBy rest) (followed-byte rest) (followed-name rest) put_element element_in_range
    (element-keeps (FollowedBy rest) (followed-byte rest) (followed-name rest)) l [] rest h refl

-- Printing adds to what follows.
abbrev pub AtLeast : ℕ → List ℕ → List ℕ → Type 0
AtLeast n s t = n ≤ length t

pub long-byte : (n : ℕ) (b : ℕ) (s t : List ℕ) → leb b 0x7f ≡ true → AtLeast n s t → AtLeast n (b ∷ s) (b ∷ t)
long-byte n b s t h r = omega arith

pub long-name : (n : ℕ) (a s t : List ℕ) → family_in_range a ≡ true → AtLeast n s t → AtLeast n (a ++ s) (a ++ t)
long-name n a s t h r = omega (arith, length-append a t)
