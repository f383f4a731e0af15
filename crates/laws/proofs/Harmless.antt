-- Demand 3 of a text in which no NISS group and no pair with −2147483648 is reached (specs/Reached.antt): it unrolls, and to steps that
-- can all be undone. Assumes nothing.
use Prim.Native.Nat.{ℕ, zero, suc, ◌≤◌}
use mathlib.Core.Path.{◌≡◌, refl, sym, ap, ◌∙◌, subst}
use mathlib.Core.Bool.{Bool, true, false, not}
use mathlib.Core.List.{List, [], ◌∷◌, ◌++◌}
use lib.IntN.{ℤ, pos, nat_abs}
use lib.ListN.{length}
use Rattle.notation.specs.Basics.{pick, every}
use Rattle.notation.specs.Refusals.{result}
use Rattle.notation.specs.Tree.{Leaf, Node, leaf, block, Body, group, binary_group, nil, cons, Tree}
use Rattle.notation.specs.Packed.{pack}
use Rattle.notation.specs.Invert.{undo}
use Rattle.notation.specs.Unroll.{copies, turned, is_niss, flatten}
use Rattle.notation.specs.Reached.{Enters, in_group, in_first, in_commutator, in_conjugate, here, later, inside, Harmless}
use Rattle.notation.specs.Entries.{MAX-STEPS}
use Rattle.notation.specs.Demands.{Unrollable, Demand3}
use Rattle.notation.specs.declared.features.Features.{Features}
use Rattle.notation.specs.declared.common.GroupKind.TheVariants.{Simple, Macro, Simultaneous, Niss}
use Rattle.notation.specs.declared.common.BinaryGroupKind.{BinaryGroupKind}
use Rattle.notation.specs.declared.common.BinaryGroupKind.TheVariants.{Commutator, Conjugate}
use Rattle.laws.proofs.Bools.{and_left, and_right, and_both, not-true}
use Rattle.laws.specs.Unrolled.{in_order, flat_binary, flat_node, flat_body, flat}
use Rattle.laws.proofs.Reached.{negatable, all_if_reached, clean_node, clean_body, clean_nodes, clean, clean-unrolls}
use Rattle.laws.proofs.Refused.{nonzero}
use Rattle.laws.proofs.Fits.{leaf_fits, node_fits, body_fits, tree_fits}
use Rattle.laws.proofs.Packing.{unpack-pack}
use Rattle.laws.proofs.Accepting.{Accepted, accepts}
use Rattle.laws.proofs.Tidy.{tidy, tidy-fits}
use Rattle.laws.proofs.KeptByInverses.{undo-negatable}
use Rattle.laws.proofs.DemandThree.{theorem}

-- Where nothing that harms is reached, the tree is clean.
not-niss : (g : Body Leaf) {m : ℤ} {d : Bool} {l : Tree} → Harmless d (cons (block g m) l) → not (is_niss g) ≡ true
not-niss (group Niss a) {m} {d} h = absurd (h.no_niss d a m here)
not-niss (group Simple a) h = refl
not-niss (group Macro a) h = refl
not-niss (group Simultaneous a) h = refl
not-niss (binary_group k a b) h = refl

if-entered : (m : ℤ) (b : Bool) → ((m ≡ pos 0 → ⊥) → b ≡ true) → all_if_reached (nat_abs m) b ≡ true
if-entered m b f = go (nat_abs m) refl
  where
    go : (n : ℕ) → nat_abs m ≡ n → all_if_reached n b ≡ true
    go zero e = refl
    go (suc n) e = f (nonzero m e)

harmless-rest : {d : Bool} {n : Node Leaf} {l : Tree} → Harmless d (cons n l) → Harmless d l
harmless-rest h = record { no_niss = λ e a m w. h.no_niss e a m (later w); no_least = λ e x w. h.no_least e x (later w) }

harmless-inside : {d c : Bool} {g : Body Leaf} {m : ℤ} {a l : Tree} → Harmless d (cons (block g m) l) → (m ≡ pos 0 → ⊥) → Enters (turned m d) g c a → Harmless c a
harmless-inside h z i = record { no_niss = λ e a m w. h.no_niss e a m (inside z i w); no_least = λ e x w. h.no_least e x (inside z i w) }

in-second : {d : Bool} {a b : Tree} (k : BinaryGroupKind) → Enters d (binary_group k a b) d b
in-second Commutator = in_commutator
in-second Conjugate = in_conjugate

mutual
  unfolding clean_node clean_body clean_nodes

  node-clean : (n : Node Leaf) (d : Bool) (l : Tree) → Harmless d (cons n l) → clean_node negatable n ≡ true
  node-clean (leaf x) d l h = ap not (h.no_least d x here)
  node-clean (block g m) d l h =
      and_both (not (is_niss g)) _ (not-niss g h)
      (if-entered m (clean_body negatable g) (λ z. body_clean g (turned m d) (λ c a i. harmless-inside h z i)))

  body_clean : (g : Body Leaf) (d : Bool) → ((c : Bool) (a : Tree) → Enters d g c a → Harmless c a) → clean_body negatable g ≡ true
  body_clean (group k a) d f = harmless-clean a d (f d a in_group)
  body_clean (binary_group k a b) d f = and_both (clean a) _ (harmless-clean a d (f d a in_first)) (harmless-clean b d (f d b (in-second k)))

  pub harmless-clean : (t : Tree) (d : Bool) → Harmless d t → clean t ≡ true
  harmless-clean nil d h = refl
  harmless-clean (cons n l) d h = and_both (clean_node negatable n) _ (node-clean n d l h) (harmless-clean l d (harmless-rest h))

-- so it unrolls
pub harmless-unrolls : (t : Tree) → Harmless false t → flatten t ≡ result (flat undo false t)
harmless-unrolls t h = clean-unrolls t (harmless-clean t false h)

-- Its numbers being of 32 bits, all steps can be undone: a number that is negated does not become −2147483648.
every-both : {A : Type 0} (p : A → Bool) (a b : List A) → every p a ≡ true → every p b ≡ true → every p (a ++ b) ≡ true
unfolding every
every-both p [] b f g = g
every-both p (x ∷ a) b f g = and_both (p x) _ (and_left _ _ f) (every-both p a b (and_right (p x) _ f) g)

copies-every : (n : ℕ) (l : List Leaf) (b : Bool) → all_if_reached n b ≡ true → (b ≡ true → every negatable l ≡ true) → every negatable (copies n l) ≡ true
unfolding copies every
copies-every zero l b c f = refl
copies-every (suc zero) l b c f = every-both negatable l [] (f c) refl
copies-every (suc (suc n)) l b c f = every-both negatable l (copies (suc n) l) (f c) (copies-every (suc n) l b c f)

order-every : (d : Bool) (a b : List Leaf) → every negatable a ≡ true → every negatable b ≡ true → every negatable (in_order d a b) ≡ true
order-every false a b f g = every-both negatable a b f g
order-every true a b f g = every-both negatable b a g f

commutator-every : (a b : Bool → List Leaf) → ((c : Bool) → every negatable (a c) ≡ true) → ((c : Bool) → every negatable (b c) ≡ true) →
    every negatable (flat_binary Commutator false a b) ≡ true
commutator-every a b f g =
    every-both negatable (a false) _ (f false) (every-both negatable (b false) _ (g false) (every-both negatable (a true) _ (f true) (g true)))

binary-every : (k : BinaryGroupKind) (d : Bool) (a b : Bool → List Leaf) → ((c : Bool) → every negatable (a c) ≡ true) →
    ((c : Bool) → every negatable (b c) ≡ true) → every negatable (flat_binary k d a b) ≡ true
binary-every Commutator false a b f g = commutator-every a b f g
binary-every Commutator true a b f g = commutator-every b a g f
binary-every Conjugate d a b f g = every-both negatable (a false) _ (f false) (every-both negatable (b d) _ (g d) (f true))

leaf-every : (x : Leaf) (d : Bool) → negatable x ≡ true → leaf_fits x ≡ true → every negatable (pick d (undo x) x ∷ []) ≡ true
unfolding every
leaf-every x false c f = and_both (negatable x) true c refl
leaf-every x true c f = and_both (negatable (undo x)) true (undo-negatable x f) refl

mutual
  unfolding clean_node clean_body clean_nodes node_fits body_fits tree_fits flat_node flat_body flat every

  node-every : (n : Node Leaf) (d : Bool) → clean_node negatable n ≡ true → node_fits n ≡ true → every negatable (flat_node undo d n) ≡ true
  node-every (leaf x) d c f = leaf-every x d c f
  node-every (block g m) d c f =
      subst (λ (t : Bool). every negatable (copies (pick t 0 (nat_abs m)) (flat_body undo (turned m d) g)) ≡ true) (sym (not-true (is_niss g) (and_left _ _ c)))
      (copies-every (nat_abs m) (flat_body undo (turned m d) g) (clean_body negatable g) (and_right (not (is_niss g)) _ c) (λ b. body-every g (turned m d) b f))

  body-every : (g : Body Leaf) (d : Bool) → clean_body negatable g ≡ true → body_fits g ≡ true → every negatable (flat_body undo d g) ≡ true
  body-every (group k a) d c f = list-every a d c f
  body-every (binary_group k a b) d c f =
      binary-every k d (λ e. flat undo e a) (λ e. flat undo e b) (λ e. list-every a e (and_left _ _ c) (and_left _ _ f))
      (λ e. list-every b e (and_right (clean a) _ c) (and_right (tree_fits a) _ f))

  list-every : (t : Tree) (d : Bool) → clean t ≡ true → tree_fits t ≡ true → every negatable (flat undo d t) ≡ true
  list-every nil d c f = refl
  list-every (cons n l) d c f =
      order-every d (flat_node undo d n) (flat undo d l) (node-every n d (and_left _ _ c) (and_left _ _ f))
      (list-every l d (and_right (clean_node negatable n) _ c) (and_right (node_fits n) _ f))

-- So it is what demand 3 assumes, and demand 3 holds of it.
module _ (f : Features) (text : List ℕ) (t : Tree) (a : Accepted f text t) (h : Harmless false t) (few : length (flat undo false t) ≤ MAX-STEPS) where
  pub harmless-unrollable : Unrollable f text (pack t) (flat undo false t)
  harmless-unrollable = record {
    accepted = accepts f text t a;
    unrolls = ap flatten (unpack-pack t (tidy-fits (tidy f text t a))) ∙ harmless-unrolls t h;
    countable = few;
    negatable = list-every t false (harmless-clean t false h) (tidy f text t a).fits;
  }

  pub demand-of-harmless : Demand3 f text (pack t) (flat undo false t)
  demand-of-harmless = theorem f text (pack t) (flat undo false t) harmless-unrollable
