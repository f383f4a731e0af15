-- Unrolling is refused where a node is reached that causes it, and only there: the theorem of specs/Reached.antt, for either
-- direction. Assumes nothing.
use Prim.Native.Nat.{ℕ, zero, suc}
use mathlib.Core.Path.{◌≡◌, refl, sym, ap, ◌∙◌, subst}
use mathlib.Core.Bool.{Bool, true, false}
use mathlib.Core.Option.{Option, none, some}
use native.Mathlib.Omega.{arith}
use lib.IntN.{ℤ, pos, negsuc, nat_abs}
use Rattle.notation.specs.Basics.{pick}
use Rattle.notation.specs.Refusals.{refusal, NISS, OVERFLOW}
use Rattle.notation.specs.Tree.{Leaf, Node, leaf, block, Body, group, binary_group, nil, cons, Tree}
use Rattle.notation.specs.Invert.{undo, overflows}
use Rattle.notation.specs.Unroll.{turned, is_niss, flatten}
use Rattle.notation.specs.Reached.{
  Enters,
  in_group,
  in_first,
  in_commutator,
  in_conjugate,
  Reached,
  here,
  later,
  inside,
  Causes,
  niss,
  least,
  RefusedWhereReached,
}
use Rattle.notation.specs.declared.common.GroupKind.TheVariants.{Simple, Macro, Simultaneous, Niss}
use Rattle.notation.specs.declared.common.BinaryGroupKind.{BinaryGroupKind}
use Rattle.notation.specs.declared.common.BinaryGroupKind.TheVariants.{Commutator, Conjugate}
use Rattle.laws.proofs.Bools.{false-true, no-some, no-refusal}
use Rattle.laws.specs.Unrolled.{first, if_reached, first_in_order, refusal_binary, flat, refusal_node, refusal_body, first_refusal}
use Rattle.laws.proofs.Unrolling.{verdict, flatten-is}
use Rattle.laws.proofs.Reached.{first-left, first-right, order-left, order-right, niss-clean}

-- A node that is reached in a list and causes the refusal r; the same in a list that a group enters.
record Met (d : Bool) (t : Tree) (r : ℕ) : Type 0 where
  e : Bool
  n : Node Leaf
  reached : Reached d t e n
  causes : Causes e n r

record MetIn (d : Bool) (g : Body Leaf) (r : ℕ) : Type 0 where
  c : Bool
  a : Tree
  enters : Enters d g c a
  met : Met c a r

-- A refusal is caused by a node that is reached.
module _ {r : ℕ} {B : Type 0} where
  first_some : (p q : Option ℕ) → first p q ≡ some r → (p ≡ some r → B) → (q ≡ some r → B) → B
  first_some none q h f g = g h
  first_some (some p) q h f g = f h

  order-some : (d : Bool) (p q : Option ℕ) → first_in_order d p q ≡ some r → (p ≡ some r → B) → (q ≡ some r → B) → B
  order-some false p q h f g = first_some p q h f g
  order-some true p q h f g = first_some q p h g f

module _ {r : ℕ} (a b : Tree) (f : (c : Bool) → first_refusal c a ≡ some r → Met c a r) (g : (c : Bool) → first_refusal c b ≡ some r → Met c b r) where
  one : {k : BinaryGroupKind} {d : Bool} (c : Bool) → first_refusal c a ≡ some r → MetIn d (binary_group k a b) r
  one c h = record { c = c; a = a; enters = in_first; met = f c h }

  two : {d : Bool} (c : Bool) → first_refusal c b ≡ some r → MetIn d (binary_group Commutator a b) r
  two c h = record { c = c; a = b; enters = in_commutator; met = g c h }

  binary-met : (k : BinaryGroupKind) (d : Bool) → refusal_binary k d (λ c. first_refusal c a) (λ c. first_refusal c b) ≡ some r → MetIn d (binary_group k a b) r
  binary-met Commutator false h =
      first_some (first_refusal false a) _ h (λ x. one false x) (λ h.
      first_some (first_refusal false b) _ h (λ x. two false x) (λ h.
      first_some (first_refusal true a) _ h (λ x. one true x) (λ x. two true x)))
  binary-met Commutator true h =
      first_some (first_refusal false b) _ h (λ x. two false x) (λ h.
      first_some (first_refusal false a) _ h (λ x. one false x) (λ h.
      first_some (first_refusal true b) _ h (λ x. two true x) (λ x. one true x)))
  binary-met Conjugate d h =
      first_some (first_refusal false a) _ h (λ x. one false x) (λ h.
      first_some (first_refusal d b) _ h (λ x. record { c = d; a = b; enters = in_conjugate; met = g d x }) (λ x. one true x))

leaf-met : {r : ℕ} (d : Bool) (x : Leaf) (l : Tree) → refusal_node d (leaf x) ≡ some r → Met d (cons (leaf x) l) r
unfolding refusal_node
leaf-met false x l h = no-some (sym h)
leaf-met {r} true x l h = go (overflows x) refl h
  where
    go : (t : Bool) → overflows x ≡ t → pick t (some OVERFLOW) none ≡ some r → Met true (cons (leaf x) l) r
    go true o h = record { e = true; n = leaf x; reached = here; causes = let i : OVERFLOW ≡ r = cc in subst (Causes true (leaf x)) i (least o) }
    go false o h = no-some (sym h)

niss-causes : {d : Bool} {m : ℤ} (g : Body Leaf) → is_niss g ≡ true → Causes d (block g m) NISS
niss-causes (group Niss a) h = niss
niss-causes (group Simple a) h = absurd (false-true h)
niss-causes (group Macro a) h = absurd (false-true h)
niss-causes (group Simultaneous a) h = absurd (false-true h)
niss-causes (binary_group k a b) h = absurd (false-true h)

pub nonzero : {n : ℕ} (m : ℤ) → nat_abs m ≡ suc n → m ≡ pos 0 → ⊥
nonzero m e z = let w : nat_abs m ≡ 0 = ap nat_abs z in omega arith

entered : {r : ℕ} (m : ℤ) (q : Option ℕ) → if_reached (nat_abs m) q ≡ some r → (m ≡ pos 0 → ⊥) × (q ≡ some r)
entered {r} m q h = go (nat_abs m) refl h
  where
    go : (n : ℕ) → nat_abs m ≡ n → if_reached n q ≡ some r → (m ≡ pos 0 → ⊥) × (q ≡ some r)
    go zero e h = no-some (sym h)
    go (suc n) e h = (nonzero m e, h)

block-met : {r : ℕ} (d : Bool) (g : Body Leaf) (m : ℤ) (l : Tree) → refusal_node d (block g m) ≡ some r →
    (refusal_body (turned m d) g ≡ some r → MetIn (turned m d) g r) → Met d (cons (block g m) l) r
unfolding refusal_node
block-met {r} d g m l h f = go (is_niss g) refl h
  where
    go : (t : Bool) → is_niss g ≡ t → pick t (some NISS) (if_reached (nat_abs m) (refusal_body (turned m d) g)) ≡ some r → Met d (cons (block g m) l) r
    go true i h = record { e = d; n = block g m; reached = here; causes = let j : NISS ≡ r = cc in subst (Causes d (block g m)) j (niss-causes g i) }
    go false i h =
        let w = entered m (refusal_body (turned m d) g) h in
        let i = f w.1 in
        record { e = i.met.e; n = i.met.n; reached = inside w.0 i.enters i.met.reached; causes = i.met.causes }

met-later : {d : Bool} {n : Node Leaf} {l : Tree} {r : ℕ} → Met d l r → Met d (cons n l) r
met-later i = record { e = i.e; n = i.n; reached = later i.reached; causes = i.causes }

mutual
  unfolding refusal_body first_refusal

  node-met : {r : ℕ} (n : Node Leaf) (d : Bool) (l : Tree) → refusal_node d n ≡ some r → Met d (cons n l) r
  node-met (leaf x) d l h = leaf-met d x l h
  node-met (block g m) d l h = block-met d g m l h (λ i. body-met g (turned m d) i)

  body-met : {r : ℕ} (g : Body Leaf) (d : Bool) → refusal_body d g ≡ some r → MetIn d g r
  body-met (group k a) d h = record { c = d; a = a; enters = in_group; met = list-met a d h }
  body-met (binary_group k a b) d h = binary-met a b (λ c i. list-met a c i) (λ c i. list-met b c i) k d h

  list-met : {r : ℕ} (t : Tree) (d : Bool) → first_refusal d t ≡ some r → Met d t r
  list-met nil d h = no-some (sym h)
  list-met (cons n l) d h =
      order-some d (refusal_node d n) (first_refusal d l) h (λ i. node-met n d l i) (λ i. met-later (list-met l d i))

-- A node that is reached and causes a refusal is not passed.
binary-none : (k : BinaryGroupKind) (d : Bool) (a b : Bool → Option ℕ) → refusal_binary k d a b ≡ none → (c : Bool) → a c ≡ none
binary-none Commutator false a b h false = first-left _ _ h
binary-none Commutator false a b h true = first-left _ _ (first-right (b false) _ (first-right (a false) _ h))
binary-none Commutator true a b h false = first-left _ _ (first-right (b false) _ h)
binary-none Commutator true a b h true = first-right (b true) _ (first-right (a false) _ (first-right (b false) _ h))
binary-none Conjugate d a b h false = first-left _ _ h
binary-none Conjugate d a b h true = first-right (b d) _ (first-right (a false) _ h)

commutator-none : (d : Bool) (a b : Bool → Option ℕ) → refusal_binary Commutator d a b ≡ none → (c : Bool) → b c ≡ none
commutator-none false a b h c = binary-none Commutator true b a h c
commutator-none true a b h c = binary-none Commutator false b a h c

enters_none : {d c : Bool} {g : Body Leaf} {a : Tree} → Enters d g c a → refusal_body d g ≡ none → first_refusal c a ≡ none
unfolding refusal_body
enters_none in_group h = h
enters_none (in_first {d} {c} {k} {a} {b}) h = binary-none k d (λ c. first_refusal c a) (λ c. first_refusal c b) h c
enters_none (in_commutator {d} {c} {a} {b}) h = commutator-none d (λ c. first_refusal c a) (λ c. first_refusal c b) h c
enters_none (in_conjugate {d} {a} {b}) h = first-left _ _ (first-right (first_refusal false a) _ h)

inside-none : (d : Bool) (g : Body Leaf) (m : ℤ) → (m ≡ pos 0 → ⊥) → refusal_node d (block g m) ≡ none → refusal_body (turned m d) g ≡ none
unfolding refusal_node
inside-none d g (pos zero) z h = absurd (z refl)
inside-none d g (pos (suc n)) z h = (niss-clean (is_niss g) _ h).1
inside-none d g (negsuc n) z h = (niss-clean (is_niss g) _ h).1

causes-some : {e : Bool} {n : Node Leaf} {r : ℕ} → Causes e n r → refusal_node e n ≡ some r
unfolding refusal_node
causes-some niss = refl
causes-some (least o) = rw o

blocked : {d e : Bool} {t : Tree} {n : Node Leaf} {r : ℕ} → Reached d t e n → Causes e n r → first_refusal d t ≡ none → ⊥
unfolding first_refusal
blocked (here {d} {x} {l}) c h = no-some (sym (causes-some c) ∙ order-left d (refusal_node d x) (first_refusal d l) h)
blocked (later {d} {n = n} {l = l} w) c h = blocked w c (order-right d (refusal_node d n) (first_refusal d l) h)
blocked (inside {d} {g = g} {m = m} {l = l} z i w) c h =
    blocked w c (enters_none i (inside-none d g m z (order-left d (refusal_node d (block g m)) (first_refusal d l) h)))

-- The theorem.
verdict-refusal : {A : Type 0} {r : ℕ} (q : Option ℕ) (l : A) → verdict q l ≡ refusal r → q ≡ some r
verdict-refusal none l h = no-refusal (sym h)
verdict-refusal (some q) l h = ap some cc

pub refused-where-reached : (t : Tree) → RefusedWhereReached t
refused-where-reached t = record {
  caused = λ r h.
      let m = list-met t false (verdict-refusal (first_refusal false t) (flat undo false t) (sym (flatten-is t false) ∙ h)) in
      (m.e, m.n, m.reached, m.causes);
  refused = λ e n r w c. go (first_refusal false t) (flatten-is t false) (blocked w c);
}
  where
    go : (q : Option ℕ) → flatten t ≡ verdict q (flat undo false t) → (q ≡ none → ⊥) → (r : ℕ) × (flatten t ≡ refusal r)
    go none h i = absurd (i refl)
    go (some r) h i = (r, h)
