-- Which trees unroll in both directions: those in which no NISS group and no pair with −2147483648 is reached.
-- Assumes nothing.
use Prim.Native.Nat.{ℕ, zero, suc}
use mathlib.Core.Path.{◌≡◌, refl, sym, ap, ap₂, ◌∙◌, subst}
use mathlib.Core.Bool.{Bool, true, false, not, ◌&&◌}
use mathlib.Core.List.{List, ◌++◌}
use mathlib.Core.Option.{Option, none, some}
use lib.IntN.{nat_abs, neg_ℤ}
use Rattle.notation.specs.Basics.{pick, every}
use Rattle.notation.specs.Refusals.{result, NISS, OVERFLOW}
use Rattle.notation.specs.Tree.{LeafOf, Leaf, Node, leaf, block, Body, group, binary_group, NodeList, nil, cons, append, Tree, map_node, map_body, map_nodes}
use Rattle.notation.specs.Invert.{undo, overflows, inv}
use Rattle.notation.specs.Unroll.{copies, turned, is_niss, flatten}
use Rattle.notation.specs.declared.common.BinaryGroupKind.{BinaryGroupKind}
use Rattle.notation.specs.declared.common.BinaryGroupKind.TheVariants.{Commutator, Conjugate}
use Rattle.numbers.proofs.TwosComplement.{nat_abs-neg}
use Rattle.laws.proofs.Bools.{and_left, and_right, and_both, not-true, no-some, no-refusal}
use Rattle.laws.proofs.ListEntries.{every_append}
use Rattle.laws.specs.Unrolled.{first, if_reached, first_in_order, in_order, flat_binary, refusal_binary, flat_node, flat_body, flat, refusal_node, refusal_body, first_refusal}
use Rattle.laws.proofs.Unrolling.{verdict, flatten-is, is_niss-map}
use Rattle.laws.specs.Inverted.{inverted, inverted_node, leaf_refusal, inv_refusal}
use Rattle.laws.proofs.Inverses.{inv-is}

-- a step that can be undone
abbrev pub negatable : {F C S : Type 0} → LeafOf F C S → Bool
negatable x = not (overflows x)

abbrev pub all_if_reached : ℕ → Bool → Bool
all_if_reached zero b = true
all_if_reached (suc n) b = b

unfoldable mutual
  pub clean_node : {L : Type 0} → (L → Bool) → Node L → Bool
  clean_node p (leaf x) = p x
  clean_node p (block b m) = not (is_niss b) && all_if_reached (nat_abs m) (clean_body p b)

  pub clean_body : {L : Type 0} → (L → Bool) → Body L → Bool
  clean_body p (group k a) = clean_nodes p a
  clean_body p (binary_group k a b) = clean_nodes p a && clean_nodes p b

  pub clean_nodes : {L : Type 0} → (L → Bool) → NodeList L → Bool
  clean_nodes p nil = true
  clean_nodes p (cons n l) = clean_node p n && clean_nodes p l

-- every leaf that is reached can be undone, and no NISS group is reached
abbrev pub clean : Tree → Bool
clean t = clean_nodes negatable t

-- Small facts of options.
pub first-left : (r q : Option ℕ) → first r q ≡ none → r ≡ none
first-left none q e = refl
first-left (some r) q e = e

pub first-right : (r q : Option ℕ) → first r q ≡ none → q ≡ none
first-right none q e = e
first-right (some r) q e = no-some e

pub first-both : (r q : Option ℕ) → r ≡ none → q ≡ none → first r q ≡ none
first-both r q e h = rw (e, h)

order-both : (d : Bool) (r q : Option ℕ) → r ≡ none → q ≡ none → first_in_order d r q ≡ none
order-both true r q e h = first-both q r h e
order-both false r q e h = first-both r q e h

pub order-left : (d : Bool) (r q : Option ℕ) → first_in_order d r q ≡ none → r ≡ none
order-left true r q e = first-right q r e
order-left false r q e = first-left r q e

pub order-right : (d : Bool) (r q : Option ℕ) → first_in_order d r q ≡ none → q ≡ none
order-right true r q e = first-left q r e
order-right false r q e = first-right r q e

binary-both : (k : BinaryGroupKind) (d : Bool) (a b : Bool → Option ℕ) → ((e : Bool) → a e ≡ none) → ((e : Bool) → b e ≡ none) →
    refusal_binary k d a b ≡ none
binary-both Commutator false a b p q = rw (p false, q false, p true, q true)
binary-both Commutator true a b p q = rw (p false, q false, p true, q true)
binary-both Conjugate d a b p q = rw (p false, q d, p true)

if-reached : (n : ℕ) (b : Bool) (q : Option ℕ) → all_if_reached n b ≡ true → (b ≡ true → q ≡ none) → if_reached n q ≡ none
if-reached zero b q e h = refl
if-reached (suc n) b q e h = h e

niss-or : (t : Bool) (q : Option ℕ) → t ≡ false → q ≡ none → pick t (some NISS) q ≡ none
niss-or t q e h = rw (e, h)

overflow-or : (d t : Bool) → t ≡ false → pick (d && t) (some OVERFLOW) none ≡ none
overflow-or true t e = rw e
overflow-or false t e = refl

-- A clean tree meets no refusal, in either direction.
mutual
  unfolding clean_node clean_body clean_nodes refusal_node refusal_body first_refusal

  pub clean-node : (n : Node Leaf) (d : Bool) → clean_node negatable n ≡ true → refusal_node d n ≡ none
  clean-node (leaf x) d e = overflow-or d (overflows x) (not-true (overflows x) e)
  clean-node (block b m) d e =
      niss-or (is_niss b) _ (not-true (is_niss b) (and_left _ _ e))
      (if-reached (nat_abs m) (clean_body negatable b) _ (and_right (not (is_niss b)) _ e) (λ h. clean-body b (turned m d) h))

  pub clean-body : (b : Body Leaf) (d : Bool) → clean_body negatable b ≡ true → refusal_body d b ≡ none
  clean-body (group k a) d e = clean-walks a d e
  clean-body (binary_group k a b) d e =
      binary-both k d (λ c. first_refusal c a) (λ c. first_refusal c b)
      (λ c. clean-walks a c (and_left _ _ e)) (λ c. clean-walks b c (and_right (clean a) _ e))

  pub clean-walks : (t : Tree) (d : Bool) → clean t ≡ true → first_refusal d t ≡ none
  clean-walks nil d e = refl
  clean-walks (cons n l) d e =
      order-both d (refusal_node d n) (first_refusal d l) (clean-node n d (and_left _ _ e)) (clean-walks l d (and_right (clean_node negatable n) _ e))

pub clean-unrolls : (t : Tree) → clean t ≡ true → flatten t ≡ result (flat undo false t)
clean-unrolls t e = flatten-is t false ∙ ap (λ (r : Option ℕ). verdict r (flat undo false t)) (clean-walks t false e)

-- A tree that unrolls in one direction, to steps that can all be undone, is clean.
every-left : {A : Type 0} (p : A → Bool) (a b : List A) → every p (a ++ b) ≡ true → every p a ≡ true
every-left p a b e = and_left (every p a) (every p b) (sym (every_append p a b) ∙ e)

every-right : {A : Type 0} (p : A → Bool) (a b : List A) → every p (a ++ b) ≡ true → every p b ≡ true
every-right p a b e = and_right (every p a) (every p b) (sym (every_append p a b) ∙ e)

order-every-left : (d : Bool) (a b : List Leaf) → every negatable (in_order d a b) ≡ true → every negatable a ≡ true
order-every-left true a b e = every-right negatable b a e
order-every-left false a b e = every-left negatable a b e

order-every-right : (d : Bool) (a b : List Leaf) → every negatable (in_order d a b) ≡ true → every negatable b ≡ true
order-every-right true a b e = every-left negatable b a e
order-every-right false a b e = every-right negatable a b e

-- a leaf that no inverse refuses can be undone
pub unrefused : (x : Leaf) → leaf_refusal x ≡ none → negatable x ≡ true
unrefused x r = go (overflows x) r
  where
    go : (t : Bool) → pick t (some OVERFLOW) none ≡ none → not t ≡ true
    go true h = no-some h
    go false h = refl

leaf-clean : (x : Leaf) (d : Bool) → refusal_node d (leaf x) ≡ none → every negatable (flat_node undo d (leaf x)) ≡ true → negatable x ≡ true
unfolding refusal_node flat_node every
leaf-clean x true r e = unrefused x r
leaf-clean x false r e = and_left _ _ e

pub niss-clean : (t : Bool) (q : Option ℕ) → pick t (some NISS) q ≡ none → (not t ≡ true) × (q ≡ none)
niss-clean true q e = no-some e
niss-clean false q e = (refl, e)

reached-clean : (n : ℕ) (q : Option ℕ) (l : List Leaf) (b : Bool) → if_reached n q ≡ none → every negatable (copies n l) ≡ true →
    (q ≡ none → every negatable l ≡ true → b ≡ true) → all_if_reached n b ≡ true
unfolding copies
reached-clean zero q l b r e h = refl
reached-clean (suc n) q l b r e h = h r (every-left negatable l (copies n l) e)

binary-clean : (k : BinaryGroupKind) (d : Bool) (a b : Bool → Option ℕ) (la lb : Bool → List Leaf) (x y : Bool) →
    refusal_binary k d a b ≡ none → every negatable (flat_binary k d la lb) ≡ true →
    ((e : Bool) → a e ≡ none → every negatable (la e) ≡ true → x ≡ true) →
    ((e : Bool) → b e ≡ none → every negatable (lb e) ≡ true → y ≡ true) → (x && y) ≡ true
binary-clean Commutator false a b la lb x y r e p q =
    and_both x y (p false (first-left _ _ r) (every-left negatable (la false) _ e))
    (q false (first-left _ _ (first-right (a false) _ r)) (every-left negatable (lb false) _ (every-right negatable (la false) _ e)))
binary-clean Commutator true a b la lb x y r e p q =
    and_both x y (p false (first-left _ _ (first-right (b false) _ r)) (every-left negatable (la false) _ (every-right negatable (lb false) _ e)))
    (q false (first-left _ _ r) (every-left negatable (lb false) _ e))
binary-clean Conjugate d a b la lb x y r e p q =
    and_both x y (p false (first-left _ _ r) (every-left negatable (la false) _ e))
    (q d (first-left _ _ (first-right (a false) _ r)) (every-left negatable (lb d) _ (every-right negatable (la false) _ e)))

mutual
  unfolding clean_node clean_body clean_nodes refusal_node refusal_body first_refusal flat_node flat_body flat

  node-clean : (n : Node Leaf) (d : Bool) → refusal_node d n ≡ none → every negatable (flat_node undo d n) ≡ true → clean_node negatable n ≡ true
  node-clean (leaf x) d r e = leaf-clean x d r e
  node-clean (block b m) d r e =
      and_both (not (is_niss b)) _ (niss-clean (is_niss b) _ r).0
      (reached-clean (nat_abs m) (refusal_body (turned m d) b) (flat_body undo (turned m d) b) (clean_body negatable b) (niss-clean (is_niss b) _ r).1
      (subst (λ (t : Bool). every negatable (copies (pick t 0 (nat_abs m)) (flat_body undo (turned m d) b)) ≡ true) (not-true (is_niss b) (niss-clean (is_niss b) _ r).0) e)
      (λ q h. body_clean b (turned m d) q h))

  body_clean : (b : Body Leaf) (d : Bool) → refusal_body d b ≡ none → every negatable (flat_body undo d b) ≡ true → clean_body negatable b ≡ true
  body_clean (group k a) d r e = walks-clean a d r e
  body_clean (binary_group k a b) d r e =
      binary-clean k d (λ c. first_refusal c a) (λ c. first_refusal c b) (λ c. flat undo c a) (λ c. flat undo c b) (clean a) (clean b) r e
      (λ c q h. walks-clean a c q h) (λ c q h. walks-clean b c q h)

  pub walks-clean : (t : Tree) (d : Bool) → first_refusal d t ≡ none → every negatable (flat undo d t) ≡ true → clean t ≡ true
  walks-clean nil d r e = refl
  walks-clean (cons n l) d r e =
      and_both (clean_node negatable n) _ (node-clean n d (order-left d _ _ r) (order-every-left d (flat_node undo d n) (flat undo d l) e))
      (walks-clean l d (order-right d (refusal_node d n) _ r) (order-every-right d (flat_node undo d n) (flat undo d l) e))

-- The shallow inverse of a clean tree is accepted and unrolls.
pub clean-inverts : (t : Tree) → clean t ≡ true → inv_refusal t ≡ none
unfolding clean_nodes clean_node inv_refusal
clean-inverts nil e = refl
clean-inverts (cons (leaf x) l) e =
    first-both (inv_refusal l) _ (clean-inverts l (and_right (negatable x) _ e))
    (overflow-or true (overflows x) (not-true (overflows x) (and_left _ _ e)))
clean-inverts (cons (block b m) l) e =
    first-both (inv_refusal l) _ (clean-inverts l (and_right (clean_node negatable (block b m)) _ e)) refl

refusal-append : (a b : Tree) → first_refusal false a ≡ none → first_refusal false b ≡ none → first_refusal false (append a b) ≡ none
unfolding first_refusal append
refusal-append nil b p q = q
refusal-append (cons n a) b p q = first-both (refusal_node false n) _ (first-left _ _ p) (refusal-append a b (first-right (refusal_node false n) _ p) q)

node-inverted-walks : (n : Node Leaf) → clean_node negatable n ≡ true → refusal_node false (inverted_node n) ≡ none
unfolding refusal_node clean_node
node-inverted-walks (leaf x) e = refl
node-inverted-walks (block b m) e =
    niss-or (is_niss b) _ (not-true (is_niss b) (and_left _ _ e))
    (if-reached (nat_abs (neg_ℤ m)) (clean_body negatable b) _ (rw (nat_abs-neg m) (and_right (not (is_niss b)) _ e)) (λ h. clean-body b (turned (neg_ℤ m) false) h))

pub inverted-walks : (t : Tree) → clean t ≡ true → first_refusal false (inverted t) ≡ none
unfolding clean_nodes inverted first_refusal
inverted-walks nil e = refl
inverted-walks (cons n l) e =
    refusal-append (inverted l) (cons (inverted_node n) nil) (inverted-walks l (and_right (clean_node negatable n) _ e))
    (first-both (refusal_node false (inverted_node n)) none (node-inverted-walks n (and_left _ _ e)) refl)

-- From an unrolled list, all of whose steps can be undone, to the inverse's unrolled list.
pub verdict-list : {A : Type 0} (r : Option ℕ) (l m : A) → verdict r l ≡ result m → (r ≡ none) × (l ≡ m)
verdict-list none l m e = (refl, cc)
verdict-list (some r) l m e = no-refusal e

pub unrolled-list : (t : Tree) (list : List Leaf) → flatten t ≡ result list → (first_refusal false t ≡ none) × (flat undo false t ≡ list)
unrolled-list t list e = verdict-list (first_refusal false t) (flat undo false t) list (sym (flatten-is t false) ∙ e)

pub unrollable-clean : (t : Tree) (list : List Leaf) → flatten t ≡ result list → every negatable list ≡ true → clean t ≡ true
unrollable-clean t list e h =
    walks-clean t false (unrolled-list t list e).0 (ap (every negatable) (unrolled-list t list e).1 ∙ h)

pub inverse-accepted : (t : Tree) → clean t ≡ true → inv t ≡ result (inverted t)
inverse-accepted t e = inv-is t ∙ ap (λ (r : Option ℕ). verdict r (inverted t)) (clean-inverts t e)

-- Being clean does not depend on the text.
module _ {L M : Type 0} (g : L → M) (p : L → Bool) (q : M → Bool) (keeps : (x : L) → q (g x) ≡ p x) where
  mutual
    unfolding clean_node clean_body clean_nodes map_node map_body map_nodes

    clean_node-map : (n : Node L) → clean_node q (map_node g n) ≡ clean_node p n
    clean_node-map (leaf x) = keeps x
    clean_node-map (block b m) =
        ap₂ (λ (x y : Bool). not x && all_if_reached (nat_abs m) y) (is_niss-map g b) (clean_body-map b)

    clean_body-map : (b : Body L) → clean_body q (map_body g b) ≡ clean_body p b
    clean_body-map (group k a) = clean-map a
    clean_body-map (binary_group k a b) = ap₂ (λ (x y : Bool). x && y) (clean-map a) (clean-map b)

    pub clean-map : (t : NodeList L) → clean_nodes q (map_nodes g t) ≡ clean_nodes p t
    clean-map nil = refl
    clean-map (cons n l) = ap₂ (λ (x y : Bool). x && y) (clean_node-map n) (clean-map l)
