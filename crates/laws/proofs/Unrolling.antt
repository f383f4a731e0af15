-- Unrolling and direction: the walk with refusals is one equation with a walk without, and the other direction gives the
-- reversed list of undone steps. Assumes nothing.
use Prim.Native.Nat.{ℕ, zero, suc}
use mathlib.Core.Path.{◌≡◌, refl, sym, ap, ◌∙◌, fun_ext}
use mathlib.Core.Bool.{Bool, true, false, not, ◌&&◌}
use mathlib.Core.List.{List, [], ◌∷◌, ◌++◌, map, append_assoc, append-nil, reverse-append, reverse-cons, map-append}
use mathlib.Core.Option.{Option, none, some}
use lib.IntN.{ℤ, pos, negsuc, nat_abs, neg_ℤ-neg_ℤ}
use lib.ListN.{length, length-map, length-reverse}
use Rattle.notation.specs.Basics.{pick}
use Rattle.notation.specs.Refusals.{Outcome, refusal, result, ◌>>=◌, NISS, OVERFLOW}
use Rattle.notation.specs.Tree.{LeafOf, rotation, move, pause, pair, slash, megaminx, Leaf, Node, leaf, block, Body, group, binary_group, NodeList, nil, cons, Tree, map_node, map_body, map_nodes}
use Rattle.notation.specs.Invert.{undo, undone, overflows, exchanged}
use Rattle.notation.specs.Counts.{times}
use Rattle.notation.specs.Unroll.{Steps, ◌then◌, copies, repeated, turned, flatten_binary, is_niss, in_direction, flatten_leaf, flatten_node, flatten_body, flatten_nodes}
use Rattle.notation.specs.declared.common.GroupKind.TheVariants.{Simple, Macro, Simultaneous, Niss}
use Rattle.notation.specs.declared.common.BinaryGroupKind.{BinaryGroupKind}
use Rattle.notation.specs.declared.common.BinaryGroupKind.TheVariants.{Commutator, Conjugate}
use Rattle.notation.specs.declared.common.MegaminxScrambleMove.{MegaminxScrambleMove}
use Rattle.notation.specs.declared.common.MegaminxScrambleMove.TheVariants.{Rpp, Rmm, Dpp, Dmm}
use Rattle.laws.specs.Unrolled.{backwards, flat_binary, in_order, flat_node, flat_body, flat, first, if_reached, refusal_binary, first_in_order, refusal_node, refusal_body, first_refusal}

-- undoing twice gives the step back
exchanged-twice : (k : MegaminxScrambleMove) → exchanged (exchanged k) ≡ k
exchanged-twice Rpp = refl
exchanged-twice Rmm = refl
exchanged-twice Dpp = refl
exchanged-twice Dmm = refl

pub undo-undo : {F C S : Type 0} (x : LeafOf F C S) → undo (undo x) ≡ x
undo-undo (rotation f c m) = ap (rotation f c) (neg_ℤ-neg_ℤ m)
undo-undo (move t l f c m) = ap (move t l f c) (neg_ℤ-neg_ℤ m)
undo-undo pause = refl
undo-undo (pair u d) = λ i. pair (neg_ℤ-neg_ℤ u i) (neg_ℤ-neg_ℤ d i)
undo-undo slash = refl
undo-undo (megaminx k) = ap megaminx (exchanged-twice k)

pub long-backwards : (l : List Leaf) → length (backwards l) ≡ length l
long-backwards l = length-reverse (map undo l) ∙ length-map l undo

pub backwards-append : (a b : List Leaf) → backwards (a ++ b) ≡ backwards b ++ backwards a
backwards-append a b = rw (map-append, reverse-append)

pub backwards-twice : (l : List Leaf) → backwards (backwards l) ≡ l
backwards-twice [] = refl
backwards-twice (x ∷ l) =
    ap backwards (reverse-cons (undo x) (map undo l))
    ∙ backwards-append (backwards l) (undo x ∷ [])
    ∙ (λ i. undo-undo x i ∷ backwards-twice l i)

copies-comm : {A : Type 0} (n : ℕ) (l : List A) → copies n l ++ l ≡ l ++ copies n l
unfolding copies
copies-comm zero l = sym (append-nil l)
copies-comm (suc n) l = rw (append_assoc, copies-comm n l)

pub copies-backwards : (n : ℕ) (l : List Leaf) → backwards (copies n l) ≡ copies n (backwards l)
unfolding copies
copies-backwards zero l = refl
copies-backwards (suc n) l = rw (backwards-append l (copies n l), copies-backwards n l) (copies-comm n (backwards l))

-- One equation: the refusing walk gives the first refusal, and else the plain list.
abbrev pub verdict : {A : Type 0} → Option ℕ → A → Outcome A
verdict none l = result l
verdict (some r) l = refusal r

then-verdict : (r q : Option ℕ) (a b : List Leaf) → verdict r a then verdict q b ≡ verdict (first r q) (a ++ b)
then-verdict none none a b = refl
then-verdict none (some q) a b = refl
then-verdict (some r) none a b = refl
then-verdict (some r) (some q) a b = refl

chain : (r q : Option ℕ) (a b : List Leaf) {s : Steps Leaf} → s ≡ verdict q b → verdict r a then s ≡ verdict (first r q) (a ++ b)
chain r q a b e = ap (λ (s : Steps Leaf). verdict r a then s) e ∙ then-verdict r q a b

order-verdict : (d : Bool) (r q : Option ℕ) (a b : List Leaf) →
    in_direction d (verdict r a) (verdict q b) ≡ verdict (first_in_order d r q) (in_order d a b)
order-verdict false r q a b = then-verdict r q a b
order-verdict true r q a b = then-verdict q r b a

repeated-verdict : (n : ℕ) (r : Option ℕ) (l : List Leaf) → repeated n (verdict r l) ≡ verdict (if_reached n r) (copies n l)
unfolding copies
repeated-verdict zero r l = refl
repeated-verdict (suc n) none l = refl
repeated-verdict (suc n) (some r) l = refl

leaf-verdict : (d : Bool) (x : Leaf) → flatten_leaf undone d x ≡ verdict (pick (d && overflows x) (some OVERFLOW) none) (pick d (undo x) x ∷ [])
leaf-verdict false x = refl
leaf-verdict true x = go (overflows x)
  where
    go : (b : Bool) → ◌>>=◌ (pick b (refusal OVERFLOW) (result (undo x))) (λ x'. result (x' ∷ [])) ≡ verdict (pick b (some OVERFLOW) none) (undo x ∷ [])
    go true = refl
    go false = refl

commutator-verdict : (a b : Bool → Option ℕ) (la lb : Bool → List Leaf) →
    flatten_binary Commutator false (λ e. verdict (a e) (la e)) (λ e. verdict (b e) (lb e))
    ≡ verdict (refusal_binary Commutator false a b) (flat_binary Commutator false la lb)
commutator-verdict a b la lb =
    chain (a false) (first (b false) (first (a true) (b true))) (la false) (lb false ++ (la true ++ lb true))
    (chain (b false) (first (a true) (b true)) (lb false) (la true ++ lb true)
    (then-verdict (a true) (b true) (la true) (lb true)))

binary-verdict : (k : BinaryGroupKind) (d : Bool) (a b : Bool → Option ℕ) (la lb : Bool → List Leaf) →
    flatten_binary k d (λ e. verdict (a e) (la e)) (λ e. verdict (b e) (lb e)) ≡ verdict (refusal_binary k d a b) (flat_binary k d la lb)
binary-verdict Commutator false a b la lb = commutator-verdict a b la lb
binary-verdict Commutator true a b la lb = commutator-verdict b a lb la
binary-verdict Conjugate d a b la lb =
    chain (a false) (first (b d) (a true)) (la false) (lb d ++ la true) (then-verdict (b d) (a true) (lb d) (la true))

niss-verdict : (t : Bool) (n : ℕ) (r : Option ℕ) (l : List Leaf) →
    pick t (refusal NISS) (verdict r (copies n l)) ≡ verdict (pick t (some NISS) r) (copies (pick t 0 n) l)
niss-verdict true n r l = refl
niss-verdict false n r l = refl

mutual
  unfolding flatten_node flatten_body flatten_nodes flat_node flat_body flat refusal_node refusal_body first_refusal

  pub flatten_node-is : (n : Node Leaf) (d : Bool) → flatten_node undone d n ≡ verdict (refusal_node d n) (flat_node undo d n)
  flatten_node-is (leaf x) d = leaf-verdict d x
  flatten_node-is (block b m) d =
      ap (λ (s : Steps Leaf). pick (is_niss b) (refusal NISS) (repeated (nat_abs m) s)) (flatten_body-is b (turned m d))
      ∙ ap (pick (is_niss b) (refusal NISS)) (repeated-verdict (nat_abs m) (refusal_body (turned m d) b) (flat_body undo (turned m d) b))
      ∙ niss-verdict (is_niss b) (nat_abs m) _ _

  pub flatten_body-is : (b : Body Leaf) (d : Bool) → flatten_body undone d b ≡ verdict (refusal_body d b) (flat_body undo d b)
  flatten_body-is (group k a) d = flatten-is a d
  flatten_body-is (binary_group k a b) d =
      ap (λ (f : Bool → Steps Leaf). flatten_binary k d f (λ e. flatten_nodes undone e b)) (fun_ext λ e. flatten-is a e)
      ∙ ap (λ (g : Bool → Steps Leaf). flatten_binary k d (λ e. verdict (first_refusal e a) (flat undo e a)) g) (fun_ext λ e. flatten-is b e)
      ∙ binary-verdict k d (λ e. first_refusal e a) (λ e. first_refusal e b) (λ e. flat undo e a) (λ e. flat undo e b)

  pub flatten-is : (t : Tree) (d : Bool) → flatten_nodes undone d t ≡ verdict (first_refusal d t) (flat undo d t)
  flatten-is nil d = refl
  flatten-is (cons n l) d =
      ap (λ (s : Steps Leaf). in_direction d s (flatten_nodes undone d l)) (flatten_node-is n d)
      ∙ ap (λ (s : Steps Leaf). in_direction d (verdict (refusal_node d n) (flat_node undo d n)) s) (flatten-is l d)
      ∙ order-verdict d (refusal_node d n) (first_refusal d l) (flat_node undo d n) (flat undo d l)

-- The other direction: the reversed list of undone steps.
turned-not : (m : ℤ) (d : Bool) → turned m (not d) ≡ not (turned m d)
turned-not (pos n) d = refl
turned-not (negsuc n) d = refl

leaf-backwards : (d : Bool) (x : Leaf) → pick (not d) (undo x) x ∷ [] ≡ backwards (pick d (undo x) x ∷ [])
leaf-backwards true x = ap (λ (y : Leaf). y ∷ []) (sym (undo-undo x))
leaf-backwards false x = refl

order-backwards : (d : Bool) (a b : List Leaf) → in_order (not d) (backwards a) (backwards b) ≡ backwards (in_order d a b)
order-backwards true a b = sym (backwards-append b a)
order-backwards false a b = sym (backwards-append a b)

binary-backwards : (k : BinaryGroupKind) (d : Bool) (a b : Bool → List Leaf) →
    ((e : Bool) → a (not e) ≡ backwards (a e)) → ((e : Bool) → b (not e) ≡ backwards (b e)) →
    flat_binary k (not d) a b ≡ backwards (flat_binary k d a b)
binary-backwards Commutator false a b ha hb =
    rw (backwards-append (a false) _, backwards-append (b false) _, backwards-append (a true) _, ← ha false, ← hb false, ← ha true, ← hb true) (simp append_assoc)
binary-backwards Commutator true a b ha hb =
    rw (backwards-append (b false) _, backwards-append (a false) _, backwards-append (b true) _, ← ha false, ← hb false, ← ha true, ← hb true) (simp append_assoc)
binary-backwards Conjugate d a b ha hb =
    rw (backwards-append (a false) _, backwards-append (b d) _, ← ha false, ← hb d, ← ha true) (simp append_assoc)

mutual
  unfolding flat_node flat_body flat

  pub flat_node-backwards : (n : Node Leaf) (d : Bool) → flat_node undo (not d) n ≡ backwards (flat_node undo d n)
  flat_node-backwards (leaf x) d = leaf-backwards d x
  flat_node-backwards (block b m) d =
      ap (λ (e : Bool). copies (times b m) (flat_body undo e b)) (turned-not m d)
      ∙ ap (copies (times b m)) (flat_body-backwards b (turned m d))
      ∙ sym (copies-backwards (times b m) (flat_body undo (turned m d) b))

  pub flat_body-backwards : (b : Body Leaf) (d : Bool) → flat_body undo (not d) b ≡ backwards (flat_body undo d b)
  flat_body-backwards (group k a) d = flat-backwards a d
  flat_body-backwards (binary_group k a b) d =
      binary-backwards k d (λ e. flat undo e a) (λ e. flat undo e b) (λ e. flat-backwards a e) (λ e. flat-backwards b e)

  pub flat-backwards : (t : Tree) (d : Bool) → flat undo (not d) t ≡ backwards (flat undo d t)
  flat-backwards nil d = refl
  flat-backwards (cons n l) d =
      ap (λ (s : List Leaf). in_order (not d) s (flat undo (not d) l)) (flat_node-backwards n d)
      ∙ ap (in_order (not d) (backwards (flat_node undo d n))) (flat-backwards l d)
      ∙ order-backwards d (flat_node undo d n) (flat undo d l)

-- Unrolling commutes with a change of leaves that commutes with undoing.
map-copies : {L M : Type 0} (g : L → M) (n : ℕ) (l : List L) → map g (copies n l) ≡ copies n (map g l)
unfolding copies
map-copies g zero l = refl
map-copies g (suc n) l = map-append g l (copies n l) ∙ ap (λ s. map g l ++ s) (map-copies g n l)

map-order : {L M : Type 0} (g : L → M) (d : Bool) (a b : List L) → map g (in_order d a b) ≡ in_order d (map g a) (map g b)
map-order g true a b = map-append g b a
map-order g false a b = map-append g a b

map-binary : {L M : Type 0} (g : L → M) (k : BinaryGroupKind) (d : Bool) (a b : Bool → List L) →
    map g (flat_binary k d a b) ≡ flat_binary k d (λ e. map g (a e)) (λ e. map g (b e))
map-binary g Commutator false a b = simp map-append
map-binary g Commutator true a b = simp map-append
map-binary g Conjugate d a b = simp map-append

leaf-map : {L M : Type 0} (g : L → M) (u : L → L) (v : M → M) → ((x : L) → v (g x) ≡ g (u x)) → (d : Bool) (x : L) →
    pick d (v (g x)) (g x) ∷ [] ≡ map g (pick d (u x) x ∷ [])
leaf-map g u v h true x = ap (λ y. y ∷ []) (h x)
leaf-map g u v h false x = refl

pub is_niss-map : {L M : Type 0} (g : L → M) (b : Body L) → is_niss (map_body g b) ≡ is_niss b
unfolding map_body
is_niss-map g (group Simple a) = refl
is_niss-map g (group Macro a) = refl
is_niss-map g (group Simultaneous a) = refl
is_niss-map g (group Niss a) = refl
is_niss-map g (binary_group k a b) = refl

mutual
  unfolding flat_node flat_body flat map_node map_body map_nodes

  flat_node-map : {L M : Type 0} (n : Node L) (g : L → M) (u : L → L) (v : M → M) (h : (x : L) → v (g x) ≡ g (u x)) (d : Bool) →
      flat_node v d (map_node g n) ≡ map g (flat_node u d n)
  flat_node-map (leaf x) g u v h d = leaf-map g u v h d x
  flat_node-map (block b m) g u v h d =
      ap (λ (t : Bool). copies (pick t 0 (nat_abs m)) (flat_body v (turned m d) (map_body g b))) (is_niss-map g b)
      ∙ ap (copies (times b m)) (flat_body-map b g u v h (turned m d)) ∙ sym (map-copies g (times b m) (flat_body u (turned m d) b))

  flat_body-map : {L M : Type 0} (b : Body L) (g : L → M) (u : L → L) (v : M → M) (h : (x : L) → v (g x) ≡ g (u x)) (d : Bool) →
      flat_body v d (map_body g b) ≡ map g (flat_body u d b)
  flat_body-map (group k a) g u v h d = flat_map a g u v h d
  flat_body-map (binary_group k a b) g u v h d =
      ap (λ f. flat_binary k d f (λ e. flat v e (map_nodes g b))) (fun_ext λ e. flat_map a g u v h e)
      ∙ ap (λ f. flat_binary k d (λ e. map g (flat u e a)) f) (fun_ext λ e. flat_map b g u v h e)
      ∙ sym (map-binary g k d (λ e. flat u e a) (λ e. flat u e b))

  pub flat_map : {L M : Type 0} (t : NodeList L) (g : L → M) (u : L → L) (v : M → M) (h : (x : L) → v (g x) ≡ g (u x)) (d : Bool) →
      flat v d (map_nodes g t) ≡ map g (flat u d t)
  flat_map nil g u v h d = refl
  flat_map (cons n l) g u v h d =
      ap (λ s. in_order d s (flat v d (map_nodes g l))) (flat_node-map n g u v h d)
      ∙ ap (in_order d (map g (flat_node u d n))) (flat_map l g u v h d)
      ∙ sym (map-order g d (flat_node u d n) (flat u d l))
