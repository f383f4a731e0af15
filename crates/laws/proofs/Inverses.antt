-- Inverses: each is one equation with a plain inverse and its first refusal; the shallow and the deep inverse unroll in the other
-- direction; inverting twice gives the tree back. Assumes nothing.
use Prim.Native.Nat.{ℕ, zero, suc}
use mathlib.Core.Path.{◌≡◌, refl, sym, ap, ◌∙◌}
use mathlib.Core.Bool.{Bool, true, false, not}
use mathlib.Core.List.{List, [], ◌∷◌, ◌++◌, append_assoc, append-nil}
use mathlib.Core.Option.{Option, none, some}
use lib.IntN.{ℤ, pos, negsuc, nat_abs, neg_ℤ-neg_ℤ}
use Rattle.notation.specs.Basics.{pick}
use Rattle.notation.specs.Refusals.{Outcome, refusal, result, ◌>>=◌, OVERFLOW}
use Rattle.notation.specs.Tree.{Leaf, Node, leaf, block, Body, group, binary_group, NodeList, nil, cons, append, Tree}
use Rattle.notation.specs.Invert.{undo, undone, overflows, then_last, as_leaf, inv_node, inv, deep_group, deep_binary, inv_deep_node, inv_deep_body, inv_deep}
use Rattle.notation.specs.Unroll.{copies, turned, is_niss}
use Rattle.notation.specs.Counts.{times}
use Rattle.notation.specs.declared.common.GroupKind.{GroupKind}
use Rattle.notation.specs.declared.common.GroupKind.TheVariants.{Simple, Macro, Simultaneous, Niss}
use Rattle.notation.specs.declared.common.BinaryGroupKind.{BinaryGroupKind}
use Rattle.notation.specs.declared.common.BinaryGroupKind.TheVariants.{Commutator, Conjugate}
use Rattle.laws.specs.Unrolled.{backwards, first, in_order, flat_binary, flat_node, flat_body, flat}
use Rattle.laws.proofs.Unrolling.{undo-undo, verdict, flat-backwards}
use Rattle.laws.specs.Inverted.{inverted_node, inverted, leaf_refusal, inv_refusal_node, inv_refusal, deep_body, deeply_node, deeply_body, deeply, niss_first, conjugate_only, deep_refusal_node, deep_refusal_body, deep_refusal}

last-verdict : (r q : Option ℕ) (l : Tree) (n : Node Leaf) →
    then_last (verdict r l) (verdict q n) ≡ verdict (first r q) (append l (cons n nil))
last-verdict none none l n = refl
last-verdict none (some q) l n = refl
last-verdict (some r) none l n = refl
last-verdict (some r) (some q) l n = refl

leaf-verdict : (x : Leaf) → as_leaf (undone x) ≡ verdict (leaf_refusal x) (leaf (undo x))
leaf-verdict x = go (overflows x)
  where
    go : (b : Bool) → as_leaf (pick b (refusal OVERFLOW) (result (undo x))) ≡ verdict (pick b (some OVERFLOW) none) (leaf (undo x))
    go true = refl
    go false = refl

node-verdict : (n : Node Leaf) → inv_node n ≡ verdict (inv_refusal_node n) (inverted_node n)
node-verdict (leaf x) = leaf-verdict x
node-verdict (block b m) = refl

pub inv-is : (t : Tree) → inv t ≡ verdict (inv_refusal t) (inverted t)
unfolding inv inverted inv_refusal
inv-is nil = refl
inv-is (cons n l) =
    ap (λ (o : Outcome Tree). then_last o (inv_node n)) (inv-is l)
    ∙ ap (then_last (verdict (inv_refusal l) (inverted l))) (node-verdict n)
    ∙ last-verdict (inv_refusal l) (inv_refusal_node n) (inverted l) (inverted_node n)

-- Appended lists unroll one after the other.
pub flat_append : {L : Type 0} (u : L → L) (a b : NodeList L) (d : Bool) → flat u d (append a b) ≡ in_order d (flat u d a) (flat u d b)
unfolding append flat
flat_append u nil b true = sym (append-nil (flat u true b))
flat_append u nil b false = refl
flat_append u (cons n a) b true = rw (flat_append u a b true, append_assoc)
flat_append u (cons n a) b false = rw (flat_append u a b false, append_assoc)

-- The inverse unrolls as the tree does in the other direction.
pub flat_node-inverted : (n : Node Leaf) (d : Bool) → flat_node undo d (inverted_node n) ≡ flat_node undo (not d) n
unfolding flat_node copies
flat_node-inverted (leaf x) true = ap (λ (y : Leaf). y ∷ []) (undo-undo x)
flat_node-inverted (leaf x) false = refl
flat_node-inverted (block b (pos zero)) d = go (is_niss b)
  where
    go : (t : Bool) → copies (pick t 0 0) (flat_body undo d b) ≡ copies (pick t 0 0) (flat_body undo (not d) b)
    go true = refl
    go false = refl
flat_node-inverted (block b (pos (suc n))) d = refl
flat_node-inverted (block b (negsuc n)) true = refl
flat_node-inverted (block b (negsuc n)) false = refl

order-not : (d : Bool) (a b : List Leaf) → in_order d b a ≡ in_order (not d) a b
order-not true a b = refl
order-not false a b = refl

order-nil : (d : Bool) (a : List Leaf) → in_order d a [] ≡ a
order-nil true a = refl
order-nil false a = append-nil a

pub flat-inverted : (t : Tree) (d : Bool) → flat undo d (inverted t) ≡ flat undo (not d) t
unfolding inverted flat
flat-inverted nil d = refl
flat-inverted (cons n l) d =
    flat_append undo (inverted l) (cons (inverted_node n) nil) d
    ∙ ap (in_order d (flat undo d (inverted l))) (order-nil d (flat_node undo d (inverted_node n)) ∙ flat_node-inverted n d)
    ∙ ap (λ (s : List Leaf). in_order d s (flat_node undo (not d) n)) (flat-inverted l d)
    ∙ order-not d (flat_node undo (not d) n) (flat undo (not d) l)

-- the shallow inverse unrolls to the reversed list of undone steps
pub inverse-unrolls : (t : Tree) → flat undo false (inverted t) ≡ backwards (flat undo false t)
inverse-unrolls t = flat-inverted t false ∙ flat-backwards t false

-- Inverting twice gives the tree back, both ways.
inverted_node-twice : (n : Node Leaf) → inverted_node (inverted_node n) ≡ n
inverted_node-twice (leaf x) = ap leaf (undo-undo x)
inverted_node-twice (block b m) = ap (block b) (neg_ℤ-neg_ℤ m)

pub append-assoc-nodes : (a b c : Tree) → append (append a b) c ≡ append a (append b c)
unfolding append
append-assoc-nodes nil b c = refl
append-assoc-nodes (cons n a) b c = ap (cons n) (append-assoc-nodes a b c)

pub append-nil-nodes : (a : Tree) → append a nil ≡ a
unfolding append
append-nil-nodes nil = refl
append-nil-nodes (cons n a) = ap (cons n) (append-nil-nodes a)

-- An inverse f that makes of each node what g gives, and walks from the last to the first: of what stands behind something the inverse stands
-- before, and twice over it gives a list back where it does so of the first node and of the rest.
module _ (f : Tree → Tree) (g : Node Leaf → Node Leaf) (empty : f nil ≡ nil) (more : (n : Node Leaf) (l : Tree) → f (cons n l) ≡ append (f l) (cons (g n) nil)) where
  reversed-append : (a b : Tree) → f (append a b) ≡ append (f b) (f a)
  unfolding append
  reversed-append nil b = sym (ap (append (f b)) empty ∙ append-nil-nodes (f b))
  reversed-append (cons n a) b =
      more n (append a b)
      ∙ ap (λ (t : Tree). append t (cons (g n) nil)) (reversed-append a b)
      ∙ append-assoc-nodes (f b) (f a) (cons (g n) nil)
      ∙ ap (append (f b)) (sym (more n a))

  reversed-twice : (n : Node Leaf) (l : Tree) → g (g n) ≡ n → f (f l) ≡ l → f (f (cons n l)) ≡ cons n l
  unfolding append
  reversed-twice n l e h =
      ap f (more n l)
      ∙ reversed-append (f l) (cons (g n) nil)
      ∙ ap (λ (t : Tree). append t (f (f l))) (more (g n) nil ∙ ap (λ (t : Tree). append t (cons (g (g n)) nil)) empty)
      ∙ (λ i. cons (e i) (h i))

pub inverted-twice : (t : Tree) → inverted (inverted t) ≡ t
unfolding inverted
inverted-twice nil = refl
inverted-twice (cons n l) = reversed-twice inverted inverted_node refl (λ n l. refl) n l (inverted_node-twice n) (inverted-twice l)

pub inverted-append : (a b : Tree) → inverted (append a b) ≡ append (inverted b) (inverted a)
unfolding inverted
inverted-append = reversed-append inverted inverted_node refl (λ n l. refl)

mutual
  unfolding deeply_node deeply_body deeply

  deeply_node-twice : (n : Node Leaf) → deeply_node (deeply_node n) ≡ n
  deeply_node-twice (leaf x) = ap leaf (undo-undo x)
  deeply_node-twice (block b m) = ap (λ (c : Body Leaf). block c m) (deeply_body-twice b)

  deeply_body-twice : (b : Body Leaf) → deeply_body (deeply_body b) ≡ b
  deeply_body-twice (group k a) = ap (group k) (deeply-twice a)
  deeply_body-twice (binary_group Commutator a b) = refl
  deeply_body-twice (binary_group Conjugate a b) = ap (binary_group Conjugate a) (deeply-twice b)

  pub deeply-twice : (t : Tree) → deeply (deeply t) ≡ t
  deeply-twice nil = refl
  deeply-twice (cons n l) = reversed-twice deeply deeply_node refl (λ n l. refl) n l (deeply_node-twice n) (deeply-twice l)

block-verdict : (r : Option ℕ) (b : Body Leaf) (m : ℤ) → ◌>>=◌ (verdict r b) (λ b'. result (block b' m)) ≡ verdict r (block b m)
block-verdict none b m = refl
block-verdict (some r) b m = refl

group-verdict : (k : GroupKind) (r : Option ℕ) (a : Tree) → deep_group k (verdict r a) ≡ verdict (niss_first k r) (group k a)
group-verdict Niss r a = refl
group-verdict Simple none a = refl
group-verdict Simple (some r) a = refl
group-verdict Macro none a = refl
group-verdict Macro (some r) a = refl
group-verdict Simultaneous none a = refl
group-verdict Simultaneous (some r) a = refl

binary-verdict : (k : BinaryGroupKind) (a b b' : Tree) (r : Option ℕ) → deep_binary k a b (verdict r b') ≡ verdict (conjugate_only k r) (deep_body k a b b')
binary-verdict Commutator a b b' r = refl
binary-verdict Conjugate a b b' none = refl
binary-verdict Conjugate a b b' (some r) = refl

mutual
  unfolding inv_deep_node inv_deep_body inv_deep deeply_node deeply_body deeply deep_refusal_node deep_refusal_body deep_refusal

  inv_deep_node-is : (n : Node Leaf) → inv_deep_node n ≡ verdict (deep_refusal_node n) (deeply_node n)
  inv_deep_node-is (leaf x) = leaf-verdict x
  inv_deep_node-is (block b m) =
      ap (λ (o : Outcome (Body Leaf)). ◌>>=◌ o (λ b'. result (block b' m))) (inv_deep_body-is b)
      ∙ block-verdict (deep_refusal_body b) (deeply_body b) m

  inv_deep_body-is : (b : Body Leaf) → inv_deep_body b ≡ verdict (deep_refusal_body b) (deeply_body b)
  inv_deep_body-is (group k a) = ap (deep_group k) (inv_deep-is a) ∙ group-verdict k (deep_refusal a) (deeply a)
  inv_deep_body-is (binary_group k a b) = ap (deep_binary k a b) (inv_deep-is b) ∙ binary-verdict k a b (deeply b) (deep_refusal b)

  pub inv_deep-is : (t : Tree) → inv_deep t ≡ verdict (deep_refusal t) (deeply t)
  inv_deep-is nil = refl
  inv_deep-is (cons n l) =
      ap (λ (o : Outcome Tree). then_last o (inv_deep_node n)) (inv_deep-is l)
      ∙ ap (then_last (verdict (deep_refusal l) (deeply l))) (inv_deep_node-is n)
      ∙ last-verdict (deep_refusal l) (deep_refusal_node n) (deeply l) (deeply_node n)

-- The deep inverse unrolls to the same list as the shallow one, in either direction.
turned-not : (m : ℤ) (d : Bool) → not (turned m d) ≡ turned m (not d)
turned-not (pos n) d = refl
turned-not (negsuc n) d = refl

commutator-exchanged : (d : Bool) (a b : Bool → List Leaf) → flat_binary Commutator d b a ≡ flat_binary Commutator (not d) a b
commutator-exchanged true a b = refl
commutator-exchanged false a b = refl

pub niss-deeply : (b : Body Leaf) → is_niss (deeply_body b) ≡ is_niss b
unfolding deeply_body
niss-deeply (group Simple a) = refl
niss-deeply (group Macro a) = refl
niss-deeply (group Simultaneous a) = refl
niss-deeply (group Niss a) = refl
niss-deeply (binary_group Commutator a b) = refl
niss-deeply (binary_group Conjugate a b) = refl

mutual
  unfolding deeply_node deeply_body deeply flat_node flat_body flat

  flat_node-deeply : (n : Node Leaf) (d : Bool) → flat_node undo d (deeply_node n) ≡ flat_node undo (not d) n
  flat_node-deeply (leaf x) d = flat_node-inverted (leaf x) d
  flat_node-deeply (block b m) d =
      ap (λ (t : Bool). copies (pick t 0 (nat_abs m)) (flat_body undo (turned m d) (deeply_body b))) (niss-deeply b)
      ∙ ap (copies (times b m)) (flat_body-deeply b (turned m d) ∙ ap (λ (e : Bool). flat_body undo e b) (turned-not m d))

  flat_body-deeply : (b : Body Leaf) (d : Bool) → flat_body undo d (deeply_body b) ≡ flat_body undo (not d) b
  flat_body-deeply (group k a) d = flat-deeply a d
  flat_body-deeply (binary_group Commutator a b) d = commutator-exchanged d (λ e. flat undo e a) (λ e. flat undo e b)
  flat_body-deeply (binary_group Conjugate a b) d =
      ap (λ (s : List Leaf). flat undo false a ++ (s ++ flat undo true a)) (flat-deeply b d)

  pub flat-deeply : (t : Tree) (d : Bool) → flat undo d (deeply t) ≡ flat undo (not d) t
  flat-deeply nil d = refl
  flat-deeply (cons n l) d =
      flat_append undo (deeply l) (cons (deeply_node n) nil) d
      ∙ ap (in_order d (flat undo d (deeply l))) (order-nil d (flat_node undo d (deeply_node n)) ∙ flat_node-deeply n d)
      ∙ ap (λ (s : List Leaf). in_order d s (flat_node undo (not d) n)) (flat-deeply l d)
      ∙ order-not d (flat_node undo (not d) n) (flat undo (not d) l)

pub deep-is-shallow : (t : Tree) (d : Bool) → flat undo d (deeply t) ≡ flat undo d (inverted t)
deep-is-shallow t d = flat-deeply t d ∙ sym (flat-inverted t d)
