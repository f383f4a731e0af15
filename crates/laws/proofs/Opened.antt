-- Opened lists: a property that undoing keeps holds of every step of a list exactly where it holds of every played leaf, so also where
-- the record of a group that does not count 0 is replaced by its lists. Said over `flat` and not over `flatten`, because an opened list
-- may be refused 8 where the tree is not: what stands in two groups of multiplier −1 is played forward, but inverted once the outer one
-- is opened. Assumes nothing.
use Prim.Native.Nat.{ℕ, zero, suc, ◌*◌}
use mathlib.Core.Path.{◌≡◌, refl, sym, ap, ap₂, ◌∙◌}
use mathlib.Core.Bool.{Bool, true, false, ◌&&◌, and-true, and-false, and_self, and_comm}
use mathlib.Core.List.{List, [], ◌∷◌, ◌++◌, append-nil, append_assoc}
use native.Mathlib.Nat.{zero-mul}
use borrow.Author.Tests.{ne_eqb, eqb-true, eqb-false}
use lib.Dec.{eqb}
use lib.IntN.{ℤ}
use Rattle.notation.specs.Basics.{pick, every}
use Rattle.notation.specs.Tree.{Node, leaf, block, Body, group, binary_group, NodeList, nil, cons, append}
use Rattle.notation.specs.Counts.{times, count_node, count_body}
use Rattle.notation.specs.Unroll.{copies, turned}
use Rattle.notation.specs.declared.common.BinaryGroupKind.{BinaryGroupKind}
use Rattle.notation.specs.declared.common.BinaryGroupKind.TheVariants.{Commutator, Conjugate}
use Rattle.laws.specs.Unrolled.{in_order, flat_binary, flat_node, flat_body, flat}
use Rattle.laws.specs.Opened.{played_node, played_body, played, opened}
use Rattle.laws.proofs.ListEntries.{every_append}
use Rattle.laws.proofs.Counting.{none-counted}

-- The played leaves of an opened list are those of the list.
played-append : {L : Type 0} (a b : NodeList L) → played (append a b) ≡ played a ++ played b
unfolding played append
played-append nil b = refl
played-append (cons n a) b = ap (λ s. played_node n ++ s) (played-append a b) ∙ sym (append_assoc (played_node n) (played a) (played b))

played-opened : {L : Type 0} (b : Body L) (m : ℤ) (l : NodeList L) → (count_node (block b m) ≡ 0 → ⊥) →
    played (cons (block b m) l) ≡ played (opened b l)
unfolding played_node played_body played
played-opened (group k a) m l h = rw (ne_eqb (count_node (block (group k a) m)) 0 h) (sym (played-append a l))
played-opened (binary_group k a b) m l h =
    rw (ne_eqb (count_node (block (binary_group k a b) m)) 0 h)
    (append_assoc (played a) (played b) (played l) ∙ ap (λ s. played a ++ s) (sym (played-append b l)) ∙ sym (played-append a (append b l)))

module _ {L : Type 0} (p : L → Bool) where
  every-order : (d : Bool) (a b : List L) → every p (in_order d a b) ≡ (every p a && every p b)
  every-order true a b = every_append p b a ∙ and_comm (every p b) (every p a)
  every-order false a b = every_append p a b

  -- repeats change nothing, unless there are none
  every-copies : (n : ℕ) (l : List L) → every p (copies (suc n) l) ≡ every p l
  unfolding copies every
  every-copies zero l = ap (every p) (append-nil l)
  every-copies (suc n) l = every_append p l (copies (suc n) l) ∙ ap (λ (t : Bool). every p l && t) (every-copies n l) ∙ and_self (every p l)

  every-binary : (k : BinaryGroupKind) (d : Bool) (a b : Bool → List L) (s t : Bool) →
      ((e : Bool) → every p (a e) ≡ s) → ((e : Bool) → every p (b e) ≡ t) → every p (flat_binary k d a b) ≡ (s && t)
  every-binary Commutator false a b s t h i = simp (every_append p, h false, i false, h true, i true) (repeats s t)
    where
      repeats : (s t : Bool) → (s && (t && (s && t))) ≡ (s && t)
      repeats true t = and_self t
      repeats false t = refl
  every-binary Commutator true a b s t h i = simp (every_append p, h false, i false, h true, i true) (repeats s t)
    where
      repeats : (s t : Bool) → (t && (s && (t && s))) ≡ (s && t)
      repeats true true = refl
      repeats true false = refl
      repeats false t = and-false t
  every-binary Conjugate d a b s t h i = simp (every_append p, h false, i d, h true) (repeats s t)
    where
      repeats : (s t : Bool) → (s && (t && s)) ≡ (s && t)
      repeats true t = and-true t
      repeats false t = refl

module _ {L : Type 0} (undo : L → L) where
  -- a node that counts 0 adds nothing
  pub flat-passed : (n : Node L) (l : NodeList L) (d : Bool) → count_node n ≡ 0 → flat undo d (cons n l) ≡ flat undo d l
  unfolding flat
  flat-passed n l d e = ap (λ s. in_order d s (flat undo d l)) (none-counted undo n d e) ∙ go d
    where
      go : (d : Bool) → in_order d [] (flat undo d l) ≡ flat undo d l
      go true = append-nil (flat undo true l)
      go false = refl

  module _ (p : L → Bool) (keeps : (x : L) → p (undo x) ≡ p x) where
    leaf-played : (d : Bool) (x : L) → every p (pick d (undo x) x ∷ []) ≡ every p (x ∷ [])
    unfolding every
    leaf-played true x = ap (λ (t : Bool). t && true) (keeps x)
    leaf-played false x = refl

    -- a group that does not count 0 is played at least once
    block-played : (n c : ℕ) (l r : List L) → every p l ≡ every p r → eqb (n * c) 0 ≡ false → every p (copies n l) ≡ every p r
    block-played zero c l r h e = absurd (eqb-false (0 * c) 0 e (zero-mul c))
    block-played (suc n) c l r h e = every-copies p n l ∙ h

    mutual
      unfolding flat_node flat_body flat played_node played_body played count_node every

      node-played : (n : Node L) (d : Bool) → every p (flat_node undo d n) ≡ every p (played_node n)
      node-played (leaf x) d = leaf-played d x
      node-played (block b m) d = go (eqb (count_node (block b m)) 0) refl (body-played b (turned m d))
        where
          go : (t : Bool) → eqb (count_node (block b m)) 0 ≡ t → every p (flat_body undo (turned m d) b) ≡ every p (played_body b) →
              every p (flat_node undo d (block b m)) ≡ every p (pick t [] (played_body b))
          go true e h = ap (every p) (none-counted undo (block b m) d (eqb-true (count_node (block b m)) 0 e))
          go false e h = block-played (times b m) (count_body b) (flat_body undo (turned m d) b) (played_body b) h e

      body-played : (b : Body L) (d : Bool) → every p (flat_body undo d b) ≡ every p (played_body b)
      body-played (group k a) d = every-played a d
      body-played (binary_group k a b) d =
          every-binary p k d (λ e. flat undo e a) (λ e. flat undo e b) (every p (played a)) (every p (played b))
          (λ e. every-played a e) (λ e. every-played b e)
          ∙ sym (every_append p (played a) (played b))

      pub every-played : (t : NodeList L) (d : Bool) → every p (flat undo d t) ≡ every p (played t)
      every-played nil d = refl
      every-played (cons n l) d =
          every-order p d (flat_node undo d n) (flat undo d l)
          ∙ ap₂ (λ (s t : Bool). s && t) (node-played n d) (every-played l d)
          ∙ sym (every_append p (played_node n) (played l))

    -- The first record of a list: a leaf, a node that counts 0, and a group that does not.
    pub every-leaf : (x : L) (l : NodeList L) (d : Bool) → every p (flat undo d (cons (leaf x) l)) ≡ (p x && every p (flat undo d l))
    unfolding played_node played every
    every-leaf x l d = every-played (cons (leaf x) l) d ∙ ap (λ (t : Bool). p x && t) (sym (every-played l d))

    pub every-passed : (n : Node L) (l : NodeList L) (d : Bool) → count_node n ≡ 0 → every p (flat undo d (cons n l)) ≡ every p (flat undo d l)
    every-passed n l d e = ap (every p) (flat-passed n l d e)

    pub every-opened : (b : Body L) (m : ℤ) (l : NodeList L) (d : Bool) → (count_node (block b m) ≡ 0 → ⊥) →
        every p (flat undo d (cons (block b m) l)) ≡ every p (flat undo d (opened b l))
    every-opened b m l d h = every-played (cons (block b m) l) d ∙ ap (every p) (played-opened b m l h) ∙ sym (every-played (opened b l) d)
