-- Folds: a fold over an unrolled list is what the tree makes of the state, by appended lists, repeats, A B A' B' and A B A', in both
-- directions. Assumes nothing.
use Prim.Native.Nat.{ℕ, zero, suc}
use mathlib.Core.Path.{◌≡◌, refl, ap, ◌∙◌, fun_ext}
use mathlib.Core.Bool.{Bool, true, false}
use mathlib.Core.List.{List, foldl, foldl-append}
use Rattle.notation.specs.Tree.{Node, leaf, block, Body, group, binary_group, NodeList, nil, cons, append}
use Rattle.notation.specs.Counts.{times}
use Rattle.notation.specs.Unroll.{copies, turned}
use Rattle.notation.specs.declared.common.BinaryGroupKind.{BinaryGroupKind}
use Rattle.notation.specs.declared.common.BinaryGroupKind.TheVariants.{Commutator, Conjugate}
use Rattle.laws.specs.Unrolled.{in_order, flat_binary, flat_node, flat_body, flat}
use Rattle.laws.specs.Folds.{again, fold_binary, fold_in_order, fold_node, fold_body, fold_nodes}

module _ {L S : Type 0} (f : S → L → S) where
  -- what a list makes of the state
  abbrev over : List L → S → S
  over l s = foldl f s l

  -- Lists one after the other; `++` itself is `foldl-append` of the library.
  fold-order : (d : Bool) (a b : List L) (s : S) → foldl f s (in_order d a b) ≡ fold_in_order d (over a) (over b) s
  fold-order true a b s = foldl-append f s b a
  fold-order false a b s = foldl-append f s a b

  pub fold-copies : (n : ℕ) (l : List L) (s : S) → foldl f s (copies n l) ≡ again n (over l) s
  unfolding copies again
  fold-copies zero l s = refl
  fold-copies (suc n) l s = foldl-append f s l (copies n l) ∙ fold-copies n l (foldl f s l)

  pub fold-binary : (k : BinaryGroupKind) (d : Bool) (a b : Bool → List L) (s : S) →
      foldl f s (flat_binary k d a b) ≡ fold_binary k d (λ e. over (a e)) (λ e. over (b e)) s
  fold-binary Commutator false a b s = simp foldl-append
  fold-binary Commutator true a b s = simp foldl-append
  fold-binary Conjugate d a b s = simp foldl-append

  module _ (undo : L → L) where
    mutual
      unfolding flat_node flat_body flat fold_node fold_body fold_nodes

      pub fold_node-is : (n : Node L) (d : Bool) (s : S) → foldl f s (flat_node undo d n) ≡ fold_node f undo d n s
      fold_node-is (leaf x) d s = refl
      fold_node-is (block b m) d s =
          fold-copies (times b m) (flat_body undo (turned m d) b) s
          ∙ ap (λ (g : S → S). again (times b m) g s) (fun_ext λ r. fold_body-is b (turned m d) r)

      pub fold_body-is : (b : Body L) (d : Bool) (s : S) → foldl f s (flat_body undo d b) ≡ fold_body f undo d b s
      fold_body-is (group k a) d s = fold_is a d s
      fold_body-is (binary_group k a b) d s =
          fold-binary k d (λ e. flat undo e a) (λ e. flat undo e b) s
          ∙ ap (λ (g : Bool → S → S). fold_binary k d g (λ e. over (flat undo e b)) s) (fun_ext λ e. fun_ext λ r. fold_is a e r)
          ∙ ap (λ (g : Bool → S → S). fold_binary k d (λ e. fold_nodes f undo e a) g s) (fun_ext λ e. fun_ext λ r. fold_is b e r)

      pub fold_is : (t : NodeList L) (d : Bool) (s : S) → foldl f s (flat undo d t) ≡ fold_nodes f undo d t s
      fold_is nil d s = refl
      fold_is (cons n l) d s =
          fold-order d (flat_node undo d n) (flat undo d l) s
          ∙ ap (λ (g : S → S). fold_in_order d g (over (flat undo d l)) s) (fun_ext λ r. fold_node-is n d r)
          ∙ ap (λ (g : S → S). fold_in_order d (fold_node f undo d n) g s) (fun_ext λ r. fold_is l d r)

    -- Appended lists, in the order of the direction.
    pub fold_nodes-append : (a b : NodeList L) (d : Bool) (s : S) →
        fold_nodes f undo d (append a b) s ≡ fold_in_order d (fold_nodes f undo d a) (fold_nodes f undo d b) s
    unfolding append fold_nodes
    fold_nodes-append nil b true s = refl
    fold_nodes-append nil b false s = refl
    fold_nodes-append (cons n a) b true s = ap (fold_node f undo true n) (fold_nodes-append a b true s)
    fold_nodes-append (cons n a) b false s = fold_nodes-append a b false (fold_node f undo false n s)
