-- Steps written as records, one after the other, and which of them can be undone. Assumes nothing.
use Prim.Native.Nat.{ℕ, zero, suc, ◌*◌, ◌≤◌, ◌<◌}
use mathlib.Core.Path.{◌≡◌, refl, sym, ap, ◌∙◌}
use mathlib.Core.Bool.{Bool, true, false}
use mathlib.Core.List.{List, [], ◌∷◌, ◌++◌, append_assoc}
use native.Mathlib.Omega.{arith}
use borrow.Author.Tests.{ltb-true}
use lib.IntN.{ℤ, pos, negsuc, neg_ℤ, nat_abs}
use lib.ListN.{length, length-append}
use Rattle.notation.specs.Basics.{pick}
use Rattle.notation.specs.Tree.{Leaf, rotation, move, pause, pair, slash, megaminx, Node, leaf, block, Body, group, binary_group, nil, cons, Tree}
use Rattle.notation.specs.Packed.{RECORD, leaf_head, leaf_record}
use Rattle.notation.specs.Entries.{records}
use Rattle.notation.specs.Invert.{undo}
use Rattle.notation.specs.Unroll.{copies, turned}
use Rattle.notation.specs.Counts.{times}
use Rattle.notation.specs.declared.common.BinaryGroupKind.{BinaryGroupKind}
use Rattle.notation.specs.declared.common.BinaryGroupKind.TheVariants.{Commutator, Conjugate}
use Rattle.record.specs.Range.{FitsNumber, FitsLeaf}
use Rattle.record.proofs.RoundTrip.{length-head_record}
use Rattle.laws.specs.Packed.{FitsNode, FitsBody, FitsTree}
use Rattle.laws.specs.Unrolled.{flat_binary, flat_node, flat_body, flat}
use Rattle.laws.specs.All.{All, empty, one}
use Rattle.laws.proofs.All.{all_append, all-copies}
use Rattle.expand.specs.Steps.{Small, Undoable}

pub length-records : (l : List Leaf) → length (records l) ≡ RECORD * length l
unfolding records
length-records [] = refl
length-records (x ∷ l) = length-append (leaf_record x) (records l) ∙ omega (arith, length-head_record (leaf_head x), length-records l)

pub records-append : (a b : List Leaf) → records (a ++ b) ≡ records a ++ records b
unfolding records
records-append [] b = refl
records-append (x ∷ a) b = ap (λ (s : List ℕ). leaf_record x ++ s) (records-append a b) ∙ sym (append_assoc (leaf_record x) (records a) (records b))

pub records-copies : (n : ℕ) (l : List Leaf) → records (copies n l) ≡ copies n (records l)
unfolding records copies
records-copies zero l = refl
records-copies (suc n) l = records-append l (copies n l) ∙ ap (λ (s : List ℕ). records l ++ s) (records-copies n l)

-- Steps that can be undone.
pub small-opposite : {z : ℤ} → Small z → Small (neg_ℤ z)
small-opposite {z} h = go z h.most
  where
    go : (z : ℤ) → nat_abs z ≤ 2147483648 → Small (neg_ℤ z)
    go (pos zero) h = record { most = h }
    go (pos (suc n)) h = record { most = h }
    go (negsuc n) h = record { most = h }

pub undo-undoable : (x : Leaf) → Undoable x → Undoable (undo x)
undo-undoable (rotation f c m) (a, b, h) = (a, b, small-opposite h)
undo-undoable (move t l f c m) (a, b, d, h) = (a, b, d, small-opposite h)
undo-undoable pause h = tt
undo-undoable (pair u d) (h, k) = (small-opposite h, small-opposite k)
undo-undoable slash h = tt
undo-undoable (megaminx k) h = tt

small-fits : (z : ℤ) → FitsNumber z → Small z
small-fits (pos n) f = let h : n < 2147483648 = ltb-true n 2147483648 f in record { most = omega arith }
small-fits (negsuc n) f = let h : n < 2147483648 = ltb-true n 2147483648 f in record { most = omega arith }

pub fits-undoable : (x : Leaf) → FitsLeaf x → Undoable x
fits-undoable (rotation f c m) (a, b, h) = (a, b, small-fits m h)
fits-undoable (move t l f c m) (a, b, d, h) = (a, b, d, small-fits m h)
fits-undoable pause h = tt
fits-undoable (pair u d) (h, k) = (small-fits u h, small-fits d k)
fits-undoable slash h = tt
fits-undoable (megaminx k) h = tt

all-binary : (k : BinaryGroupKind) (d : Bool) (a b : Bool → List Leaf) → ((e : Bool) → All Undoable (a e)) → ((e : Bool) → All Undoable (b e)) → All Undoable (flat_binary k d a b)
all-binary Commutator false a b p q = all_append (p false) (all_append (q false) (all_append (p true) (q true)))
all-binary Commutator true a b p q = all_append (q false) (all_append (p false) (all_append (q true) (p true)))
all-binary Conjugate d a b p q = all_append (p false) (all_append (q d) (p true))

all-leaf : (d : Bool) (x : Leaf) → FitsLeaf x → All Undoable (pick d (undo x) x ∷ [])
all-leaf true x f = one (undo-undoable x (fits-undoable x f)) empty
all-leaf false x f = one (fits-undoable x f) empty

mutual
  unfolding FitsNode FitsBody FitsTree flat_node flat_body flat

  pub all-flat_node : (n : Node Leaf) (d : Bool) → FitsNode n → All Undoable (flat_node undo d n)
  all-flat_node (leaf x) d f = all-leaf d x f
  all-flat_node (block b m) d f = all-copies (times b m) (all-flat_body b (turned m d) f.1)

  pub all-flat_body : (b : Body Leaf) (d : Bool) → FitsBody b → All Undoable (flat_body undo d b)
  all-flat_body (group k a) d f = all-flat a d f
  all-flat_body (binary_group k a b) d f = all-binary k d (λ e. flat undo e a) (λ e. flat undo e b) (λ e. all-flat a e f.0) (λ e. all-flat b e f.1)

  pub all-flat : (t : Tree) (d : Bool) → FitsTree t → All Undoable (flat undo d t)
  all-flat nil d f = empty
  all-flat (cons n l) true f = all_append (all-flat l true f.1) (all-flat_node n true f.0)
  all-flat (cons n l) false f = all_append (all-flat_node n false f.0) (all-flat l false f.1)
