-- Unpacking one record: what it says, the bytes of its lists and the bytes after it. Assumes nothing.
use Prim.Native.Nat.{ℕ, zero, suc, ◌+◌, ◌*◌, ◌≤◌, ◌<◌}
use mathlib.Core.Path.{◌≡◌, refl, sym, ap, ap₂, ◌∙◌}
use mathlib.Core.List.{List, [], ◌∷◌}
use mathlib.Core.Bool.{true}
use native.Mathlib.Omega.{arith}
use borrow.Author.Tests.{eqb-true}
use lib.ListN.{length, take, drop, length-take, length-drop}
use Rattle.notation.specs.Tree.{leaf, block, group, binary_group, cons, Tree}
use Rattle.notation.specs.Counts.{stored}
use Rattle.notation.specs.Packed.{RECORD, Head, leaf_head, group_head, binary_head, size, head_at, unpack_from, unpack}
use Rattle.well_formed.specs.Formed.{first, second, both, first_bytes, second_bytes, rest_bytes, node_of, count_ok}
use Rattle.laws.proofs.Packing.{unpacked_by, unpack-nil, unpack-step}

pub both-sum : (h : Head) → both h ≡ first h + second h
both-sum (leaf_head x) = refl
both-sum (group_head g n m c) = omega arith
both-sum (binary_head g n n' m c) = refl

-- The head that packing writes of a head with these lists.
abbrev pub counting : Head → Tree → Tree → Head
counting (leaf_head x) a b = leaf_head x
counting (group_head g n m c) a b = group_head g (size a) m (stored (block (group g a) m))
counting (binary_head g n n' m c) a b = binary_head g (size a) (size b) m (stored (block (binary_group g a b) m))

-- which is the head itself if it says the right sizes and the right step count
pub counting-own : (h : Head) (a b : Tree) → size a ≡ first h → size b ≡ second h → count_ok h a b ≡ true → counting h a b ≡ h
counting-own (leaf_head x) a b l l' e = refl
counting-own (group_head g n m c) a b l l' e = ap₂ (λ (k j : ℕ). group_head g k m j) l (sym (eqb-true c _ e))
counting-own (binary_head g n n' m c) a b l l' e =
    let j = sym (eqb-true c (stored (block (binary_group g a b) m)) e) in
    λ i. binary_head g (l i) (l' i) m (j i)

-- each of the three is shorter
shorter-list : (n m : ℕ) (bs : List ℕ) → 0 < length bs → length (take n (drop (RECORD + m) bs)) < length bs
shorter-list n m bs h = simp (length-take, length-drop) (omega arith)

shorter-rest : (m : ℕ) (bs : List ℕ) → 0 < length bs → length (drop (RECORD + m) bs) < length bs
shorter-rest m bs h = simp length-drop (omega arith)

-- fuel beyond the length changes nothing
unpacked-same : (k j : ℕ) (bs : List ℕ) (h : Head) → 0 < length bs → ((xs : List ℕ) → length xs < length bs → unpack_from k xs ≡ unpack_from j xs) →
    unpacked_by k bs h ≡ unpacked_by j bs h
unpacked-same k j bs (leaf_head x) p f = ap (cons (leaf x)) (f _ (shorter-rest (RECORD * 0) bs p))
unpacked-same k j bs (group_head g n m c) p f =
    ap₂ (λ (a r : Tree). cons (block (group g a) m) r) (f _ (shorter-list (RECORD * n) 0 bs p)) (f _ (shorter-rest (RECORD * n) bs p))
unpacked-same k j bs (binary_head g n n' m c) p f =
    let a = f (take (RECORD * n) (drop RECORD bs)) (shorter-list (RECORD * n) 0 bs p) in
    let b = f (take (RECORD * n') (drop (RECORD + RECORD * n) bs)) (shorter-list (RECORD * n') (RECORD * n) bs p) in
    let r = f (drop (RECORD + RECORD * (n + n')) bs) (shorter-rest (RECORD * (n + n')) bs p) in
    λ i. cons (block (binary_group g (a i) (b i)) m) (r i)

abbrev SameFrom : ℕ → Type 0
SameFrom k = (j : ℕ) (bs : List ℕ) → length bs ≤ k → length bs ≤ j → unpack_from k bs ≡ unpack_from j bs

same-empty : SameFrom 0
same-empty j [] hk hj = unpack-nil 0 ∙ sym (unpack-nil j)
same-empty j (b ∷ bs) hk hj = absurd (omega arith)

same_more : (k : ℕ) → SameFrom k → SameFrom (suc k)
same_more k ih j [] hk hj = unpack-nil (suc k) ∙ sym (unpack-nil j)
same_more k ih zero (b ∷ bs) hk hj = absurd (omega arith)
same_more k ih (suc j) (b ∷ bs) hk hj =
    unpack-step k (b ∷ bs) (omega arith)
    ∙ unpacked-same k j (b ∷ bs) (head_at (b ∷ bs)) (omega arith) (λ xs l. ih j xs (omega arith) (omega arith))
    ∙ sym (unpack-step j (b ∷ bs) (omega arith))

pub unpack-fuel : (k j : ℕ) (bs : List ℕ) → length bs ≤ k → length bs ≤ j → unpack_from k bs ≡ unpack_from j bs
unpack-fuel zero = same-empty
unpack-fuel (suc k) = same_more k (unpack-fuel k)

-- a list that is not empty is its first node and the rest
abbrev pub viewed : List ℕ → Head → Tree
viewed bs h = cons (node_of h (unpack (first_bytes h bs)) (unpack (second_bytes h bs))) (unpack (rest_bytes h bs))

view-head : (k : ℕ) (bs : List ℕ) (h : Head) → length bs ≤ suc k → 0 < length bs → unpacked_by k bs h ≡ viewed bs h
view-head k bs h e p = go h
  where
    list : (n m : ℕ) → unpack_from k (take n (drop (RECORD + m) bs)) ≡ unpack (take n (drop (RECORD + m) bs))
    list n m = let z = shorter-list n m bs p in unpack-fuel k _ _ (omega arith) (omega arith)

    rest : (m : ℕ) → unpack_from k (drop (RECORD + m) bs) ≡ unpack (drop (RECORD + m) bs)
    rest m = let z = shorter-rest m bs p in unpack-fuel k _ _ (omega arith) (omega arith)

    go : (h : Head) → unpacked_by k bs h ≡ viewed bs h
    go (leaf_head x) = ap (cons (leaf x)) (rest (RECORD * 0))
    go (group_head g n m c) = ap₂ (λ (a r : Tree). cons (block (group g a) m) r) (list (RECORD * n) 0) (rest (RECORD * n))
    go (binary_head g n n' m c) =
        λ i. cons (block (binary_group g (list (RECORD * n) 0 i) (list (RECORD * n') (RECORD * n) i)) m) (rest (RECORD * (n + n')) i)

pub unpack-view : (bs : List ℕ) → 0 < length bs → unpack bs ≡ viewed bs (head_at bs)
unpack-view [] p = absurd (omega arith)
unpack-view (b ∷ bs) p =
    unpack-step (length bs) (b ∷ bs) p ∙ view-head (length bs) (b ∷ bs) (head_at (b ∷ bs)) (omega arith) p
