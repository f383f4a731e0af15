-- A list that is not empty is well formed exactly if its first record is what packing writes, its lists end inside and are well formed
-- one level down, and the rest is well formed. Assumes nothing.
use Prim.Native.Nat.{ℕ, ◌+◌, ◌-◌, ◌*◌, ◌≤◌, ◌<◌}
use mathlib.Core.Path.{◌≡◌, refl, sym, ap, ap₂, ◌∙◌, subst}
use mathlib.Core.Bool.{true, ◌&&◌}
use mathlib.Core.List.{List, [], ◌++◌, append_assoc, append-nil}
use native.Mathlib.Omega.{arith}
use borrow.Author.Tests.{leb-true, le-leb, ltb-true, lt-ltb, eq-eqb}
use lib.Dec.{ltb}
use lib.ListN.{length, take, drop, length-drop, length-append, take-append-drop}
use lib.Seq.{take_at, drop_at, drop-drop, length-take-le}
use Rattle.notation.specs.Basics.{same_list}
use Rattle.notation.specs.Tree.{Tree}
use Rattle.notation.specs.Packed.{RECORD, Head, leaf_head, group_head, binary_head, head_record, size, pack_node, pack_body, pack, head_at, unpack_from, unpack}
use Rattle.notation.specs.WellFormed.{node_ok, body_ok, tree_ok, node_depth, body_depth, depth, multiplier_ok}
use Rattle.numbers.proofs.Positional.{Below}
use Rattle.record.specs.Range.{FitsHead}
use Rattle.record.proofs.RoundTrip.{length-head_record, head_at-head_record}
use Rattle.laws.proofs.Bools.{and_left, and_right, and_both}
use Rattle.laws.proofs.Packing.{length-pack}
use Rattle.record.proofs.Same.{same_refl, same-eq}
use Rattle.well_formed.specs.Formed.{formed, head_ok, first, second, both, first_bytes, second_bytes, rest_bytes, count_ok, node_of}
use Rattle.well_formed.proofs.Opening.{both-sum, counting, counting-own, viewed, unpack-view}
use Rattle.laws.proofs.Unpacking.{head-fits, size-most}

-- The test as a fact.
pub record Formed (text : List ℕ) (d : ℕ) (bs : List ℕ) : Type 0 where
  pub whole : pack (unpack bs) ≡ bs
  pub ok : tree_ok text (unpack bs) ≡ true
  pub low : depth (unpack bs) ≤ d

pub formed-fact : (text : List ℕ) (d : ℕ) (bs : List ℕ) → formed text d bs ≡ true → Formed text d bs
unfolding formed
formed-fact text d bs h =
    record {
      whole = same-eq (pack (unpack bs)) bs (and_left _ _ (and_left _ _ h));
      ok = and_right (same_list (pack (unpack bs)) bs) _ (and_left _ _ h);
      low = leb-true (depth (unpack bs)) d (and_right (same_list (pack (unpack bs)) bs && tree_ok text (unpack bs)) _ h);
    }

pub fact-formed : (text : List ℕ) (d : ℕ) (bs : List ℕ) → Formed text d bs → formed text d bs ≡ true
unfolding formed
fact-formed text d bs f =
    and_both (same_list (pack (unpack bs)) bs && tree_ok text (unpack bs)) _
    (and_both _ _ (subst (λ (s : List ℕ). same_list (pack (unpack bs)) s ≡ true) f.whole (same_refl (pack (unpack bs)))) f.ok)
    (le-leb (depth (unpack bs)) d f.low)

pub formed-nil : (text : List ℕ) (d : ℕ) → formed text d [] ≡ true
unfolding formed unpack_from pack tree_ok depth same_list
formed-nil text d = le-leb 0 d (omega arith)

-- Bytes cut at three places.
cut_parts : (bs r p q s : List ℕ) (n n' : ℕ) → bs ≡ r ++ (p ++ (q ++ s)) → length r ≡ RECORD → length p ≡ RECORD * n → length q ≡ RECORD * n' →
    (take RECORD bs ≡ r) × (take (RECORD * n) (drop RECORD bs) ≡ p) × (take (RECORD * n') (drop (RECORD + RECORD * n) bs) ≡ q) × (drop (RECORD + RECORD * (n + n')) bs ≡ s)
cut_parts bs r p q s n n' e lr lp lq = (
  ap (take RECORD) e ∙ take_at r (p ++ (q ++ s)) RECORD lr,
  ap (take (RECORD * n)) one ∙ take_at p (q ++ s) (RECORD * n) lp,
  ap (take (RECORD * n')) two ∙ take_at q s (RECORD * n') lq,
  ap (λ (k : ℕ). drop k bs) sum ∙ sym (drop-drop (RECORD * n') (RECORD + RECORD * n) bs) ∙ ap (drop (RECORD * n')) two ∙ drop_at q s (RECORD * n') lq,
)
  where
    one : drop RECORD bs ≡ p ++ (q ++ s)
    one = ap (drop RECORD) e ∙ drop_at r (p ++ (q ++ s)) RECORD lr

    two : drop (RECORD + RECORD * n) bs ≡ q ++ s
    two = sym (drop-drop (RECORD * n) RECORD bs) ∙ ap (drop (RECORD * n)) one ∙ drop_at p (q ++ s) (RECORD * n) lp

    sum : RECORD + RECORD * (n + n') ≡ RECORD + RECORD * n + RECORD * n'
    sum = omega arith

-- and put together
join-parts : (bs : List ℕ) (n n' : ℕ) →
    take RECORD bs ++ (take (RECORD * n) (drop RECORD bs) ++ (take (RECORD * n') (drop (RECORD + RECORD * n) bs) ++ drop (RECORD + RECORD * (n + n')) bs)) ≡ bs
join-parts bs n n' =
    let sum : RECORD + RECORD * (n + n') ≡ RECORD + RECORD * n + RECORD * n' = omega arith in
    let three : take (RECORD * n') (drop (RECORD + RECORD * n) bs) ++ drop (RECORD + RECORD * (n + n')) bs ≡ drop (RECORD + RECORD * n) bs =
    ap (λ (k : ℕ). take (RECORD * n') (drop (RECORD + RECORD * n) bs) ++ drop k bs) sum
    ∙ ap (λ (l : List ℕ). take (RECORD * n') (drop (RECORD + RECORD * n) bs) ++ l) (sym (drop-drop (RECORD * n') (RECORD + RECORD * n) bs))
    ∙ take-append-drop (RECORD * n') (drop (RECORD + RECORD * n) bs)
    in
    let two : take (RECORD * n) (drop RECORD bs) ++ drop (RECORD + RECORD * n) bs ≡ drop RECORD bs =
    ap (λ (l : List ℕ). take (RECORD * n) (drop RECORD bs) ++ l) (sym (drop-drop (RECORD * n) RECORD bs))
    ∙ take-append-drop (RECORD * n) (drop RECORD bs)
    in
    ap (λ (l : List ℕ). take RECORD bs ++ (take (RECORD * n) (drop RECORD bs) ++ l)) three
    ∙ ap (λ (l : List ℕ). take RECORD bs ++ l) two
    ∙ take-append-drop RECORD bs

-- What packing writes of a head's node.
pack-node : (h : Head) (bs : List ℕ) (a b : Tree) → a ≡ unpack (first_bytes h bs) → b ≡ unpack (second_bytes h bs) →
    pack_node (node_of h a b) ≡ head_record (counting h a b) ++ (pack a ++ pack b)
unfolding pack_node pack_body pack unpack_from
pack-node (leaf_head x) bs a b ea eb =
    sym (append-nil _) ∙ ap₂ (λ (s t : Tree). head_record (leaf_head x) ++ (pack s ++ pack t)) (sym ea) (sym eb)
pack-node (group_head g n m c) bs a b ea eb =
    let w = head_record (counting (group_head g n m c) a b) in
    ap (λ (l : List ℕ). w ++ l) (sym (append-nil (pack a)))
    ∙ ap (λ (t : Tree). w ++ (pack a ++ pack t)) (sym eb)
pack-node (binary_head g n n' m c) bs a b ea eb = refl

abbrev first_list : Head → List ℕ → Tree
first_list h bs = unpack (first_bytes h bs)

abbrev second_list : Head → List ℕ → Tree
second_list h bs = unpack (second_bytes h bs)

view-bytes : (h : Head) (bs : List ℕ) →
    pack (viewed bs h)
    ≡ head_record (counting h (first_list h bs) (second_list h bs)) ++ (pack (first_list h bs) ++ (pack (second_list h bs) ++ pack (unpack (rest_bytes h bs))))
unfolding pack
view-bytes h bs =
    let a = first_list h bs in
    let b = second_list h bs in
    let w = head_record (counting h a b) in
    ap (λ (l : List ℕ). l ++ pack (unpack (rest_bytes h bs))) (pack-node h bs a b refl refl)
    ∙ append_assoc w (pack a ++ pack b) (pack (unpack (rest_bytes h bs)))
    ∙ ap (λ (l : List ℕ). w ++ l) (append_assoc (pack a) (pack b) (pack (unpack (rest_bytes h bs))))

-- What is asked of a node is what is asked of its head and of its lists.
record Asked (text : List ℕ) (d : ℕ) (h : Head) (bs : List ℕ) : Type 0 where
  head : head_ok text d h ≡ true
  first-ok : tree_ok text (first_list h bs) ≡ true
  second-ok : tree_ok text (second_list h bs) ≡ true
  first-low : depth (first_list h bs) ≤ d - 1
  second-low : depth (second_list h bs) ≤ d - 1

asked : (text : List ℕ) (d : ℕ) (h : Head) (bs : List ℕ) → node_ok text (node_of h (first_list h bs) (second_list h bs)) ≡ true →
    node_depth (node_of h (first_list h bs) (second_list h bs)) ≤ d → Asked text d h bs
unfolding unpack_from tree_ok node_ok body_ok depth node_depth body_depth
asked text d (leaf_head x) bs o l =
    record { head = o; first-ok = refl; second-ok = refl; first-low = omega arith; second-low = omega arith }
asked text d (group_head g n m c) bs o l =
    record {
      head = and_both (ltb 0 d) _ (lt-ltb 0 d (omega arith)) (and_left _ _ o);
      first-ok = and_right (multiplier_ok m) _ o;
      second-ok = refl;
      first-low = omega arith;
      second-low = omega arith;
    }
asked text d (binary_head g n n' m c) bs o l =
    let h = binary_head g n n' m c in
    record {
      head = and_both (ltb 0 d) _ (lt-ltb 0 d (omega arith)) (and_left _ _ o);
      first-ok = and_left _ _ (and_right (multiplier_ok m) _ o);
      second-ok = and_right (tree_ok text (first_list h bs)) _ (and_right (multiplier_ok m) _ o);
      first-low = omega arith;
      second-low = omega arith;
    }

answered : (text : List ℕ) (d : ℕ) (h : Head) (bs : List ℕ) → Asked text d h bs →
    (node_ok text (node_of h (first_list h bs) (second_list h bs)) ≡ true) × (node_depth (node_of h (first_list h bs) (second_list h bs)) ≤ d)
unfolding unpack_from tree_ok node_ok body_ok depth node_depth body_depth
answered text d (leaf_head x) bs a = (a.head, omega arith)
answered text d (group_head g n m c) bs a =
    let z : 0 < d = ltb-true 0 d (and_left _ _ a.head) in
    let low = a.first-low in
    (and_both (multiplier_ok m) _ (and_right (ltb 0 d) _ a.head) a.first-ok, omega arith)
answered text d (binary_head g n n' m c) bs a =
    let z : 0 < d = ltb-true 0 d (and_left _ _ a.head) in
    let low = a.first-low in
    let low' = a.second-low in
    (and_both (multiplier_ok m) _ (and_right (ltb 0 d) _ a.head) (and_both _ _ a.first-ok a.second-ok), omega arith)

-- The parts of a well-formed list whose first record says h.
pub record Parts (text : List ℕ) (d : ℕ) (h : Head) (bs : List ℕ) : Type 0 where
  pub exact : head_record h ≡ take RECORD bs
  pub long : RECORD + RECORD * both h ≤ length bs
  pub head : head_ok text d h ≡ true
  pub list : Formed text (d - 1) (first_bytes h bs)
  pub list' : Formed text (d - 1) (second_bytes h bs)
  pub count : count_ok h (first_list h bs) (second_list h bs) ≡ true
  pub rest : Formed text d (rest_bytes h bs)

-- a head whose sizes are changed fits while they are no greater
fewer-fits : (h : Head) (a b : Tree) → size a ≤ first h → size b ≤ second h → FitsHead h → FitsHead (counting h a b)
fewer-fits (leaf_head x) a b l l' f = f
fewer-fits (group_head g n m c) a b l l' f = (omega arith, f.1, omega arith)
fewer-fits (binary_head g n n' m c) a b l l' f = (omega arith, omega arith, f.2, omega arith)

-- and says the sizes and the step count of its lists
counts : (h : Head) (a b : Tree) → size a ≤ first h → size b ≤ second h → counting h a b ≡ h → (size a ≡ first h) × (size b ≡ second h) × (count_ok h a b ≡ true)
counts (leaf_head x) a b l l' e = (omega arith, omega arith, refl)
counts (group_head g n m c) a b l l' e = (cc, omega arith, eq-eqb c _ cc)
counts (binary_head g n n' m c) a b l l' e = (cc, cc, eq-eqb c _ cc)

pub formed-parts : (text : List ℕ) (d : ℕ) (bs : List ℕ) → Below 256 bs → 0 < length bs → Formed text d bs → Parts text d (head_at bs) bs
unfolding tree_ok depth
formed-parts text d bs b p f =
    let h = head_at bs in
    let a = first_list h bs in
    let b' = second_list h bs in
    let r = unpack (rest_bytes h bs) in
    let v : unpack bs ≡ viewed bs h = unpack-view bs p in
    let w = head_record (counting h a b') in
    let shape : bs ≡ w ++ (pack a ++ (pack b' ++ pack r)) = sym f.whole ∙ ap pack v ∙ view-bytes h bs in
    let few : size a ≤ first h = size-most (length (first_bytes h bs)) (first h) (drop RECORD bs) in
    let few' : size b' ≤ second h = size-most (length (second_bytes h bs)) (second h) (drop (RECORD + RECORD * first h) bs) in
    let says : counting h a b' ≡ h =
    sym (ap head_at shape ∙ head_at-head_record (counting h a b') _ (fewer-fits h a b' few few' (head-fits bs b)))
    in
    let same = counts h a b' few few' says in
    let la : length (pack a) ≡ RECORD * first h = length-pack a ∙ ap (λ (k : ℕ). RECORD * k) same.0 in
    let lb : length (pack b') ≡ RECORD * second h = length-pack b' ∙ ap (λ (k : ℕ). RECORD * k) same.1 in
    let lw : length w ≡ RECORD = length-head_record (counting h a b') in
    let parts = cut_parts bs w (pack a) (pack b') (pack r) (first h) (second h) shape lw la lb in
    let rest : rest_bytes h bs ≡ pack r = ap (λ (k : ℕ). drop (RECORD + RECORD * k) bs) (both-sum h) ∙ parts.3 in
    let sizes : length bs ≡ length w + (length (pack a) + (length (pack b') + length (pack r))) =
    ap length shape ∙ simp length-append
    in
    let ok : tree_ok text (viewed bs h) ≡ true = subst (λ (t : Tree). tree_ok text t ≡ true) v f.ok in
    let low : depth (viewed bs h) ≤ d = subst (λ (t : Tree). depth t ≤ d) v f.low in
    let q = asked text d h bs (and_left _ _ ok) (omega arith) in
    record {
      exact = sym (parts.0 ∙ ap head_record says);
      long = omega (arith, both-sum h);
      head = q.head;
      list = record { whole = sym parts.1; ok = q.first-ok; low = q.first-low };
      list' = record { whole = sym parts.2; ok = q.second-ok; low = q.second-low };
      count = same.2;
      rest = record { whole = sym rest; ok = and_right (node_ok text (node_of h a b')) _ ok; low = omega arith };
    }

pub parts-formed : (text : List ℕ) (d : ℕ) (bs : List ℕ) → 0 < length bs → Parts text d (head_at bs) bs → Formed text d bs
unfolding tree_ok depth
parts-formed text d bs p q =
    let h = head_at bs in
    let a = first_list h bs in
    let b = second_list h bs in
    let r = unpack (rest_bytes h bs) in
    let v : unpack bs ≡ viewed bs h = unpack-view bs p in
    let l = q.long in
    let s = both-sum h in
    let sa : size a ≡ first h =
    omega (arith, length-pack a, ap length q.list.whole, length-take-le (RECORD * first h) (drop RECORD bs) (simp length-drop (omega arith)))
    in
    let sb : size b ≡ second h =
    omega (arith, length-pack b, ap length q.list'.whole, length-take-le (RECORD * second h) (drop (RECORD + RECORD * first h) bs) (simp length-drop (omega arith)))
    in
    let says : counting h a b ≡ h = counting-own h a b sa sb q.count in
    let rest : pack r ≡ drop (RECORD + RECORD * (first h + second h)) bs = q.rest.whole ∙ ap (λ (k : ℕ). drop (RECORD + RECORD * k) bs) s in
    let bytes : head_record (counting h a b) ++ (pack a ++ (pack b ++ pack r)) ≡ bs =
    ap₂ (λ (w y : List ℕ). w ++ (y ++ (pack b ++ pack r))) (ap head_record says ∙ q.exact) q.list.whole
    ∙ ap₂ (λ (y z : List ℕ). take RECORD bs ++ (first_bytes h bs ++ (y ++ z))) q.list'.whole rest
    ∙ join-parts bs (first h) (second h)
    in
    let n = answered text d h bs (record { head = q.head; first-ok = q.list.ok; second-ok = q.list'.ok; first-low = q.list.low; second-low = q.list'.low }) in
    let low = q.rest.low in
    record {
      whole = ap pack v ∙ view-bytes h bs ∙ bytes;
      ok = subst (λ (t : Tree). tree_ok text t ≡ true) (sym v) (and_both _ _ n.0 q.rest.ok);
      low = subst (λ (t : Tree). depth t ≤ d) (sym v) (omega arith);
    }
