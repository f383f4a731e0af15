-- The pass from the end over the records as they stand: of a tree it leaves the packed one. Assumes nothing.
use Prim.Native.Nat.{ℕ, zero, suc, ◌+◌, ◌*◌, ◌<◌, ◌≤◌}
use mathlib.Core.Path.{◌≡◌, refl, sym, ap, ap₂, ◌∙◌}
use mathlib.Core.Bool.{Bool, true, false}
use mathlib.Core.List.{List, [], ◌∷◌, ◌++◌, append_assoc, append-nil}
use native.Mathlib.Omega.{arith}
use native.Mathlib.Nat.{zero-add, suc-add}
use lib.Dec.{ltb}
use lib.ListN.{length, get_or, take, drop, set, replicate, length-set, length-drop, length-replicate}
use lib.Seq.{take_all, take-append-le, drop-append-le, set-set, set_comm, set-get_or, get_or-set_same, get_or-set_other}
use Rattle.notation.specs.Tree.{Leaf, Node, leaf, block, Body, group, binary_group, nil, cons, Tree}
use Rattle.notation.specs.Packed.{RECORD, body_head, head_record, node_size, body_size, size, pack_node, pack_body, pack, node_head}
use Rattle.notation.specs.Counts.{CAP, cap, count_node, count, stored}
use Rattle.notation.specs.Basics.{pick}
use Rattle.notation.specs.WellFormed.{MAX-NESTING, node_depth, body_depth, depth}
use Rattle.laws.specs.Packed.{FitsNode, FitsBody, FitsTree}
use Rattle.laws.proofs.Walking.{node-head-fits}
use Rattle.record.specs.Meaning.{with_field, COUNT, kind_at}
use Rattle.tally.specs.Tallies.{TALLIES, tally_record, tally_node, tally_body, tally_list, tally_at, own_count, freed, added, Capped}
use Rattle.tally.proofs.Sizes.{length-tally_record, length-tally_node, length-tally_list}
use Rattle.tally.proofs.Records.{tally-is, filled, first_count, second_count, leaf-counted, leaf-freed, group-counted, group-freed}

-- the sums so far, and the records that are done
pub record Pass : Type 0 where
  pub sums : List ℕ
  pub done : List ℕ

abbrev pass : List ℕ → List ℕ → Pass
pass sums done = record { sums = sums; done = done }

-- one record more in front
abbrev pub step : List ℕ → Pass → Pass
step r p = record { sums = added r p.sums; done = with_field COUNT (own_count r p.sums) r ++ p.done }

-- k records, the last of them first
abbrev pub passed : ℕ → List ℕ → Pass → Pass
passed zero bs p = p
passed (suc k) bs p = step (take RECORD bs) (passed k (drop RECORD bs) p)

passed-append : (j k : ℕ) (xs ys : List ℕ) (p : Pass) → length xs ≡ RECORD * j → passed (j + k) (xs ++ ys) p ≡ passed j xs (passed k ys p)
passed-append zero k [] ys p e = ap (λ (n : ℕ). passed n ys p) (zero-add k)
passed-append zero k (x ∷ xs) ys p e = absurd (omega arith)
passed-append (suc j) k xs ys p e =
    ap (λ (n : ℕ). passed n (xs ++ ys) p) (suc-add j k)
    ∙ ap₂ (λ (r rest : List ℕ). step r (passed (j + k) rest p)) (take-append-le RECORD xs ys (omega arith)) (drop-append-le RECORD xs ys (omega arith))
    ∙ ap (step (take RECORD xs)) (passed-append j k (drop RECORD xs) ys p (omega (arith, length-drop RECORD xs)))

-- c steps more in the list with tally h, whose records bs are done
abbrev plus : ℕ → ℕ → List ℕ → Pass → Pass
plus h c bs p = pass (set p.sums h (cap (get_or p.sums h 0 + c))) (bs ++ p.done)

-- Where a list with tally h may be passed: the lists in it have tallies above, which are free.
record Ready (h : ℕ) (sums : List ℕ) : Type 0 where
  long : length sums ≡ TALLIES
  capped : get_or sums h 0 ≤ CAP
  free : (j : ℕ) → h < j → get_or sums j 0 ≡ 0

-- the record of a node, the sums being those of what lies behind it
module _ (h : ℕ) (n : Node Leaf) (small : h < 256) (fits : FitsNode n) (p : Pass) (sums : List ℕ) where
  abbrev own : List ℕ
  own = tally_record h (node_head n)

  node-step : own_count own p.sums ≡ stored n → freed own p.sums ≡ sums → passed 1 own p ≡ plus h (count_node n) (head_record (node_head n)) (pass sums p.done)
  node-step c f =
      let whole : take RECORD own ≡ own = take_all RECORD own (omega (arith, length-tally_record h (node_head n))) in
      let more : cap (get_or sums h 0 + stored n) ≡ cap (get_or sums h 0 + count_node n) = omega arith in
      let place = tally-is h (node_head n) small (node-head-fits n fits) in
      ap (λ (r : List ℕ). step r p) whole
      ∙ rw (c, f, place, more, filled h n)

module _ {h : ℕ} {sums : List ℕ} (ready : Ready h sums) where
  ready-set : (v : ℕ) → v ≤ CAP → h < TALLIES → Ready h (set sums h v)
  ready-set v l i =
      record {
        long = length-set sums h v ∙ ready.long;
        capped = rw (get_or-set_same sums h v 0 (omega (arith, ready.long))) l;
        free = λ j k. get_or-set_other sums h j v 0 (λ e. omega arith) ∙ ready.free j k;
      }

  ready-above : (j : ℕ) → h < j → Ready j sums
  ready-above j l =
      record {
        long = ready.long;
        capped = rw (ready.free j l) (omega arith);
        free = λ i k. ready.free i (omega arith);
      }

plus_none : (h : ℕ) (p : Pass) → get_or p.sums h 0 ≤ CAP → plus h 0 [] p ≡ p
plus_none h p l =
    let same : cap (get_or p.sums h 0 + 0) ≡ get_or p.sums h 0 = omega arith in
    ap (λ (s : List ℕ). pass s p.done) (ap (set p.sums h) same ∙ set-get_or p.sums h 0)

plus-plus : (h c d : ℕ) (xs ys : List ℕ) (p : Pass) → h < length p.sums → plus h c xs (plus h d ys p) ≡ plus h (c + d) (xs ++ ys) p
plus-plus h c d xs ys p l =
    let s = p.sums in
    let v = cap (get_or s h 0 + d) in
    let both : cap (v + c) ≡ cap (get_or s h 0 + (c + d)) = omega arith in
    ap₂ (λ (s bs : List ℕ). pass s bs)
    (ap (λ (g : ℕ). set (set s h v) h (cap (g + c))) (get_or-set_same s h v 0 l) ∙ set-set s h v (cap (v + c)) ∙ ap (set s h) both)
    (sym (append_assoc xs ys p.done))

set_free : (s : List ℕ) (j : ℕ) → get_or s j 0 ≡ 0 → set s j 0 ≡ s
set_free s j e = ap (set s j) (sym e) ∙ set-get_or s j 0

-- a group's lists, whose sums stand in their places and are all that has changed
record BodyPassed (h : ℕ) (b : Body Leaf) (p : Pass) : Type 0 where
  sums : List ℕ
  is : passed (body_size b) (tally_body h b) p ≡ pass sums (pack_body b ++ p.done)
  first : get_or sums (h + 2) 0 ≡ cap (first_count b)
  second : get_or sums (h + 1) 0 ≡ cap (second_count b)
  freed : set (set sums (h + 2) 0) (h + 1) 0 ≡ p.sums

module _ {h : ℕ} {s : List ℕ} (ready : Ready h s) (room : h + 2 < TALLIES) where
  none_free : set (set s (h + 2) 0) (h + 1) 0 ≡ s
  none_free = ap (λ (l : List ℕ). set l (h + 1) 0) (set_free s (h + 2) (ready.free (h + 2) (omega arith))) ∙ set_free s (h + 1) (ready.free (h + 1) (omega arith))

  module _ (v w : ℕ) where
    one-freed : set (set (set s (h + 2) v) (h + 2) 0) (h + 1) 0 ≡ s
    one-freed = ap (λ (l : List ℕ). set l (h + 1) 0) (set-set s (h + 2) v 0) ∙ none_free

    both-freed : set (set (set (set s (h + 1) w) (h + 2) v) (h + 2) 0) (h + 1) 0 ≡ s
    both-freed =
        ap (λ (l : List ℕ). set l (h + 1) 0) (set-set (set s (h + 1) w) (h + 2) v 0 ∙ set_comm s (h + 1) (h + 2) w 0 (λ e. omega arith))
        ∙ set-set (set s (h + 2) 0) (h + 1) w 0
        ∙ none_free

mutual
  unfolding node_size body_size size tally_node tally_body tally_list pack_node pack_body pack FitsNode FitsBody FitsTree node_depth body_depth depth count

  list-passed : (t : Tree) (h : ℕ) → FitsTree t → h + 2 * depth t < TALLIES → (p : Pass) → Ready h p.sums →
      passed (size t) (tally_list h t) p ≡ plus h (count t) (pack t) p
  list-passed nil h f d p r = sym (plus_none h p r.capped)
  list-passed (cons n l) h f d p r =
      passed-append (node_size n) (size l) (tally_node h n) (tally_list h l) p (length-tally_node h n)
      ∙ ap (passed (node_size n) (tally_node h n)) (list-passed l h f.1 (omega arith) p r)
      ∙ node-passed n h f.0 (omega arith) (plus h (count l) (pack l) p) (ready-set r (cap (get_or p.sums h 0 + count l)) (omega arith) (omega arith))
      ∙ plus-plus h (count_node n) (count l) (pack_node n) (pack l) p (omega (arith, r.long))

  node-passed : (n : Node Leaf) (h : ℕ) → FitsNode n → h + 2 * node_depth n < TALLIES → (p : Pass) → Ready h p.sums →
      passed (node_size n) (tally_node h n) p ≡ plus h (count_node n) (pack_node n) p
  node-passed (leaf x) h f d p r =
      node-step h (leaf x) (omega arith) f p p.sums (leaf-counted h (omega arith) p.sums x f) (leaf-freed h (omega arith) p.sums x f)
  node-passed (block b m) h f d p r =
      let inner = body-passed b h f.1 (omega arith) p r in
      let s = inner.sums in
      passed-append 1 (body_size b) (tally_record h (body_head b m)) (tally_body h b) p (length-tally_record h (body_head b m))
      ∙ ap (passed 1 (tally_record h (body_head b m))) inner.is
      ∙ node-step h (block b m) (omega arith) f (pass s (pack_body b ++ p.done)) p.sums
      (group-counted h (omega arith) s b m f.0 inner.first inner.second) (group-freed h (omega arith) s b m f.0 ∙ inner.freed)
      ∙ ap (pass (set p.sums h (cap (get_or p.sums h 0 + count_node (block b m))))) (sym (append_assoc (head_record (body_head b m)) (pack_body b) p.done))

  body-passed : (b : Body Leaf) (h : ℕ) → FitsBody b → h + 2 * suc (body_depth b) < TALLIES → (p : Pass) → Ready h p.sums → BodyPassed h b p
  body-passed (group k a) h f d p r =
      let s = p.sums in
      let v = cap (get_or s (h + 2) 0 + count a) in
      record {
        sums = set s (h + 2) v;
        is = list-passed a (h + 2) f (omega arith) p (ready-above r (h + 2) (omega arith));
        first = get_or-set_same s (h + 2) v 0 (omega (arith, r.long)) ∙ omega (arith, r.free (h + 2) (omega arith));
        second = get_or-set_other s (h + 2) (h + 1) v 0 (λ e. omega arith) ∙ omega (arith, r.free (h + 1) (omega arith));
        freed = one-freed r (omega arith) v 0;
      }
  body-passed (binary_group k a b) h f d p r =
      let s = p.sums in
      let w = cap (get_or s (h + 1) 0 + count b) in
      let v = cap (get_or (set s (h + 1) w) (h + 2) 0 + count a) in
      let kept = get_or-set_other s (h + 1) (h + 2) w 0 (λ e. omega arith) in
      let behind = ready-set (ready-above r (h + 1) (omega arith)) w (omega arith) (omega arith) in
      record {
        sums = set (set s (h + 1) w) (h + 2) v;
        is =
            passed-append (size a) (size b) (tally_list (h + 2) a) (tally_list (h + 1) b) p (length-tally_list (h + 2) a)
            ∙ ap (passed (size a) (tally_list (h + 2) a)) (list-passed b (h + 1) f.1 (omega arith) p (ready-above r (h + 1) (omega arith)))
            ∙ list-passed a (h + 2) f.0 (omega arith) (plus (h + 1) (count b) (pack b) p) (ready-above behind (h + 2) (omega arith))
            ∙ ap (pass (set (set s (h + 1) w) (h + 2) v)) (sym (append_assoc (pack a) (pack b) p.done));
        first = get_or-set_same (set s (h + 1) w) (h + 2) v 0 (omega (arith, length-set s (h + 1) w, r.long)) ∙ omega (arith, kept, r.free (h + 2) (omega arith));
        second =
            get_or-set_other (set s (h + 1) w) (h + 2) (h + 1) v 0 (λ e. omega arith)
            ∙ get_or-set_same s (h + 1) w 0 (omega (arith, r.long))
            ∙ omega (arith, r.free (h + 1) (omega arith));
        freed = both-freed r (omega arith) v w;
      }

-- The whole pass.
abbrev zeros : ℕ → List ℕ
zeros n = replicate n 0

abbrev pub start : Pass
start = pass (zeros TALLIES) []

none_yet : (n j : ℕ) → get_or (zeros n) j 0 ≡ 0
none_yet zero j = refl
none_yet (suc n) zero = refl
none_yet (suc n) (suc j) = none_yet n j

pub tree-passed : (t : Tree) → FitsTree t → depth t ≤ MAX-NESTING → (passed (size t) (tally_list 0 t) start).done ≡ pack t
tree-passed t f d =
    ap (λ (p : Pass). p.done)
    (list-passed t 0 f (omega arith) start
    (record { long = length-replicate {0} {A = ℕ} TALLIES 0; capped = omega (arith, none_yet TALLIES 0); free = λ j _. none_yet TALLIES j }))
    ∙ append-nil (pack t)

-- No sum is above the greatest count.
pub capped-set : (s : List ℕ) (i v : ℕ) → Capped s → v ≤ CAP → Capped (set s i v)
capped-set [] i v h l j = h j
capped-set (x ∷ s) zero v h l zero = l
capped-set (x ∷ s) zero v h l (suc j) = h (suc j)
capped-set (x ∷ s) (suc i) v h l zero = h zero
capped-set (x ∷ s) (suc i) v h l (suc j) = capped-set s i v (λ k. h (suc k)) l j

capped-freed : (r s : List ℕ) → Capped s → Capped (freed r s)
capped-freed r s h = go (ltb (kind_at r) 6)
  where
    go : (b : Bool) → Capped (pick b (set (set s (tally_at r + 2) 0) (tally_at r + 1) 0) s)
    go false = h
    go true = capped-set (set s (tally_at r + 2) 0) (tally_at r + 1) 0 (capped-set s (tally_at r + 2) 0 h (omega arith)) (omega arith)

pub capped-passed : (k : ℕ) (bs : List ℕ) → Capped (passed k bs start).sums
capped-passed zero bs = λ j. omega (arith, none_yet TALLIES j)
capped-passed (suc k) bs =
    let r = take RECORD bs in
    let s = (passed k (drop RECORD bs) start).sums in
    capped-set (freed r s) (tally_at r) (cap (get_or (freed r s) (tally_at r) 0 + own_count r s)) (capped-freed r s (capped-passed k (drop RECORD bs))) (omega arith)
