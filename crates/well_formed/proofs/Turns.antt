-- The walk: what each way out of a turn says of the list, and of its first node. Assumes nothing.
use Prim.Native.Nat.{ℕ, ◌+◌, ◌-◌, ◌*◌, ◌^◌, ◌≤◌, ◌<◌}
use mathlib.Core.Path.{◌≡◌, refl, sym, ap, ap₂, ◌∙◌, subst}
use mathlib.Core.Bool.{Bool, true, false, ◌&&◌, ◌||◌}
use mathlib.Core.List.{List, [], ◌∷◌}
use mathlib.Core.Option.{Option, none, some}
use native.Mathlib.Omega.{arith}
use borrow.Author.Tests.{leb-true, leb-false, eqb-true, eqb-false, lt-ltb}
use lib.Dec.{leb, ltb, eqb}
use lib.ListN.{length, take, drop, get_or, length-drop}
use lib.Seq.{take_all}
use Rattle.notation.specs.Basics.{pick, same_list}
use Rattle.notation.specs.Numbers.{from_bits}
use Rattle.notation.specs.Tree.{Leaf, Tree}
use Rattle.notation.specs.Counts.{CAP, cap, count_node, count, stored}
use Rattle.notation.specs.Packed.{RECORD, widths, cut, in_order, nowhere, Head, leaf_head, head_fields, head_record, head_at, unpack_from, unpack}
use Rattle.notation.specs.WellFormed.{leaf_ok, multiplier_ok}
use Rattle.numbers.proofs.Positional.{Below, below-drop}
use Rattle.laws.proofs.Bools.{and_left, and_right, and_both, false-true}
use Rattle.laws.specs.Unrolled.{first_refusal}
use Rattle.laws.proofs.Walking.{leaf-stored}
use Rattle.record.specs.Undone.{overflows_at}
use Rattle.record.specs.Meaning.{field, uncounted, listed, kind_at, FIRST, SECOND, NUMBER, COUNT}
use Rattle.record.specs.declared.encode.Fields.{Fields}
use Rattle.record.proofs.Same.{same_refl, same-eq, refuted}
use Rattle.counts.specs.Groups.{group_count}
use Rattle.well_formed.specs.Formed.{formed, formed_count, head_ok, first, second, both, first_bytes, second_bytes, rest_bytes, count_ok, first_ok, node_of, first_node, first_count}
use Rattle.well_formed.specs.Meaning.{step_count, Meets, MeetsNode}
use Rattle.well_formed.specs.declared.walk.Visited.{Visited}
use Rattle.std.specs.Prelude as code
use Rattle.well_formed.specs.Refusing.{refuses, leaf_refuses, group_refuses}
use Rattle.well_formed.specs.declared.refusals.Refusals.{Refusals}
use Rattle.well_formed.proofs.Opening.{both-sum, unpack-view}
use Rattle.well_formed.proofs.Refusing.{of_node, of_tree, after, none-met, either_way, leaf-refuses, nothing_left, met-more}
use Rattle.well_formed.proofs.Heads.{GroupSays, group-says, leaf-says, asks_nothing, by-fields, compared, field-written, first-written, second-written, count-written}
use Rattle.well_formed.proofs.Formed.{formed-fact, fact-formed, formed-nil, Parts, formed-parts, parts-formed}

-- two tests that hold together
alike : (a b : Bool) → (a ≡ true → b ≡ true) → (b ≡ true → a ≡ true) → a ≡ b
alike true true f g = refl
alike true false f g = sym (f refl)
alike false true f g = g refl
alike false false f g = refl

and-true : (a b : Bool) → b ≡ true → a ≡ (a && b)
and-true true b e = sym e
and-true false b e = refl

and-false : (a b : Bool) → b ≡ false → false ≡ (a && b)
and-false true b e = sym e
and-false false b e = refl

-- whether the first record is what packing writes
abbrev same : List ℕ → Bool
same bs = same_list (head_record (head_at bs)) (take RECORD bs)

-- the lists that it says
abbrev first_in : List ℕ → Tree
first_in bs = unpack (first_bytes (head_at bs) bs)

abbrev second_in : List ℕ → Tree
second_in bs = unpack (second_bytes (head_at bs) bs)

-- if these bytes are well formed, so many steps and theirs, capped
abbrev count_from : List ℕ → ℕ → ℕ → List ℕ → Option ℕ
count_from text d n bs = pick (formed text d bs) (some (cap (n + count (unpack bs)))) none

-- Lists that are not empty.
module _ (text : List ℕ) (d : ℕ) (bs : List ℕ) (below : Below 256 bs) (some : 0 < length bs) where
  parts : formed text d bs ≡ true → Parts text d (head_at bs) bs
  parts e = formed-parts text d bs below some (formed-fact text d bs e)

  same-part : Parts text d (head_at bs) bs → same bs ≡ true
  same-part p = subst (λ (s : List ℕ). same_list (head_record (head_at bs)) s ≡ true) p.exact (same_refl (head_record (head_at bs)))

  -- too short for a record
  pub too_short : length bs < RECORD → false ≡ formed text d bs
  too_short s = refuted (formed text d bs) λ e. let l = (parts e).long in omega arith

  -- too short for the lists that the record counts
  pub too_long : (end : ℕ) → RECORD ≤ length bs → end ≡ RECORD + RECORD * (field FIRST bs + field SECOND bs) → length bs < end → false ≡ formed text d bs
  too_long end l z s = refuted (formed text d bs) λ e.
      let p = parts e in
      let w = same-part p in
      omega (arith, p.long, both-sum (head_at bs), first-written bs below l w, second-written bs below l w)

  -- a node that is refused
  pub bad-node : (ok : Bool) → ok ≡ first_ok text d bs → ok ≡ false → false ≡ formed text d bs
  bad-node ok o fails = refuted (formed text d bs) λ e.
      let p = parts e in
      false-true
      (sym fails ∙ o
      ∙ and_both (same bs) _ (same-part p)
      (and_both (head_ok text d (head_at bs)) _ p.head
      (and_both _ _ (fact-formed text (d - 1) (first_bytes (head_at bs) bs) p.list)
      (and_both _ _ (fact-formed text (d - 1) (second_bytes (head_at bs) bs) p.list') p.count))))

  -- a node that is passed
  module _ (ok : Bool) (o : ok ≡ first_ok text d bs) (holds : ok ≡ true) where
    abbrev h : Head
    h = head_at bs

    below-head : (head_ok text d h && (formed text (d - 1) (first_bytes h bs) && (formed text (d - 1) (second_bytes h bs) && count_ok h (first_in bs) (second_in bs)))) ≡ true
    below-head = and_right (same bs) _ (sym o ∙ holds)

    in-lists : (formed text (d - 1) (first_bytes h bs) && (formed text (d - 1) (second_bytes h bs) && count_ok h (first_in bs) (second_in bs))) ≡ true
    in-lists = and_right (head_ok text d h) _ below-head

    in-second : (formed text (d - 1) (second_bytes h bs) && count_ok h (first_in bs) (second_in bs)) ≡ true
    in-second = and_right (formed text (d - 1) (first_bytes h bs)) _ in-lists

    right-count : count_ok h (first_in bs) (second_in bs) ≡ true
    right-count = and_right (formed text (d - 1) (second_bytes h bs)) _ in-second

    -- the rest decides
    good-node : RECORD + RECORD * both h ≤ length bs → formed text d (rest_bytes h bs) ≡ formed text d bs
    good-node long = alike (formed text d (rest_bytes h bs)) (formed text d bs) up (λ e. fact-formed text d (rest_bytes h bs) (parts e).rest)
      where
        up : formed text d (rest_bytes h bs) ≡ true → formed text d bs ≡ true
        up r =
            fact-formed text d bs
            (parts-formed text d bs some
            (record {
              exact = same-eq (head_record h) (take RECORD bs) (and_left _ _ (sym o ∙ holds));
              long = long;
              head = and_left _ _ below-head;
              list = formed-fact text (d - 1) (first_bytes h bs) (and_left _ _ in-lists);
              list' = formed-fact text (d - 1) (second_bytes h bs) (and_left _ _ in-second);
              count = right-count;
              rest = formed-fact text d (rest_bytes h bs) r;
            }))

-- What a turn leaves: the steps that are counted, n of them, the refusals that were met, and the bytes that are left decide. A step that is not
-- capped took a byte or more.
pub record Left (text : List ℕ) (d : ℕ) (list bs : List ℕ) (n : ℕ) (met : Refusals) : Type 0 where
  pub below : Below 256 bs
  pub within : length bs ≤ length list
  pub few : n + length bs ≤ CAP + length list
  pub same : count_from text d n bs ≡ formed_count text d list
  pub joined : after (refuses met) (of_tree (unpack bs)) ≡ of_tree (unpack list)

pub no_more : (text : List ℕ) (d : ℕ) (list bs : List ℕ) (n : ℕ) (met : Refusals) → Left text d list bs n met → length bs ≤ 0 → (r : ℕ) → r ≡ cap n → some r ≡ formed_count text d list
unfolding unpack_from count
no_more text d list [] n met left h r e =
    let same : r ≡ cap (n + count (unpack [])) = omega arith in
    ap₂ (λ (b : Bool) (k : ℕ). pick b (some k) none) (sym (formed-nil text d)) same ∙ left.same
no_more text d list (b ∷ bs) n met left h r e = absurd (omega arith)

pub all-met : (text : List ℕ) (d : ℕ) (list bs : List ℕ) (n : ℕ) (met : Refusals) → Left text d list bs n met → length bs ≤ 0 → refuses met ≡ of_tree (unpack list)
unfolding unpack_from first_refusal
all-met text d list [] n met left h = sym (nothing_left met) ∙ left.joined
all-met text d list (b ∷ bs) n met left h = absurd (omega arith)

pub refused : (text : List ℕ) (d : ℕ) (list bs : List ℕ) (n : ℕ) (met : Refusals) → Left text d list bs n met → false ≡ formed text d bs → none ≡ formed_count text d list
refused text d list bs n met left e = ap (λ (b : Bool). pick b (some (cap (n + count (unpack bs)))) none) e ∙ left.same

rest-is : (bs : List ℕ) (end : ℕ) → take (length bs - end) (drop end bs) ≡ drop end bs
rest-is bs end = take_all (length bs - end) (drop end bs) (omega (arith, length-drop end bs))

-- the first node's steps, c of them as it stores them, are added to n and give n', capped or not; with those of the rest
count-on : (bs : List ℕ) (n c n' : ℕ) → 0 < length bs → c ≡ stored (first_node bs) → cap n' ≡ cap (n + c) → cap (n' + count (unpack (rest_bytes (head_at bs) bs))) ≡ cap (n + count (unpack bs))
unfolding count
count-on bs n c n' p e s =
    let whole : count (unpack bs) ≡ count_node (first_node bs) + count (unpack (rest_bytes (head_at bs) bs)) = ap count (unpack-view bs p) in
    omega arith

go_on : (text : List ℕ) (d : ℕ) (list bs : List ℕ) (n : ℕ) (met : Refusals) → Left text d list bs n met → (ok : Bool) → ok ≡ first_ok text d bs → ok ≡ true →
    (end : ℕ) → end ≡ RECORD + RECORD * both (head_at bs) → end ≤ length bs → (c n' : ℕ) → c ≡ stored (first_node bs) → cap n' ≡ cap (n + c) →
    n' + (length bs - end) ≤ CAP + length list → {one : Bool → Option ℕ} (next : Refusals) → one ≡ of_node (first_node bs) → refuses next ≡ after (refuses met) one →
    Left text d list (take (length bs - end) (drop end bs)) n' next
go_on text d list bs n met left ok o holds end z l c n' e s few next m j =
    let p : 0 < length bs = omega arith in
    let rest = length-drop end bs in
    let steps : cap (n' + count (unpack (drop end bs))) ≡ cap (n + count (unpack bs)) =
    (λ i. cap (n' + count (unpack (drop (z i) bs)))) ∙ count-on bs n c n' p e s
    in
    subst (λ (r : List ℕ). Left text d list r n' next) (sym (rest-is bs end))
    (record {
      below = below-drop 256 end bs left.below;
      within = omega (arith, left.within);
      few = omega arith;
      same =
          ap₂ (λ (b : Bool) (k : ℕ). pick b (some k) none)
          (ap (λ (k : ℕ). formed text d (drop k bs)) z ∙ good-node text d bs left.below p ok o holds (omega arith)) steps
          ∙ left.same;
      joined =
          ap (λ (k : ℕ). after (refuses next) (of_tree (unpack (drop k bs)))) z
          ∙ met-more met next (first_node bs) (unpack (rest_bytes (head_at bs) bs)) m j
          ∙ ap (λ (t : Tree). after (refuses met) (of_tree t)) (sym (unpack-view bs p))
          ∙ left.joined;
    })

-- the end of a group by the counts that are read
pub counted : (bs : List ℕ) {n n' : ℕ} → n ≡ field FIRST bs → n' ≡ field SECOND bs → RECORD + RECORD * (n + n') ≡ RECORD + RECORD * (field FIRST bs + field SECOND bs)
counted bs e e' = omega arith

-- what a list's answer tells
pub list-refused : (b : Bool) (k : ℕ) → none ≡ pick b (some k) none → b ≡ false
list-refused true k e = cc
list-refused false k e = refl

pub list-passed : (b : Bool) (k n : ℕ) → some n ≡ pick b (some k) none → (b ≡ true) × (n ≡ k)
list-passed true k n e = (refl, cc)
list-passed false k n e = (cc, cc)

-- what the visit of a group tells
pub group-passed : (text : List ℕ) (d : ℕ) (bs : List ℕ) {v : code.Option Visited} {x : Visited} → v ≡ code.Some x → step_count v ≡ first_count text d bs →
    (first_ok text d bs ≡ true) × (x.steps ≡ stored (first_node bs))
group-passed text d bs {v} {x} e n = list-passed (first_ok text d bs) (stored (first_node bs)) x.steps (ap step_count (sym e) ∙ n)

pub group-not : (text : List ℕ) (d : ℕ) (bs : List ℕ) {v : code.Option Visited} → v ≡ code.None → step_count v ≡ first_count text d bs → false ≡ first_ok text d bs
group-not text d bs e n = sym (list-refused (first_ok text d bs) (stored (first_node bs)) (ap step_count (sym e) ∙ n))

-- so that the sum has room
pub group-capped : (text : List ℕ) (d : ℕ) (bs : List ℕ) {v : code.Option Visited} {x : Visited} → v ≡ code.Some x → step_count v ≡ first_count text d bs → x.steps ≤ CAP
group-capped text d bs e n = let z = (group-passed text d bs e n).1 in omega arith

pub sum_room : (n bytes all c : ℕ) → n + bytes ≤ CAP + all → all * 1 < 2 ^ 63 → c ≤ CAP → n + c < 2 ^ 64
sum_room n bytes all c few short most = omega arith

pub past-group : (text : List ℕ) (d : ℕ) (list bs : List ℕ) (n : ℕ) (met : Refusals) → Left text d list bs n met →
    (end : ℕ) → end ≡ RECORD + RECORD * (field FIRST bs + field SECOND bs) → end ≤ length bs →
    (v : code.Option Visited) (x : Visited) → v ≡ code.Some x → step_count v ≡ first_count text d bs → MeetsNode v (first_node bs) →
    (n' : ℕ) (next : Refusals) → n' ≡ cap (n + x.steps) → refuses next ≡ after (refuses met) (refuses x.met) →
    Left text d list (take (length bs - end) (drop end bs)) n' next
past-group text d list bs n met left end z l v x e k m n' next s j =
    let found = group-passed text d bs e k in
    let w : same bs ≡ true = and_left _ _ found.0 in
    let long : RECORD ≤ length bs = omega arith in
    go_on text d list bs n met left (first_ok text d bs) refl found.0 end
    (omega (arith, both-sum (head_at bs), first-written bs left.below long w, second-written bs left.below long w)) l
    x.steps n' found.1 (omega arith) (omega (arith, left.within)) next (subst (λ (y : code.Option Visited). MeetsNode y (first_node bs)) e m) j

pub past-leaf : (text : List ℕ) (d : ℕ) (list bs : List ℕ) (n : ℕ) (met : Refusals) → Left text d list bs n met → (ok : Bool) → ok ≡ first_ok text d bs → ok ≡ true →
    6 ≤ kind_at bs → RECORD ≤ length bs → (next : Refusals) (over : Bool) → over ≡ overflows_at bs →
    refuses next ≡ after (refuses met) (leaf_refuses over) → Left text d list (take (length bs - RECORD) (drop RECORD bs)) (n + 1) next
unfolding count_node
past-leaf text d list bs n met left ok o holds k l next over m j =
    let x = (leaf-says bs (kind_at bs) refl k).0 in
    let leaf = (leaf-says bs (kind_at bs) refl k).1 in
    go_on text d list bs n met left ok o holds RECORD (ap (λ (h : Head). RECORD + RECORD * both h) leaf) l
    1 (n + 1) (ap (λ (h : Head). stored (node_of h (first_in bs) (second_in bs))) leaf) refl (omega (arith, left.few))
    next (ap leaf_refuses m ∙ leaf-refuses bs x leaf ∙ ap (λ (h : Head). of_node (node_of h (first_in bs) (second_in bs))) leaf) j

-- A leaf has no lists.
leaf-lists : (text : List ℕ) (d : ℕ) (r b : Bool) → r ≡ b → r ≡ (b && (formed text d [] && (formed text d [] && true)))
leaf-lists text d r true e = e ∙ rw (formed-nil text d)
leaf-lists text d r false e = e

leaf-decides : (text bs : List ℕ) (x : Leaf) → leaf_head x ≡ head_at bs → (s : Bool) → s ≡ same bs → (d : ℕ) → (s && leaf_ok text x) ≡ first_ok text d bs
leaf-decides text bs x e s p d =
    ap (λ (b : Bool). s && b) (leaf-lists text (d - 1) (leaf_ok text x) (leaf_ok text x) refl)
    ∙ ap (λ (h : Head). s && (head_ok text d h && (formed text (d - 1) (first_bytes h bs) && (formed text (d - 1) (second_bytes h bs) && count_ok h (unpack (first_bytes h bs)) (unpack (second_bytes h bs)))))) e
    ∙ rw p

-- a record of a leaf, of kind k
pub record LeafRead (bs : List ℕ) (k : ℕ) : Type 0 where
  pub below : Below 256 bs
  pub long : RECORD ≤ length bs
  pub kind : k ≡ kind_at bs
  pub leaf : 6 ≤ k
  pub one : field COUNT bs ≡ 1

-- it counts 1
pub leaf-not-one : (text bs : List ℕ) → Below 256 bs → RECORD ≤ length bs → 6 ≤ kind_at bs → (one : Bool) → one ≡ eqb (field COUNT bs) 1 → one ≡ false →
    (d : ℕ) → false ≡ first_ok text d bs
leaf-not-one text bs below long k one e f d =
    let x = leaf-says bs (kind_at bs) refl k in
    let other : same bs ≡ false = sym (refuted (same bs) λ w.
    eqb-false (field COUNT bs) 1 (sym e ∙ f) (field-written bs below long w COUNT ∙ ap (λ (h : Head). get_or (head_fields h) COUNT 0) (sym x.1) ∙ leaf-stored x.0))
    in
    rw other

module _ {bs : List ℕ} {k : ℕ} (read : LeafRead bs k) (text : List ℕ) (s : Bool) (w : s ≡ same_list (head_fields (head_at bs)) (cut widths (take RECORD bs))) where
  decides : (x : Leaf) → leaf_head x ≡ head_at bs → (d : ℕ) → (s && leaf_ok text x) ≡ first_ok text d bs
  decides x e d = leaf-decides text bs x e s (w ∙ by-fields bs read.below read.long) d

  pub leaf-passed : (x : Leaf) → leaf_head x ≡ head_at bs → s ≡ true → (ok : Bool) → ok ≡ leaf_ok text x → (d : ℕ) → ok ≡ first_ok text d bs
  leaf-passed x e t ok z d = z ∙ ap (λ (b : Bool). b && leaf_ok text x) (sym t) ∙ decides x e d

  pub leaf-refused : s ≡ false → (d : ℕ) → false ≡ first_ok text d bs
  leaf-refused f d =
      let x = leaf-says bs k read.kind read.leaf in
      ap (λ (b : Bool). b && leaf_ok text x.0) (sym f) ∙ decides x.0 x.1 d

  -- neither a rotation nor a move
  pub leaf-alone : (k ≡ 6 → ⊥) → (k ≡ 7 → ⊥) → s ≡ true → (d : ℕ) → true ≡ first_ok text d bs
  leaf-alone six seven t =
      let x = leaf-says bs k read.kind read.leaf in
      leaf-passed x.0 x.1 t true (sym (asks_nothing text bs k read.kind read.leaf six seven) ∙ ap (head_ok text 0) (sym x.1))

-- A group's record, from what is read of it.
-- the step count that was read with the other fields
count_of : {f : Fields} {l : List ℕ} → listed f ≡ l → f.count ≡ get_or l COUNT 0
count_of p = ap (λ (l : List ℕ). get_or l COUNT 0) p

-- only a binary group has a second list
second_is : (bs : List ℕ) (k n : ℕ) → GroupSays bs k (head_at bs) → n ≡ field SECOND bs → (q : Bool) → q ≡ (leb 4 k || eqb n 0) → q ≡ true → n ≡ second (head_at bs)
second_is bs k n g z q e t = go (leb 4 k) refl (sym e ∙ t)
  where
    go : (b : Bool) → leb 4 k ≡ b → (b || eqb n 0) ≡ true → n ≡ second (head_at bs)
    go true p h = z ∙ sym (g.two (leb-true 4 k p))
    go false p h = eqb-true n 0 h ∙ sym (g.one (leb-false 4 k p))

second-is-not : (bs : List ℕ) (k n : ℕ) → GroupSays bs k (head_at bs) → (q : Bool) → q ≡ (leb 4 k || eqb n 0) → q ≡ false → n ≡ second (head_at bs) → ⊥
second-is-not bs k n g q e f z = go (leb 4 k) refl (sym e ∙ f)
  where
    go : (b : Bool) → leb 4 k ≡ b → (b || eqb n 0) ≡ false → ⊥
    go true p h = false-true (sym h)
    go false p h = eqb-false n 0 h (z ∙ g.one (leb-false 4 k p))

abbrev multiplier : List ℕ → Bool
multiplier bs = multiplier_ok (from_bits 32 (field NUMBER bs))

pub multiplier-read : (bs : List ℕ) (m : ℕ) (r : Bool) → m ≡ field NUMBER bs → r ≡ multiplier_ok (from_bits 32 m) → r ≡ multiplier bs
multiplier-read bs m r z e = e ∙ ap (λ (n : ℕ). multiplier_ok (from_bits 32 n)) z

-- a record of kind k, with n records in its second list, and whether it may have them
pub record GroupRead (bs : List ℕ) (k n : ℕ) (q : Bool) : Type 0 where
  pub below : Below 256 bs
  pub long : RECORD ≤ length bs
  pub says : GroupSays bs k (head_at bs)
  pub count : n ≡ field SECOND bs
  pub may : q ≡ (leb 4 k || eqb n 0)

pub group-written : {bs : List ℕ} {k n : ℕ} {q : Bool} → GroupRead bs k n q → q ≡ true → (m : Bool) → m ≡ multiplier bs → m ≡ true →
    {n' number steps : ℕ} {f f' : Fields} (r : Bool) → n' ≡ field FIRST bs → number ≡ field NUMBER bs → steps ≡ field COUNT bs →
    listed f ≡ in_order k 0 0 0 n' n number 0 nowhere nowhere nowhere steps → listed f' ≡ cut widths (take RECORD bs) → r ≡ same_list (uncounted f) (uncounted f') → r ≡ (same bs && multiplier bs)
group-written {bs} {k} {n} {q} g t m e h {n'} {number} {steps} {f} {f'} r a b c p o s =
    let z = second_is bs k n g.says g.count q g.may t in
    compared bs g.below g.long f f' r (p ∙ (λ i. in_order k 0 0 0 (a i) (z i) (b i) 0 nowhere nowhere nowhere (c i)) ∙ sym g.says.fields) o
    (count_of {f = f} p ∙ c ∙ sym (count_of {f = f'} o)) s
    ∙ and-true (same bs) (multiplier bs) (sym e ∙ h)

pub second-refused : {bs : List ℕ} {k n : ℕ} {q : Bool} → GroupRead bs k n q → q ≡ false → false ≡ (same bs && multiplier bs)
second-refused {bs} {k} {n} {q} g f =
    ap (λ (b : Bool). b && multiplier bs) (refuted (same bs) λ w. second-is-not bs k n g.says q g.may f (g.count ∙ second-written bs g.below g.long w))

-- A group and its lists.
pub no-group : (text : List ℕ) (d : ℕ) (bs : List ℕ) → false ≡ first_ok text d bs → none ≡ first_count text d bs
no-group text d bs e = ap (λ (b : Bool). pick b (some (stored (first_node bs))) none) e

record-passed : (s l m b : Bool) → l ≡ true → (s && m) ≡ true → b ≡ (s && ((l && m) && b))
record-passed s l m b p e = rw (p, and_left s m e, and_right s m e)

record-refused : (s l m b : Bool) → (s && m) ≡ false → false ≡ (s && ((l && m) && b))
record-refused true true m b e = rw e
record-refused true false m b e = refl
record-refused false l m b e = refl

pub record GroupTold (bs : List ℕ) : Type 0 where
  pub below : Below 256 bs
  pub long : RECORD ≤ length bs
  pub asks : (text : List ℕ) (d : ℕ) → head_ok text d (head_at bs) ≡ (ltb 0 d && multiplier bs)
  pub one : kind_at bs < 4 → second (head_at bs) ≡ 0
  pub refuses : (a b : Tree) → of_node (node_of (head_at bs) a b) ≡ group_refuses (kind_at bs) (from_bits 32 (field NUMBER bs)) (of_tree a) (of_tree b)
  pub counts : (a b : Tree) → count_ok (head_at bs) a b ≡ eqb (field COUNT bs) (group_count (kind_at bs) (from_bits 32 (field NUMBER bs)) (cap (count a)) (cap (count b)))

pub group-told : (bs : List ℕ) → Below 256 bs → RECORD + RECORD * (field FIRST bs + field SECOND bs) ≤ length bs → kind_at bs < 6 → GroupTold bs
group-told bs b l k =
    let says = group-says bs b (kind_at bs) refl k in
    record { below = b; long = omega arith; asks = says.asks; one = says.one; refuses = says.refuses; counts = says.counts }

-- a group's lists and its count
abbrev lists : List ℕ → ℕ → List ℕ → Bool
lists text d bs =
    formed text (d - 1) (first_bytes (head_at bs) bs)
    && (formed text (d - 1) (second_bytes (head_at bs) bs) && count_ok (head_at bs) (first_in bs) (second_in bs))

module _ (text : List ℕ) (d : ℕ) (bs : List ℕ) (g : GroupTold bs) where
  as-group : (same bs && ((ltb 0 d && multiplier bs) && lists text d bs)) ≡ first_ok text d bs
  as-group = ap (λ (b : Bool). same bs && (b && lists text d bs)) (sym (g.asks text d))

  pub no-level : d ≡ 0 → false ≡ first_ok text d bs
  no-level z =
      let none : ltb 0 d ≡ false = rw z in
      and-false (same bs) ((ltb 0 d && multiplier bs) && lists text d bs) (rw none) ∙ as-group

  pub group-refused : (r : Bool) → r ≡ (same bs && multiplier bs) → r ≡ false → false ≡ first_ok text d bs
  group-refused r e f = record-refused (same bs) (ltb 0 d) (multiplier bs) (lists text d bs) (sym e ∙ f) ∙ as-group

  -- what unrolling the group meets, by what unrolling its lists does
  pub group-meets : (r a b : Refusals) {kind number : ℕ} → kind ≡ kind_at bs → number ≡ field NUMBER bs →
      refuses a ≡ of_tree (first_in bs) → refuses b ≡ of_tree (second_in bs) →
      refuses r ≡ group_refuses kind (from_bits 32 number) (refuses a) (refuses b) → refuses r ≡ of_node (first_node bs)
  group-meets r a b zk zn ma mb e =
      e ∙ (λ i. group_refuses (zk i) (from_bits 32 (zn i)) (ma i) (mb i)) ∙ sym (g.refuses (first_in bs) (second_in bs))

-- A group whose record is passed, with n records in its first list, and what was answered of that list.
pub record FirstRead (text : List ℕ) (d : ℕ) (bs : List ℕ) (n : ℕ) (a : Option ℕ) : Type 0 where
  pub told : GroupTold bs
  pub level : 0 < d
  pub passed : (same bs && multiplier bs) ≡ true
  pub size : n ≡ field FIRST bs
  pub answer : a ≡ formed_count text (d - 1) (take (RECORD + RECORD * n - RECORD) (drop RECORD bs))

module _ {text : List ℕ} {d : ℕ} {bs : List ℕ} {n : ℕ} {a : Option ℕ} (one : FirstRead text d bs n a) where
  first-size : field FIRST bs ≡ first (head_at bs)
  first-size = first-written bs one.told.below one.told.long (and_left (same bs) (multiplier bs) one.passed)

  second-size : field SECOND bs ≡ second (head_at bs)
  second-size = second-written bs one.told.below one.told.long (and_left (same bs) (multiplier bs) one.passed)

  by-lists : lists text d bs ≡ first_ok text d bs
  by-lists =
      record-passed (same bs) (ltb 0 d) (multiplier bs) (lists text d bs) (lt-ltb 0 d one.level) one.passed
      ∙ as-group text d bs one.told

  first-slice : take (RECORD + RECORD * n - RECORD) (drop RECORD bs) ≡ first_bytes (head_at bs) bs
  first-slice =
      let c : RECORD + RECORD * n - RECORD ≡ RECORD * first (head_at bs) = omega (arith, one.size, first-size) in
      ap (λ (i : ℕ). take i (drop RECORD bs)) c

  first-told : a ≡ formed_count text (d - 1) (first_bytes (head_at bs) bs)
  first-told = one.answer ∙ ap (formed_count text (d - 1)) first-slice

  pub first-met : (v : code.Option Visited) (x : Visited) → v ≡ code.Some x → Meets v (unpack (take (RECORD + RECORD * n - RECORD) (drop RECORD bs))) →
      refuses x.met ≡ of_tree (first_in bs)
  first-met v x e m =
      subst (λ (y : code.Option Visited). Meets y (unpack (take (RECORD + RECORD * n - RECORD) (drop RECORD bs)))) e m ∙ ap (λ (l : List ℕ). of_tree (unpack l)) first-slice

  -- a group that is not binary has no second list
  pub none-second : kind_at bs < 4 → refuses none-met ≡ of_tree (second_in bs)
  unfolding unpack_from first_refusal
  none-second l =
      either_way refl refl
      ∙ ap (λ (i : ℕ). of_tree (unpack (take (RECORD * i) (drop (RECORD + RECORD * first (head_at bs)) bs)))) (sym (one.told.one l))

  pub first-refused : a ≡ none → false ≡ first_ok text d bs
  first-refused fails =
      ap (λ (b : Bool). b && (formed text (d - 1) (second_bytes (head_at bs) bs) && count_ok (head_at bs) (first_in bs) (second_in bs)))
      (sym (list-refused (formed text (d - 1) (first_bytes (head_at bs) bs)) _ (sym fails ∙ first-told)))
      ∙ by-lists

-- The first list has k steps; the second, with n' records, was answered too.
pub record SecondRead (text : List ℕ) (d : ℕ) (bs : List ℕ) (k : ℕ) (b : Option ℕ) : Type 0 where
  pub n : ℕ
  pub n' : ℕ
  pub one : FirstRead text d bs n (some k)
  pub size : n' ≡ field SECOND bs
  pub answer : b ≡ formed_count text (d - 1) (take (RECORD + RECORD * n + RECORD * n' - (RECORD + RECORD * n)) (drop (RECORD + RECORD * n) bs))

-- A group that is not binary has an empty second list, which needs no walk to be answered.
pub no_second : {text : List ℕ} {d : ℕ} {bs : List ℕ} {n k : ℕ} → FirstRead text d bs n (some k) → kind_at bs < 4 → SecondRead text d bs k (some 0)
unfolding unpack_from count
no_second {text} {d} {bs} {n} {k} one l =
    let empty : field SECOND bs ≡ 0 = second-size one ∙ one.told.one l in
    let z : 0 ≡ RECORD + RECORD * n + RECORD * field SECOND bs - (RECORD + RECORD * n) = omega arith in
    record {
      n = n;
      n' = field SECOND bs;
      one = one;
      size = refl;
      answer =
          ap (λ (b : Bool). pick b (some 0) none) (sym (formed-nil text (d - 1)))
          ∙ ap (λ (i : ℕ). formed_count text (d - 1) (take i (drop (RECORD + RECORD * n) bs))) z;
    }

module _ {text : List ℕ} {d : ℕ} {bs : List ℕ} {k : ℕ} {b : Option ℕ} (two : SecondRead text d bs k b) where
  first_count_lem : (formed text (d - 1) (first_bytes (head_at bs) bs) ≡ true) × (k ≡ cap (count (first_in bs)))
  first_count_lem = list-passed (formed text (d - 1) (first_bytes (head_at bs) bs)) _ k (first-told two.one)

  -- the second list as it is handed on
  abbrev pub second_slice : List ℕ
  second_slice = take (RECORD + RECORD * two.n + RECORD * two.n' - (RECORD + RECORD * two.n)) (drop (RECORD + RECORD * two.n) bs)

  second-slice : second_slice ≡ second_bytes (head_at bs) bs
  second-slice =
      let n = two.n in
      let n' = two.n' in
      let c : RECORD + RECORD * n ≡ RECORD + RECORD * first (head_at bs) = omega (arith, two.one.size, first-size two.one) in
      let c' : RECORD + RECORD * n + RECORD * n' - (RECORD + RECORD * n) ≡ RECORD * second (head_at bs) = omega (arith, two.size, second-size two.one) in
      λ i. take (c' i) (drop (c i) bs)

  second-told : b ≡ formed_count text (d - 1) (second_bytes (head_at bs) bs)
  second-told = two.answer ∙ ap (formed_count text (d - 1)) second-slice

  pub second-met : (v : code.Option Visited) (x : Visited) → v ≡ code.Some x → Meets v (unpack second_slice) → refuses x.met ≡ of_tree (second_in bs)
  second-met v x e m = subst (λ (y : code.Option Visited). Meets y (unpack second_slice)) e m ∙ ap (λ (l : List ℕ). of_tree (unpack l)) second-slice

  -- the second list and the count are left
  by-second : (formed text (d - 1) (second_bytes (head_at bs) bs) && count_ok (head_at bs) (first_in bs) (second_in bs)) ≡ first_ok text d bs
  by-second =
      ap (λ (x : Bool). x && (formed text (d - 1) (second_bytes (head_at bs) bs) && count_ok (head_at bs) (first_in bs) (second_in bs))) (sym first_count_lem.0)
      ∙ by-lists two.one

  pub second-list-refused : b ≡ none → false ≡ first_ok text d bs
  second-list-refused fails =
      ap (λ (x : Bool). x && count_ok (head_at bs) (first_in bs) (second_in bs))
      (sym (list-refused (formed text (d - 1) (second_bytes (head_at bs) bs)) _ (sym fails ∙ second-told)))
      ∙ by-second

  -- the count as it is compared
  count-compared : (k' : ℕ) → b ≡ some k' → {kind number stored' whole : ℕ} → kind ≡ kind_at bs → number ≡ field NUMBER bs →
      stored' ≡ field COUNT bs → whole ≡ group_count kind (from_bits 32 number) k k' → eqb stored' whole ≡ first_ok text d bs
  count-compared k' e {kind} {number} {stored'} {whole} zk zn zs zw =
      let p = first_count_lem.1 in
      let q = list-passed (formed text (d - 1) (second_bytes (head_at bs) bs)) _ k' (sym e ∙ second-told) in
      ap (eqb stored') zw
      ∙ (λ i. eqb (zs i) (group_count (zk i) (from_bits 32 (zn i)) (p i) (q.1 i)))
      ∙ sym (two.one.told.counts (first_in bs) (second_in bs))
      ∙ ap (λ (x : Bool). x && count_ok (head_at bs) (first_in bs) (second_in bs)) (sym q.0)
      ∙ by-second

  -- what is found of the group: its count, if it is the one that it stores, and what unrolling it meets
  pub group-found : (k' : ℕ) → b ≡ some k' → {kind number stored' whole : ℕ} → kind ≡ kind_at bs → number ≡ field NUMBER bs →
      stored' ≡ field COUNT bs → whole ≡ group_count kind (from_bits 32 number) k k' →
      (v : code.Option Visited) (met : Refusals) → refuses met ≡ of_node (first_node bs) → v ≡ pick (eqb stored' whole) (code.Some (record { steps = whole; met = met })) code.None →
      (step_count v ≡ first_count text d bs) × MeetsNode v (first_node bs)
  group-found k' e {stored' = stored'} {whole = whole} zk zn zs zw v met m z = go (eqb stored' whole) refl
    where
      ok : eqb stored' whole ≡ first_ok text d bs
      ok = count-compared k' e zk zn zs zw

      go : (t : Bool) → eqb stored' whole ≡ t → (step_count v ≡ first_count text d bs) × MeetsNode v (first_node bs)
      go true h =
          let is : v ≡ code.Some (record { steps = whole; met = met }) = z ∙ ap (λ (t : Bool). pick t (code.Some (record { steps = whole; met = met })) code.None) h in
          let g = two.one.told in
          let right : whole ≡ stored (first_node bs) =
          sym (eqb-true stored' whole h) ∙ zs
          ∙ count-written bs g.below g.long (and_left (same bs) (multiplier bs) two.one.passed) (first_in bs) (second_in bs)
          (right-count text d bs g.below (omega (arith, g.long)) (first_ok text d bs) refl (sym ok ∙ h)) in (
            ap step_count is ∙ (λ i. pick (sym h i) (some (right i)) none) ∙ ap (λ (t : Bool). pick t (some (stored (first_node bs))) none) ok,
            subst (λ (y : code.Option Visited). MeetsNode y (first_node bs)) (sym is) m,
          )
      go false h =
          let is : v ≡ code.None = z ∙ ap (λ (t : Bool). pick t (code.Some (record { steps = whole; met = met })) code.None) h in
          (ap step_count is ∙ no-group text d bs (sym h ∙ ok), subst (λ (y : code.Option Visited). MeetsNode y (first_node bs)) (sym is) tt)
