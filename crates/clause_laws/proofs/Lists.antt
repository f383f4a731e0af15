-- A list of records keeps the clauses exactly if it is well formed, by induction on the number of records: its first record, that record's
-- two lists and what follows. Assumes nothing.
use Prim.Native.Nat.{ℕ, zero, suc, ◌+◌, ◌-◌, ◌*◌, ◌≤◌, ◌<◌}
use mathlib.Core.Path.{◌≡◌, refl, sym, ap, ap₂, ◌∙◌, subst, subst₃}
use mathlib.Core.Bool.{Bool, true, false}
use mathlib.Core.List.{List, [], ◌∷◌}
use native.Mathlib.Omega.{arith}
use borrow.Author.Tests.{leb-true, le-leb, lt-leb, lt-ltb, ltb-true, eqb-true, eq-eqb}
use lib.Dec.{leb, ltb, eqb, lit<}
use lib.IntN.{nat_abs}
use lib.ListN.{length, get_or, take, drop, length-drop}
use lib.Seq.{length-take-le, drop-drop}
use Rattle.notation.specs.Basics.{pick, same_list}
use Rattle.notation.specs.Numbers.{from_bits}
use Rattle.notation.specs.Tree.{Tree}
use Rattle.notation.specs.Counts.{cap, count_node, count_body, stored}
use Rattle.notation.specs.Counts as counts
use Rattle.notation.specs.Packed.{RECORD, Head, leaf_head, group_head, binary_head, head_fields, head_record, head_at, unpack_from, unpack}
use Rattle.notation.specs.Clauses.{
  Fields,
  fields_of,
  kind,
  first,
  second,
  number,
  count,
  is_group,
  kind_ok,
  unused_ok,
  lists_end,
  groups_deep,
  steps_of,
  steps_in,
  counts_ok,
}
use Rattle.numbers.proofs.Positional.{Below, below-take, below-drop}
use Rattle.record.proofs.Packed.{field_lt, by-kind}
use Rattle.record.proofs.RoundTrip.{head_fields-fit}
use Rattle.record.proofs.Same.{same_refl, same-eq, same-record}
use Rattle.laws.proofs.Bools.{and_left, and_right}
use Rattle.well_formed.specs.Formed.{head_ok, both, first_bytes, second_bytes, rest_bytes, count_ok, node_of}
use Rattle.well_formed.specs.Formed as said
use Rattle.laws.proofs.Unpacking.{head-fits}
use Rattle.well_formed.proofs.Heads.{first-written, second-written, count-written}
use Rattle.well_formed.proofs.Opening.{both-sum, unpack-view}
use Rattle.well_formed.proofs.Formed.{Formed, formed-fact, formed-nil, formed-parts, parts-formed}
use Rattle.clause_laws.proofs.Rows.{fields-length, fields-take, fields-drop}
use Rattle.record.proofs.Written.{fields_at, listed_same, written, LeafIsOne, Clean, clean-same, same-clean}
use Rattle.clause_laws.proofs.Written.{◌and◌, unused-clean, clean-unused}
use Rattle.clause_laws.proofs.Asked.{asked, InBounds, single-layer, bounds-asked, asked-bounds}

-- The clauses of one record.
pub record RecordOk (text : List ℕ) (r : Fields) : Type 0 where
  pub kind_ok_lem : kind_ok r ≡ true
  pub unused-ok : unused_ok r ≡ true
  pub bounds : InBounds text r

-- A group is a level of nesting.
abbrev level : Head → ℕ
level (leaf_head x) = 0
level (group_head g n m c) = 1
level (binary_head g n n' m c) = 1

level-most : (h : Head) → level h ≤ 1
level-most (leaf_head x) = omega arith
level-most (group_head g n m c) = omega arith
level-most (binary_head g n n' m c) = omega arith

deep-enough : (text : List ℕ) (d : ℕ) (h : Head) → head_ok text 1 h ≡ true → level h ≤ d → head_ok text d h ≡ true
deep-enough text d (leaf_head x) e l = e
deep-enough text d (group_head g n m c) e l = lt-ltb 0 d l and e
deep-enough text d (binary_head g n n' m c) e l = lt-ltb 0 d l and e

at-depth : (text : List ℕ) (d : ℕ) (h : Head) → head_ok text d h ≡ true → (head_ok text 1 h ≡ true) × (level h ≤ d)
at-depth text d (leaf_head x) e = (e, omega arith)
at-depth text d (group_head g n m c) e = (and_right (ltb 0 d) _ e, ltb-true 0 d (and_left _ _ e))
at-depth text d (binary_head g n n' m c) e = (and_right (ltb 0 d) _ e, ltb-true 0 d (and_left _ _ e))

-- What the clauses of a record say of the head that it holds.
record Says (text bs : List ℕ) : Type 0 where
  exact : head_record (head_at bs) ≡ take RECORD bs
  head : head_ok text 1 (head_at bs) ≡ true
  deep : pick (is_group (fields_at bs)) 1 0 ≡ level (head_at bs)
  first_said : first (fields_at bs) ≡ said.first (head_at bs)
  second-said : second (fields_at bs) ≡ said.second (head_at bs)

-- `steps_of` by the kind
abbrev steps_as : (kind number a b : ℕ) → ℕ
steps_as k n a b = pick (leb k 5) (pick (eqb k 3) 0 (nat_abs (from_bits 32 n)) * pick (eqb k 4) (2 * (a + b)) (pick (eqb k 5) (2 * a + b) a)) 1

-- what a leaf stores is 1
leaf-is-one : (r : Fields) (a b : ℕ) → eqb (count r) (cap (steps_of r a b)) ≡ true → LeafIsOne r
leaf-is-one r a b = go (is_group r) _
  where
    go : (t : Bool) (n : ℕ) → eqb (count r) (cap (pick t n 1)) ≡ true → pick t (count r) 1 ≡ count r
    go true n e = refl
    go false n e = sym (eqb-true (count r) 1 e)

module _ (text bs : List ℕ) (below : Below 256 bs) (long : RECORD ≤ length bs) where
  -- a record is written as it stands exactly if its fields are
  by-fields : same_list (head_fields (head_at bs)) (fields_at bs) ≡ same_list (head_record (head_at bs)) (take RECORD bs)
  by-fields = same-record (head_at bs) bs (head_fields-fit (head_at bs) (head-fits bs below)) below long

  number_fits : number (fields_at bs) < 4294967296
  number_fits = field_lt bs below 3 (lit< tt)

  level-said : kind_ok (fields_at bs) ≡ true → pick (is_group (fields_at bs)) 1 0 ≡ level (head_at bs)
  level-said =
      by-kind (λ (k : ℕ) (h : Head). leb k 14 ≡ true → pick (leb k 5) 1 0 ≡ level h) bs (kind (fields_at bs)) refl (
        λ e. refl,
        (
          λ e. refl,
          (
            λ e. refl,
            (
              λ e. refl,
              (
                λ e. refl,
                (
                  λ e. refl,
                  (
                    λ e. refl,
                    (
                      λ e. refl,
                      (λ e. refl, (λ e. refl, (λ e. refl, (λ e. refl, (λ e. refl, (λ e. refl, (λ e. refl, tt))))))),
                    ),
                  ),
                ),
              ),
            ),
          ),
        ),
      )
      (λ j l e. absurd (omega (arith, leb-true j 14 e)))

  says_of : kind_ok (fields_at bs) ≡ true → same_list (head_record (head_at bs)) (take RECORD bs) ≡ true → head_ok text 1 (head_at bs) ≡ true → Says text bs
  says_of k e h =
      record {
        exact = same-eq (head_record (head_at bs)) (take RECORD bs) e;
        head = h;
        deep = level-said k;
        first_said = first-written bs below long e;
        second-said = second-written bs below long e;
      }

  record-says : RecordOk text (fields_at bs) → LeafIsOne (fields_at bs) → Says text bs
  record-says o one =
      let r = fields_at bs in
      let c : Clean r = unused-clean r o.unused-ok (single-layer text r o.bounds) in
      let e : head_fields (head_at bs) ≡ r = written bs below o.kind_ok_lem ∙ clean-same r c one ∙ listed_same bs in
      says_of o.kind_ok_lem
      (sym by-fields ∙ subst (λ (l : List ℕ). same_list (head_fields (head_at bs)) l ≡ true) e (same_refl (head_fields (head_at bs))))
      (asked text bs o.kind_ok_lem ∙ bounds-asked text r c o.bounds number_fits)

  kind-written : head_fields (head_at bs) ≡ fields_at bs → kind_ok (fields_at bs) ≡ true
  kind-written =
      by-kind (λ (k : ℕ) (h : Head). k ≡ kind (fields_at bs) → head_fields h ≡ fields_at bs → leb k 14 ≡ true) bs (kind (fields_at bs)) refl (
        λ e z. refl,
        (
          λ e z. refl,
          (
            λ e z. refl,
            (
              λ e z. refl,
              (
                λ e z. refl,
                (
                  λ e z. refl,
                  (
                    λ e z. refl,
                    (
                      λ e z. refl,
                      (λ e z. refl, (λ e z. refl, (λ e z. refl, (λ e z. refl, (λ e z. refl, (λ e z. refl, (λ e z. refl, tt))))))),
                    ),
                  ),
                ),
              ),
            ),
          ),
        ),
      )
      (λ j l e z. absurd (let b : 128 ≡ get_or (fields_at bs) 0 0 = ap (λ (s : List ℕ). get_or s 0 0) z in omega arith))
      refl

  says-record : head_record (head_at bs) ≡ take RECORD bs → head_ok text 1 (head_at bs) ≡ true → RecordOk text (fields_at bs) × Says text bs
  says-record x h =
      let r = fields_at bs in
      let s : same_list (head_record (head_at bs)) (take RECORD bs) ≡ true =
      subst (λ (l : List ℕ). same_list (head_record (head_at bs)) l ≡ true) x (same_refl (head_record (head_at bs)))
      in
      let e : head_fields (head_at bs) ≡ r = same-eq (head_fields (head_at bs)) r (by-fields ∙ s) in
      let k : kind_ok r ≡ true = kind-written e in
      let c : Clean r = same-clean r (sym (written bs below k) ∙ e ∙ sym (listed_same bs)) in (
        record { kind_ok_lem = k; unused-ok = clean-unused r c; bounds = asked-bounds text r c (sym (asked text bs k) ∙ h) number_fits },
        says_of k s h,
      )

  -- the steps of the node that the record says, and whether it stores their number
  steps-said : (a b : Tree) → steps_of (fields_at bs) (counts.count a) (counts.count b) ≡ count_node (node_of (head_at bs) a b)
  unfolding count_node count_body
  steps-said a b =
      by-kind (λ (k : ℕ) (h : Head). steps_as k (number (fields_at bs)) (counts.count a) (counts.count b) ≡ count_node (node_of h a b)) bs (kind (fields_at bs)) refl
      (refl, (refl, (refl, (refl, (refl, (refl, (refl, (refl, (refl, (refl, (refl, (refl, (refl, (refl, (refl, tt)))))))))))))))
      (λ j l. rw (lt-leb j 5 (omega arith)))

  count-said : (a b : Tree) → count (fields_at bs) ≡ stored (node_of (head_at bs) a b) → count_ok (head_at bs) a b ≡ true
  count-said a b =
      by-kind (λ (k : ℕ) (h : Head). count (fields_at bs) ≡ stored (node_of h a b) → count_ok h a b ≡ true) bs (kind (fields_at bs)) refl (
        eq-eqb _ _,
        (
          eq-eqb _ _,
          (
            eq-eqb _ _,
            (
              eq-eqb _ _,
              (
                eq-eqb _ _,
                (
                  eq-eqb _ _,
                  (
                    λ e. refl,
                    (
                      λ e. refl,
                      (λ e. refl, (λ e. refl, (λ e. refl, (λ e. refl, (λ e. refl, (λ e. refl, (λ e. refl, tt))))))),
                    ),
                  ),
                ),
              ),
            ),
          ),
        ),
      )
      (λ j l e. refl)

-- The clauses of a list of records; k is the fuel of those that walk it, d the nesting that is left.
abbrev pub AllOk : List ℕ → List Fields → Type 0
AllOk text [] = Unit {0}
AllOk text (r ∷ rs) = RecordOk text r × AllOk text rs

pub record ListOk (text : List ℕ) (k d : ℕ) (rs : List Fields) : Type 0 where
  pub records : AllOk text rs
  pub ends : lists_end k rs ≡ true
  pub deep : groups_deep k rs ≤ d
  pub counted : counts_ok k rs ≡ true

all_take : (text : List ℕ) (n : ℕ) (rs : List Fields) → AllOk text rs → AllOk text (take n rs)
all_take text zero rs a = tt
all_take text (suc n) [] a = tt
all_take text (suc n) (r ∷ rs) a = (a.0, all_take text n rs a.1)

all_drop : (text : List ℕ) (n : ℕ) (rs : List Fields) → AllOk text rs → AllOk text (drop n rs)
all_drop text zero rs a = a
all_drop text (suc n) [] a = tt
all_drop text (suc n) (r ∷ rs) a = all_drop text n rs a.1

all_join : (text : List ℕ) (n : ℕ) (rs : List Fields) → AllOk text (take n rs) → AllOk text (drop n rs) → AllOk text rs
all_join text zero rs a b = b
all_join text (suc n) [] a b = tt
all_join text (suc n) (r ∷ rs) a b = (a.0, all_join text n rs a.1 b)

-- The three clauses that walk a list, of a record r with x and y records in its lists, u for its level of nesting.
record Walked (k d : ℕ) (r : Fields) (rs : List Fields) (u x y : ℕ) : Type 0 where
  fit : x + y ≤ length rs
  first_ends : lists_end k (take x rs) ≡ true
  second-ends : lists_end k (take y (drop x rs)) ≡ true
  rest-ends : lists_end k (drop (x + y) rs) ≡ true
  first-deep : u + groups_deep k (take x rs) ≤ d
  second-deep : u + groups_deep k (take y (drop x rs)) ≤ d
  rest-deep : groups_deep k (drop (x + y) rs) ≤ d
  own-count : eqb (count r) (cap (steps_of r (steps_in k (take x rs)) (steps_in k (take y (drop x rs))))) ≡ true
  first_counted : counts_ok k (take x rs) ≡ true
  second-counted : counts_ok k (take y (drop x rs)) ≡ true
  rest-counted : counts_ok k (drop (x + y) rs) ≡ true

abbrev WalkedFrom : ℕ → ℕ → Fields → List Fields → Type 0
WalkedFrom k d r rs = Walked k d r rs (pick (is_group r) 1 0) (first r) (second r)

walked : (k d : ℕ) (r : Fields) (rs : List Fields) → lists_end (suc k) (r ∷ rs) ≡ true → groups_deep (suc k) (r ∷ rs) ≤ d → counts_ok (suc k) (r ∷ rs) ≡ true → WalkedFrom k d r rs
unfolding lists_end groups_deep counts_ok
walked k d r rs e l c =
    record {
      fit = leb-true (first r + second r) (length rs) (search (and_left, and_right));
      first_ends = search (and_left, and_right);
      second-ends = search (and_left, and_right);
      rest-ends = search (and_left, and_right);
      first-deep = omega arith;
      second-deep = omega arith;
      rest-deep = omega arith;
      own-count = search (and_left, and_right);
      first_counted = search (and_left, and_right);
      second-counted = search (and_left, and_right);
      rest-counted = search (and_left, and_right);
    }

walking : (k d : ℕ) (r : Fields) (rs : List Fields) → WalkedFrom k d r rs → (lists_end (suc k) (r ∷ rs) ≡ true) × (groups_deep (suc k) (r ∷ rs) ≤ d) × (counts_ok (suc k) (r ∷ rs) ≡ true)
unfolding lists_end groups_deep counts_ok
walking k d r rs w = (
  le-leb (first r + second r) (length rs) w.fit and w.first_ends and w.second-ends and w.rest-ends,
  omega arith,
  w.own-count and w.first_counted and w.second-counted and w.rest-counted,
)

none_deep : (k : ℕ) → groups_deep k [] ≡ 0
unfolding groups_deep
none_deep zero = refl
none_deep (suc k) = refl

none-ends : (k : ℕ) → lists_end k [] ≡ true
unfolding lists_end
none-ends zero = refl
none-ends (suc k) = refl

none-counted : (k : ℕ) → counts_ok k [] ≡ true
unfolding counts_ok
none-counted zero = refl
none-counted (suc k) = refl

none-steps : (k : ℕ) → steps_in k [] ≡ 0
unfolding steps_in
none-steps zero = refl
none-steps (suc k) = refl

-- a leaf has no lists, so that they are no deeper one level down
first-lower : (k d : ℕ) (h : Head) (rs : List Fields) → level h + groups_deep k (take (said.first h) rs) ≤ d → groups_deep k (take (said.first h) rs) ≤ d - 1
first-lower k d (leaf_head x) rs l = omega (arith, none_deep k)
first-lower k d (group_head g n m c) rs l = omega arith
first-lower k d (binary_head g n n' m c) rs l = omega arith

second-lower : (k d : ℕ) (h : Head) (rs : List Fields) → level h + groups_deep k (take (said.second h) rs) ≤ d → groups_deep k (take (said.second h) rs) ≤ d - 1
second-lower k d (leaf_head x) rs l = omega (arith, none_deep k)
second-lower k d (group_head g n m c) rs l = omega arith
second-lower k d (binary_head g n n' m c) rs l = omega arith

-- The fields of the three parts of a list whose first record says h, and their sizes.
module _ (n : ℕ) (bs : List ℕ) (h : Head) (size : length bs ≡ RECORD * suc n) (fit : said.first h + said.second h ≤ n) where
  abbrev after : List Fields
  after = fields_of n (drop RECORD bs)

  first-size : length (first_bytes h bs) ≡ RECORD * said.first h
  first-size = length-take-le (RECORD * said.first h) (drop RECORD bs) (rw length-drop (omega arith))

  second-size : length (second_bytes h bs) ≡ RECORD * said.second h
  second-size = length-take-le (RECORD * said.second h) (drop (RECORD + RECORD * said.first h) bs) (rw length-drop (omega arith))

  rest-size : length (rest_bytes h bs) ≡ RECORD * (n - (said.first h + said.second h))
  rest-size = length-drop (RECORD + RECORD * both h) bs ∙ omega (arith, both-sum h)

  first-fields : fields_of (said.first h) (first_bytes h bs) ≡ take (said.first h) after
  first-fields = fields-take (said.first h) n (drop RECORD bs) (omega arith) (omega (arith, first-size))

  past : (m : ℕ) → m ≤ n → fields_of (n - m) (drop (RECORD + RECORD * m) bs) ≡ drop m after
  past m l =
      ap (fields_of (n - m)) (sym (drop-drop (RECORD * m) RECORD bs))
      ∙ fields-drop m n (n - m) (drop RECORD bs) (omega arith)

  second-fields : fields_of (said.second h) (second_bytes h bs) ≡ take (said.second h) (drop (said.first h) after)
  second-fields =
      fields-take (said.second h) (n - said.first h) (drop (RECORD + RECORD * said.first h) bs) (omega arith) (omega (arith, second-size))
      ∙ ap (take (said.second h)) (past (said.first h) (omega arith))

  rest-fields : fields_of (n - (said.first h + said.second h)) (rest_bytes h bs) ≡ drop (said.first h + said.second h) after
  rest-fields =
      ap (λ (m : ℕ). fields_of (n - (said.first h + said.second h)) (drop (RECORD + RECORD * m) bs)) (both-sum h)
      ∙ past (said.first h + said.second h) fit

-- One more record, where fewer keep the clauses exactly if they are well formed, and have as many steps as the nodes then.
abbrev pub Agree : List ℕ → ℕ → Type 0
Agree text k =
    (n d : ℕ) (bs : List ℕ) → n ≤ k → length bs ≡ RECORD * n → Below 256 bs →
    (ListOk text k d (fields_of n bs) → Formed text d bs)
    × (Formed text d bs → ListOk text k d (fields_of n bs))
    × (Formed text d bs → steps_in k (fields_of n bs) ≡ counts.count (unpack bs))

module _ (text : List ℕ) (k : ℕ) (ih : Agree text k) (n d : ℕ) (bs : List ℕ) (few : n ≤ k) (size : length bs ≡ RECORD * suc n) (below : Below 256 bs) where
  abbrev rest : List Fields
  rest = fields_of n (drop RECORD bs)

  abbrev head : Head
  head = head_at bs

  first_below : Below 256 (first_bytes head bs)
  first_below = below-take 256 (RECORD * said.first head) (drop RECORD bs) (lit< tt) (below-drop 256 RECORD bs below)

  second_below : Below 256 (second_bytes head bs)
  second_below =
      below-take 256 (RECORD * said.second head) (drop (RECORD + RECORD * said.first head) bs) (lit< tt) (below-drop 256 (RECORD + RECORD * said.first head) bs below)

  rest_below : Below 256 (rest_bytes head bs)
  rest_below = below-drop 256 (RECORD + RECORD * both head) bs below

  rest-length : length rest ≡ n
  rest-length = fields-length n (drop RECORD bs)

  long : RECORD ≤ length bs
  long = omega arith

  abbrev list_one : Tree
  list_one = unpack (first_bytes head bs)

  abbrev list_two : Tree
  list_two = unpack (second_bytes head bs)

  -- the steps of the three parts, where they are well formed
  module _ (fit : said.first head + said.second head ≤ n) where
    first-steps : Formed text (d - 1) (first_bytes head bs) → steps_in k (take (said.first head) rest) ≡ counts.count list_one
    first-steps f =
        ap (steps_in k) (sym (first-fields n bs head size fit))
        ∙ (ih (said.first head) (d - 1) (first_bytes head bs) (omega arith) (first-size n bs head size fit) first_below).2 f

    second-steps : Formed text (d - 1) (second_bytes head bs) → steps_in k (take (said.second head) (drop (said.first head) rest)) ≡ counts.count list_two
    second-steps f =
        ap (steps_in k) (sym (second-fields n bs head size fit))
        ∙ (ih (said.second head) (d - 1) (second_bytes head bs) (omega arith) (second-size n bs head size fit) second_below).2 f

    rest-steps : Formed text d (rest_bytes head bs) → steps_in k (drop (said.first head + said.second head) rest) ≡ counts.count (unpack (rest_bytes head bs))
    rest-steps f =
        ap (steps_in k) (sym (rest-fields n bs head size fit))
        ∙ (ih (n - (said.first head + said.second head)) d (rest_bytes head bs) (omega arith) (rest-size n bs head size fit) rest_below).2 f

    -- and those of the first node
    node-steps : Formed text (d - 1) (first_bytes head bs) → Formed text (d - 1) (second_bytes head bs) →
        steps_of (fields_at bs) (steps_in k (take (said.first head) rest)) (steps_in k (take (said.second head) (drop (said.first head) rest)))
        ≡ count_node (node_of head list_one list_two)
    node-steps f g = ap₂ (steps_of (fields_at bs)) (first-steps f) (second-steps g) ∙ steps-said text bs below long list_one list_two

  formed-steps : Formed text d bs → steps_in (suc k) (fields_at bs ∷ rest) ≡ counts.count (unpack bs)
  unfolding steps_in counts.count
  formed-steps f =
      let p = formed-parts text d bs below (omega arith) f in
      let s = (says-record text bs below long p.exact (at-depth text d head p.head).0).1 in
      let fit : said.first head + said.second head ≤ n = omega (arith, p.long, both-sum head) in
      (λ i.
      let x = s.first_said i in
      let y = s.second-said i in
      steps_of (fields_at bs) (steps_in k (take x rest)) (steps_in k (take y (drop x rest))) + steps_in k (drop (x + y) rest))
      ∙ ap₂ (λ (a b : ℕ). a + b) (node-steps fit p.list p.list') (rest-steps fit p.rest)
      ∙ sym (ap counts.count (unpack-view bs (omega arith)))

  keeps-formed : ListOk text (suc k) d (fields_at bs ∷ rest) → Formed text d bs
  keeps-formed o =
      let step = walked k d (fields_at bs) rest o.ends o.deep o.counted in
      let s : Says text bs = record-says text bs below long o.records.0 (leaf-is-one (fields_at bs) _ _ step.own-count) in
      let w : Walked k d (fields_at bs) rest (level head) (said.first head) (said.second head) =
      subst₃ (Walked k d (fields_at bs) rest) s.deep s.first_said s.second-said step
      in
      let fit : said.first head + said.second head ≤ n = omega (arith, w.fit, rest-length) in
      let a : AllOk text rest = o.records.1 in
      let l = w.first-deep in
      let one : Formed text (d - 1) (first_bytes head bs) =
      (ih (said.first head) (d - 1) (first_bytes head bs) (omega arith) (first-size n bs head size fit) first_below).0
      (subst (ListOk text k (d - 1)) (sym (first-fields n bs head size fit))
      (record {
        records = all_take text (said.first head) rest a;
        ends = w.first_ends;
        deep = first-lower k d head rest w.first-deep;
        counted = w.first_counted;
      }))
      in
      let two : Formed text (d - 1) (second_bytes head bs) =
      (ih (said.second head) (d - 1) (second_bytes head bs) (omega arith) (second-size n bs head size fit) second_below).0
      (subst (ListOk text k (d - 1)) (sym (second-fields n bs head size fit))
      (record {
        records = all_take text (said.second head) (drop (said.first head) rest) (all_drop text (said.first head) rest a);
        ends = w.second-ends;
        deep = second-lower k d head (drop (said.first head) rest) w.second-deep;
        counted = w.second-counted;
      }))
      in
      parts-formed text d bs (omega arith)
      (record {
        exact = s.exact;
        long = omega (arith, both-sum head);
        head = deep-enough text d head s.head (omega arith);
        list = one;
        list' = two;
        count = count-said text bs below long list_one list_two (eqb-true (count (fields_at bs)) _ w.own-count ∙ ap cap (node-steps fit one two));
        rest =
            (ih (n - (said.first head + said.second head)) d (rest_bytes head bs) (omega arith) (rest-size n bs head size fit) rest_below).0
            (subst (ListOk text k d) (sym (rest-fields n bs head size fit))
            (record {
              records = all_drop text (said.first head + said.second head) rest a;
              ends = w.rest-ends;
              deep = w.rest-deep;
              counted = w.rest-counted;
            }));
      })

  formed-keeps : Formed text d bs → ListOk text (suc k) d (fields_at bs ∷ rest)
  formed-keeps f =
      let p = formed-parts text d bs below (omega arith) f in
      let g = at-depth text d head p.head in
      let o = says-record text bs below long p.exact g.0 in
      let s = o.1 in
      let fit : said.first head + said.second head ≤ n = omega (arith, p.long, both-sum head) in
      let x : ListOk text k (d - 1) (take (said.first head) rest) =
      subst (ListOk text k (d - 1)) (first-fields n bs head size fit)
      ((ih (said.first head) (d - 1) (first_bytes head bs) (omega arith) (first-size n bs head size fit) first_below).1 p.list)
      in
      let y : ListOk text k (d - 1) (take (said.second head) (drop (said.first head) rest)) =
      subst (ListOk text k (d - 1)) (second-fields n bs head size fit)
      ((ih (said.second head) (d - 1) (second_bytes head bs) (omega arith) (second-size n bs head size fit) second_below).1 p.list')
      in
      let z : ListOk text k d (drop (said.first head + said.second head) rest) =
      subst (ListOk text k d) (rest-fields n bs head size fit)
      ((ih (n - (said.first head + said.second head)) d (rest_bytes head bs) (omega arith) (rest-size n bs head size fit) rest_below).1 p.rest)
      in
      let low = level-most head in
      let exact : same_list (head_record head) (take RECORD bs) ≡ true =
      subst (λ (l : List ℕ). same_list (head_record head) l ≡ true) p.exact (same_refl (head_record head))
      in
      let w : Walked k d (fields_at bs) rest (level head) (said.first head) (said.second head) =
      record {
        fit = omega (arith, rest-length);
        first_ends = x.ends;
        second-ends = y.ends;
        rest-ends = z.ends;
        first-deep = omega (arith, x.deep, g.1);
        second-deep = omega (arith, y.deep, g.1);
        rest-deep = z.deep;
        own-count =
            eq-eqb (count (fields_at bs)) _
            (count-written bs below long exact list_one list_two p.count ∙ sym (ap cap (node-steps fit p.list p.list')));
        first_counted = x.counted;
        second-counted = y.counted;
        rest-counted = z.counted;
      }
      in
      let v = walking k d (fields_at bs) rest (subst₃ (Walked k d (fields_at bs) rest) (sym s.deep) (sym s.first_said) (sym s.second-said) w) in
      let more : AllOk text (drop (said.second head) (drop (said.first head) rest)) =
      subst (AllOk text) (sym (drop-drop (said.second head) (said.first head) rest)) z.records
      in
      record {
        records = (o.0, all_join text (said.first head) rest x.records (all_join text (said.second head) (drop (said.first head) rest) y.records more));
        ends = v.0;
        deep = v.1;
        counted = v.2;
      }

no_bytes : (bs : List ℕ) → length bs ≡ 0 → bs ≡ []
no_bytes [] e = refl
no_bytes (b ∷ bs) e = absurd (omega arith)

none-agree : (text : List ℕ) (k d : ℕ) (bs : List ℕ) → length bs ≡ 0 →
    (ListOk text k d [] → Formed text d bs) × (Formed text d bs → ListOk text k d []) × (Formed text d bs → steps_in k [] ≡ counts.count (unpack bs))
unfolding unpack_from counts.count
none-agree text k d bs e = (
  λ o. subst (Formed text d) (sym (no_bytes bs e)) (formed-fact text d [] (formed-nil text d)),
  λ f. record { records = tt; ends = none-ends k; deep = omega (arith, none_deep k); counted = none-counted k },
  λ f. none-steps k ∙ ap (λ (l : List ℕ). counts.count (unpack l)) (sym (no_bytes bs e)),
)

agree-none : (text : List ℕ) → Agree text 0
unfolding fields_of
agree-none text zero d bs h e b = none-agree text 0 d bs e
agree-none text (suc n) d bs h e b = absurd (omega arith)

agree-more : (text : List ℕ) (k : ℕ) → Agree text k → Agree text (suc k)
unfolding fields_of
agree-more text k ih zero d bs h e b = none-agree text (suc k) d bs e
agree-more text k ih (suc n) d bs h e b =
    (keeps-formed text k ih n d bs (omega arith) e b, formed-keeps text k ih n d bs (omega arith) e b, formed-steps text k ih n d bs (omega arith) e b)

pub agree : (text : List ℕ) (k : ℕ) → Agree text k
agree text zero = agree-none text
agree text (suc k) = agree-more text k (agree text k)
