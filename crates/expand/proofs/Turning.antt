-- A run of steps turned round in place: the first and the last change places, each undone, and so inwards. Assumes nothing.
use Prim.Native.Nat.{ℕ, ◌+◌, ◌-◌, ◌*◌, ◌≤◌, ◌<◌}
use mathlib.Core.Path.{◌≡◌, refl, sym, ap, ap₂, ◌∙◌, subst}
use mathlib.Core.List.{List, [], ◌∷◌, ◌++◌, append_assoc, append-nil}
use native.Mathlib.Omega.{arith}
use borrow.Rule.Slice.PartMut.{put_mid, mid_of, same_len_mid}
use lib.ListN.{length, take, drop, length-append, length-drop, take-append-drop}
use lib.Seq.{take_at, drop_at, drop-drop, drop-length}
use Rattle.notation.specs.Tree.{Leaf}
use Rattle.notation.specs.Invert.{undo}
use Rattle.notation.specs.Packed.{RECORD, Head, leaf_head, leaf_record, head_record, head_at}
use Rattle.notation.specs.Entries.{records}
use Rattle.record.specs.Range.{FitsLeaf}
use Rattle.record.specs.Undone.{StartsRecord, undone_head}
use Rattle.record.proofs.RoundTrip.{length-head_record}
use Rattle.record.proofs.Undoing.{Undone, head-with, starts_with, undone-with}
use Rattle.laws.specs.All.{All}
use Rattle.laws.proofs.All.{all_head, all_tail, all_left, all_right}
use Rattle.laws.specs.Unrolled.{backwards}
use Rattle.laws.proofs.Unrolling.{backwards-append, long-backwards}
use Rattle.nodes.specs.Nodes.{part}
use Rattle.expand.specs.Steps.{as_steps, AreSteps, last_of, undone_record}
use Rattle.expand.proofs.Parts.{Three, from-part, the-part, put-part}
use Rattle.expand.proofs.Steps.{length-records, records-append}
use Rattle.expand.proofs.AsSteps.{records-backwards}

-- Bytes with a record at either end.
record Ends (s x m y : List ℕ) : Type 0 where
  bytes : s ≡ x ++ (m ++ y)
  first : length x ≡ RECORD
  last : length y ≡ RECORD

module _ {s x m y : List ℕ} (e : Ends s x m y) where
  ends-long : length s ≡ RECORD + (length m + RECORD)
  ends-long = ap length e.bytes ∙ length-append x (m ++ y) ∙ omega (arith, length-append m y, e.first, e.last)

  after_first : drop RECORD s ≡ m ++ y
  after_first = ap (drop RECORD) e.bytes ∙ drop_at x (m ++ y) RECORD e.first

  first_part : part 0 RECORD s ≡ x
  first_part = ap (take RECORD) e.bytes ∙ take_at x (m ++ y) RECORD e.first

  first-replaced : {s₁ x' : List ℕ} → length x' ≡ RECORD → s₁ ≡ x' ++ drop RECORD s → Ends s₁ x' m y
  first-replaced {s₁} {x'} l p = record { bytes = p ∙ ap (λ (z : List ℕ). x' ++ z) after_first; first = l; last = e.last }

  middle-part : part RECORD (length s - RECORD) s ≡ m
  middle-part =
      let z : length m ≡ length s - RECORD - RECORD = omega (arith, ends-long) in
      ap (take (length s - RECORD - RECORD)) after_first ∙ take_at m y (length s - RECORD - RECORD) z

  module _ (to : ℕ) (t : to + RECORD ≡ length s) where
    last-three : Three s (x ++ m) y [] to (length s)
    last-three =
        record {
          bytes = e.bytes ∙ sym (append_assoc x m y) ∙ ap (λ (z : List ℕ). (x ++ m) ++ z) (sym (append-nil y));
          start = length-append x m ∙ omega (arith, ends-long, e.first);
          end = omega (arith, e.last);
        }

    last-part : part to (length s) s ≡ y
    last-part = the-part last-three

    last-replaced : {y' : List ℕ} → length y' ≡ RECORD → Ends (put_mid to (length s - to) s y') x m y'
    last-replaced {y'} l =
        record { bytes = put-part last-three y' ∙ ap (λ (z : List ℕ). (x ++ m) ++ z) (append-nil y') ∙ append_assoc x m y'; first = e.first; last = l }

-- what is copied of a record lies over all of another
over-all : {x r : List ℕ} (z : List ℕ) → length z ≡ RECORD → r ≡ x ++ drop RECORD z → r ≡ x
over-all {x} z l e = e ∙ ap (λ (k : ℕ). x ++ drop k z) (sym l) ∙ ap (λ (d : List ℕ). x ++ d) (drop-length z) ∙ append-nil x

-- given a run of records whose ends are exchanged
module _ {s : List ℕ} (l : RECORD + RECORD ≤ length s) (b : StartsRecord s × StartsRecord (last_of s)) where
  abbrev first_head : Head
  first_head = head_at s

  abbrev last-head : Head
  last-head = head_at (last_of s)

  abbrev to : ℕ
  to = length s - RECORD

  abbrev between : List ℕ
  between = part RECORD to s

  to_last : to + RECORD ≡ length s
  to_last = omega arith

  both_ends : Ends s (head_record first_head) between (head_record last-head)
  both_ends =
      record {
        bytes = sym b.0.whole ∙ ap (λ (z : List ℕ). head_record first_head ++ z)
            (sym (take-append-drop (to - RECORD) (drop RECORD s)) ∙ ap (λ (z : List ℕ). between ++ z) (drop-drop (to - RECORD) RECORD s ∙ ap (λ (k : ℕ). drop k s) back ∙ alone));
        first = length-head_record first_head;
        last = length-head_record last-head;
      }
    where
      back : RECORD + (to - RECORD) ≡ to
      back = omega (arith, to_last)

      long : length (last_of s) ≡ RECORD
      long = length-drop to s ∙ omega (arith, to_last)

      alone : last_of s ≡ head_record last-head
      alone = over-all (last_of s) long (sym b.1.whole)

  module _ {first last s₁ y : List ℕ} (e : first ≡ part 0 RECORD s ++ []) (e' : last ≡ part to (length s) s ++ [])
      (c : s₁ ≡ last ++ drop RECORD s) (c' : y ≡ first ++ drop RECORD (part to (length s₁) s₁)) where
    first-copied : first ≡ head_record first_head
    first-copied = e ∙ append-nil (part 0 RECORD s) ∙ first_part both_ends

    last-copied : last ≡ head_record last-head
    last-copied = e' ∙ append-nil (part to (length s) s) ∙ last-part both_ends to to_last

    one-copied : Ends s₁ (head_record last-head) between (head_record last-head)
    one-copied = first-replaced both_ends (length-head_record last-head) (c ∙ ap (λ (d : List ℕ). d ++ drop RECORD s) last-copied)

    to-last₁ : to + RECORD ≡ length s₁
    to-last₁ = to_last ∙ ends-long both_ends ∙ sym (ends-long one-copied)

    y-is : y ≡ head_record first_head
    y-is = over-all (part to (length s₁) s₁) (ap length (last-part one-copied to to-last₁) ∙ length-head_record last-head) c' ∙ first-copied

    exchanged : Ends (put_mid to (length s₁ - to) s₁ y) (head_record last-head) between (head_record first_head)
    exchanged =
        subst (Ends (put_mid to (length s₁ - to) s₁ y) (head_record last-head) between) y-is
        (last-replaced one-copied to to-last₁ (ap length y-is ∙ length-head_record first_head))

    pub front-starts : StartsRecord (put_mid to (length s₁ - to) s₁ y)
    front-starts = starts_with _ last-head (between ++ head_record first_head) b.1.fits exchanged.bytes

    module _ {s₃ : List ℕ} (u : Undone (put_mid to (length s₁ - to) s₁ y) s₃) where
      front-undone : Ends s₃ (head_record (undone_head last-head)) between (head_record first_head)
      front-undone =
          record {
            bytes = undone-with _ last-head (between ++ head_record first_head) b.1.fits exchanged.bytes u;
            first = length-head_record (undone_head last-head);
            last = length-head_record first_head;
          }

      to-last₃ : to + RECORD ≡ length s₃
      to-last₃ = to_last ∙ ends-long both_ends ∙ sym (ends-long front-undone)

      back_is : part to (length s₃) s₃ ≡ head_record first_head ++ []
      back_is = last-part front-undone to to-last₃ ∙ sym (append-nil (head_record first_head))

      pub back-starts : StartsRecord (part to (length s₃) s₃)
      back-starts = starts_with _ first_head [] b.0.fits back_is

      pub ends-exchanged : {y₃ : List ℕ} → Undone (part to (length s₃) s₃) y₃ → put_mid to (length s₃ - to) s₃ y₃ ≡ undone_record (last_of s) ++ (between ++ undone_record s)
      ends-exchanged {y₃} v =
          let p : y₃ ≡ head_record (undone_head first_head) = undone-with _ first_head [] b.0.fits back_is v ∙ append-nil (head_record (undone_head first_head)) in
          (last-replaced front-undone to to-last₃ (ap length p ∙ length-head_record (undone_head first_head))).bytes
          ∙ ap (λ (d : List ℕ). head_record (undone_head last-head) ++ (between ++ d)) p

-- A list of two or more, taken apart at both ends.
record Parted (l : List Leaf) : Type 0 where
  first : Leaf
  middle : List Leaf
  last : Leaf
  is : l ≡ first ∷ (middle ++ (last ∷ []))

parted : (l : List Leaf) → 2 ≤ length l → Parted l
parted [] h = absurd (omega arith)
parted (x ∷ []) h = absurd (omega arith)
parted (x ∷ (z ∷ l)) h = let p = from z l in record { first = x; middle = p.0; last = p.1.0; is = ap (λ (d : List Leaf). x ∷ d) p.1.1 }
  where
    from : (z : Leaf) (l : List Leaf) → (m : List Leaf) × ((y : Leaf) × (z ∷ l ≡ m ++ (y ∷ [])))
    from z [] = ([], (z, refl))
    from z (w ∷ l) = let p = from w l in (z ∷ p.0, (p.1.0, ap (λ (d : List Leaf). z ∷ d) p.1.1))

parted-records : {l : List Leaf} (p : Parted l) → records l ≡ leaf_record p.first ++ (records p.middle ++ leaf_record p.last)
unfolding records
parted-records p =
    ap records p.is
    ∙ ap (λ (d : List ℕ). leaf_record p.first ++ d) (records-append p.middle (p.last ∷ []) ∙ ap (λ (d : List ℕ). records p.middle ++ d) (append-nil (leaf_record p.last)))

-- How far the steps are turned: those at the front were the last, those at the back the first.
pub record Turning (entry steps : List ℕ) (from to : ℕ) : Type 0 where
  front : List Leaf
  todo : List Leaf
  back : List Leaf
  splits : as_steps entry ≡ front ++ (todo ++ back)
  at : from ≡ RECORD * length back
  up : to ≡ from + RECORD * length todo
  bytes : steps ≡ records (backwards back) ++ (records todo ++ records (backwards front))
  pub long : length steps ≡ length entry
  pub order : from ≤ to
  pub within : to ≤ length steps

pub turning-starts : (entry : List ℕ) → AreSteps entry → Turning entry entry 0 (length entry)
unfolding records
turning-starts entry h =
    record {
      front = [];
      todo = as_steps entry;
      back = [];
      splits = sym (append-nil (as_steps entry));
      at = refl;
      up = omega (arith, ap length h.bytes, length-records (as_steps entry));
      bytes = sym h.bytes ∙ sym (append-nil (records (as_steps entry)));
      long = refl;
      order = omega arith;
      within = omega arith;
    }

backwards-records : (l : List Leaf) (x : Leaf) → records (backwards (l ++ (x ∷ []))) ≡ leaf_record (undo x) ++ records (backwards l)
unfolding records
backwards-records l x = ap records (backwards-append l (x ∷ []))

module _ {entry steps : List ℕ} {from to : ℕ} (h : AreSteps entry) (t : Turning entry steps from to) where
  three : Three steps (records (backwards t.back)) (records t.todo) (records (backwards t.front)) from to
  three =
      record {
        bytes = t.bytes;
        start = length-records (backwards t.back) ∙ omega (arith, long-backwards t.back, t.at);
        end = omega (arith, t.up, length-records t.todo);
      }

  todo-fits : All FitsLeaf t.todo
  todo-fits = all_left t.todo t.back (all_right t.front (subst (All FitsLeaf) t.splits h.fits))

  -- two or more are left
  module _ (k : from + RECORD < to) where
    two : Parted t.todo
    two = parted t.todo (omega (arith, t.up))

    ends : Ends (part from to steps) (leaf_record two.first) (records two.middle) (leaf_record two.last)
    ends = record { bytes = the-part three ∙ parted-records two; first = length-head_record (leaf_head two.first); last = length-head_record (leaf_head two.last) }

    pub two-long : RECORD + RECORD ≤ length (part from to steps)
    two-long = omega (arith, ends-long ends)

    last-is : last_of (part from to steps) ≡ leaf_record two.last ++ []
    last-is = let z : length (part from to steps) - RECORD + RECORD ≡ length (part from to steps) = omega (arith, two-long) in from-part (last-three ends (length (part from to steps) - RECORD) z)

    two-fit : FitsLeaf two.first × FitsLeaf two.last
    two-fit = let p = subst (All FitsLeaf) two.is todo-fits in (all_head p, all_head (all_right two.middle (all_tail p)))

    pub ends-start : StartsRecord (part from to steps) × StartsRecord (last_of (part from to steps))
    ends-start = (starts_with _ (leaf_head two.first) _ two-fit.0 ends.bytes, starts_with _ (leaf_head two.last) [] two-fit.1 last-is)

    module _ {y : List ℕ} (c : y ≡ undone_record (last_of (part from to steps)) ++ (part RECORD (length (part from to steps) - RECORD) (part from to steps) ++ undone_record (part from to steps))) where
      ends_turned : y ≡ leaf_record (undo two.last) ++ (records two.middle ++ leaf_record (undo two.first))
      ends_turned =
          c ∙ ap₂ (λ (g g' : Head). head_record (undone_head g) ++ (part RECORD (length (part from to steps) - RECORD) (part from to steps) ++ head_record (undone_head g')))
          (head-with _ (leaf_head two.last) [] two-fit.1 last-is) (head-with _ (leaf_head two.first) _ two-fit.0 ends.bytes)
          ∙ ap (λ (z : List ℕ). leaf_record (undo two.last) ++ (z ++ leaf_record (undo two.first))) (middle-part ends)

      pub turning-goes-on : length y ≡ length (mid_of from (to - from) steps) → Turning entry (put_mid from (to - from) steps y) (from + RECORD) (to - RECORD)
      turning-goes-on q =
          record {
            front = t.front ++ (two.first ∷ []);
            todo = two.middle;
            back = two.last ∷ t.back;
            splits = t.splits ∙ ap (λ (l : List Leaf). t.front ++ (l ++ t.back)) two.is ∙ moved;
            at = omega (arith, t.at);
            up = omega (arith, t.up, ap length two.is, length-append two.middle (two.last ∷ []));
            bytes = put-part three y ∙ ap (λ (z : List ℕ). records (backwards t.back) ++ (z ++ records (backwards t.front))) ends_turned ∙ outer;
            long = same_len_mid from (to - from) steps y q ∙ t.long;
            order = omega (arith, t.up, ap length two.is, length-append two.middle (two.last ∷ []));
            within = omega (arith, t.within, same_len_mid from (to - from) steps y q);
          }
        where
          moved : t.front ++ ((two.first ∷ (two.middle ++ (two.last ∷ []))) ++ t.back) ≡ (t.front ++ (two.first ∷ [])) ++ (two.middle ++ (two.last ∷ t.back))
          moved = simp append_assoc

          outer : records (backwards t.back) ++ ((leaf_record (undo two.last) ++ (records two.middle ++ leaf_record (undo two.first))) ++ records (backwards t.front))
              ≡ records (backwards (two.last ∷ t.back)) ++ (records two.middle ++ records (backwards (t.front ++ (two.first ∷ []))))
          outer = rw (records-backwards two.last t.back, backwards-records t.front two.first) (simp (append_assoc, append-nil))

  whole : (l : List Leaf) → t.todo ≡ l → records (backwards t.back) ++ (records (backwards l) ++ records (backwards t.front)) ≡ records (backwards (as_steps entry))
  whole l e =
      sym (ap (λ (k : List Leaf). records (backwards k)) (t.splits ∙ ap (λ (k : List Leaf). t.front ++ (k ++ t.back)) e)
      ∙ ap records (backwards-append t.front (l ++ t.back) ∙ ap (λ (k : List Leaf). k ++ backwards t.front) (backwards-append l t.back))
      ∙ simp (records-append, append_assoc))

  -- one is left
  module _ (k : to ≤ from + RECORD) (o : from < to) where
    only : (x : Leaf) × (t.todo ≡ x ∷ [])
    only = go t.todo (omega (arith, t.up)) (omega (arith, t.up))
      where
        go : (l : List Leaf) → 1 ≤ length l → length l ≤ 1 → (x : Leaf) × (l ≡ x ∷ [])
        go [] h h' = absurd (omega arith)
        go (x ∷ []) h h' = (x, refl)
        go (x ∷ (y ∷ l)) h h' = absurd (omega arith)

    only-is : part from to steps ≡ leaf_record only.0 ++ []
    unfolding records
    only-is = the-part three ∙ ap records only.1

    only-fits : FitsLeaf only.0
    only-fits = all_head (subst (All FitsLeaf) only.1 todo-fits)

    pub only-starts : StartsRecord (part from to steps)
    only-starts = starts_with _ (leaf_head only.0) [] only-fits only-is

    pub turned-odd : {y : List ℕ} → Undone (part from to steps) y → put_mid from (to - from) steps y ≡ records (backwards (as_steps entry))
    unfolding records
    turned-odd {y} c =
        put-part three y
        ∙ ap (λ (z : List ℕ). records (backwards t.back) ++ (z ++ records (backwards t.front))) (undone-with _ (leaf_head only.0) [] only-fits only-is c)
        ∙ whole (only.0 ∷ []) only.1

  pub turned-even : to ≤ from → steps ≡ records (backwards (as_steps entry))
  unfolding records
  turned-even k =
      let e : t.todo ≡ [] = none t.todo (omega (arith, t.up)) in
      t.bytes ∙ ap (λ (l : List Leaf). records (backwards t.back) ++ (records l ++ records (backwards t.front))) e ∙ whole [] e
    where
      none : (l : List Leaf) → length l ≤ 0 → l ≡ []
      none [] h = refl
      none (x ∷ l) h = absurd (omega arith)
