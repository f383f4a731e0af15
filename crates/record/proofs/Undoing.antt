-- A record undone: which of its fields change, by its kind. Assumes nothing.
use Prim.Native.Nat.{ℕ, ◌+◌, ◌*◌, ◌/◌, ◌<◌}
use mathlib.Core.Path.{◌≡◌, refl, sym, ◌∙◌, ap, ap₂, subst}
use mathlib.Core.Bool.{true, false}
use mathlib.Core.List.{List, ◌++◌}
use native.Mathlib.Omega.{arith}
use lib.Dec.{lit<}
use lib.IntN.{ℤ, neg_ℤ}
use lib.ListN.{length, get_or, take, drop, set, length-set, length-append}
use lib.Seq.{drop_at}
use Rattle.notation.specs.Basics.{between}
use Rattle.notation.specs.Numbers.{to_bits, from_bits}
use Rattle.notation.specs.Tree.{rotation, move, pause, pair, slash, megaminx}
use Rattle.notation.specs.Packed.{RECORD, widths, cut, lay_out, Head, leaf_head, group_head, binary_head, megaminx_number, head_fields, head_record, head_at}
use Rattle.notation.specs.Invert.{exchanged}
use Rattle.notation.specs.declared.common.MegaminxScrambleMove.{MegaminxScrambleMove}
use Rattle.notation.specs.declared.common.GroupKind.TheVariants.{Simple, Macro, Simultaneous, Niss}
use Rattle.notation.specs.declared.common.BinaryGroupKind.TheVariants.{Commutator, Conjugate}
use Rattle.notation.specs.declared.common.MegaminxScrambleMove.TheVariants.{Rpp, Rmm, Dpp, Dmm}
use Rattle.notation.proofs.Bools.{false-true}
use Rattle.numbers.proofs.TwosComplement.{from_bits-to_bits}
use Rattle.record.specs.Meaning.{field, with_field, kind_at, SMALL, NUMBER, OTHER}
use Rattle.record.specs.Range.{FitsNumber, FitsHead}
use Rattle.record.specs.Undone.{StartsRecord, undone_head}
use Rattle.record.proofs.Numbered.{kind_of, kind-field}
use Rattle.record.proofs.RoundTrip.{length-head_fields, length-head_record, cut-head_record, head_at-head_record}
use Rattle.record.proofs.Storing.{store-field, next-kept}

-- the bits of a number negated
abbrev negated : ℕ → ℕ
negated bits = to_bits 32 (neg_ℤ (from_bits 32 bits))

number-negated : (z : ℤ) → FitsNumber z → negated (to_bits 32 z) ≡ to_bits 32 (neg_ℤ z)
number-negated z h = ap (λ (y : ℤ). to_bits 32 (neg_ℤ y)) (from_bits-to_bits 32 z (lit< tt) h)

-- The fields of a record undone, by its kind. The number is negated in each, and 0 stays where there is none.
abbrev half_fields : Head → List ℕ
half_fields h = set (head_fields h) NUMBER (negated (get_or (head_fields h) NUMBER 0))

half-undone : (h : Head) → FitsHead h → (kind_of h ≡ 9 → ⊥) → between 11 14 (kind_of h) ≡ false → half_fields h ≡ head_fields (undone_head h)
half-undone (leaf_head (rotation f c m)) h n l = rw (number-negated m h.2)
half-undone (leaf_head (move t y f c m)) h n l = rw (number-negated m h.3)
half-undone (leaf_head pause) h n l = refl
half-undone (leaf_head (pair u d)) h n l = absurd (n refl)
half-undone (leaf_head slash) h n l = refl
half-undone (leaf_head (megaminx Rpp)) h n l = absurd (false-true (sym l))
half-undone (leaf_head (megaminx Rmm)) h n l = absurd (false-true (sym l))
half-undone (leaf_head (megaminx Dpp)) h n l = absurd (false-true (sym l))
half-undone (leaf_head (megaminx Dmm)) h n l = absurd (false-true (sym l))
half-undone (group_head g a m c) h n l = rw (number-negated m h.1)
half-undone (binary_head g a b m c) h n l = rw (number-negated m h.2)

-- of a pair also the other number
both-undone : (h : Head) → FitsHead h → kind_of h ≡ 9 → set (half_fields h) OTHER (negated (get_or (head_fields h) OTHER 0)) ≡ head_fields (undone_head h)
both-undone (leaf_head (rotation f c m)) h e = absurd (omega arith)
both-undone (leaf_head (move t l f c m)) h e = absurd (omega arith)
both-undone (leaf_head pause) h e = absurd (omega arith)
both-undone (leaf_head (pair u d)) h e = rw (number-negated u h.0, number-negated d h.1)
both-undone (leaf_head slash) h e = absurd (omega arith)
both-undone (leaf_head (megaminx Rpp)) h e = absurd (omega arith)
both-undone (leaf_head (megaminx Rmm)) h e = absurd (omega arith)
both-undone (leaf_head (megaminx Dpp)) h e = absurd (omega arith)
both-undone (leaf_head (megaminx Dmm)) h e = absurd (omega arith)
both-undone (group_head Simple n m c) h e = absurd (omega arith)
both-undone (group_head Macro n m c) h e = absurd (omega arith)
both-undone (group_head Simultaneous n m c) h e = absurd (omega arith)
both-undone (group_head Niss n m c) h e = absurd (omega arith)
both-undone (binary_head Commutator n n' m c) h e = absurd (omega arith)
both-undone (binary_head Conjugate n n' m c) h e = absurd (omega arith)

-- of a Megaminx move the kind
move-undone : (h : Head) → between 11 14 (kind_of h) ≡ true → (r : ℕ) → ((k : MegaminxScrambleMove) → kind_of h ≡ megaminx_number k → r ≡ megaminx_number (exchanged k))
    → set (half_fields h) SMALL (r * 16) ≡ head_fields (undone_head h)
move-undone (leaf_head (rotation f c m)) l r e = absurd (false-true l)
move-undone (leaf_head (move t y f c m)) l r e = absurd (false-true l)
move-undone (leaf_head pause) l r e = absurd (false-true l)
move-undone (leaf_head (pair u d)) l r e = absurd (false-true l)
move-undone (leaf_head slash) l r e = absurd (false-true l)
move-undone (leaf_head (megaminx Rpp)) l r e = rw (e Rpp refl)
move-undone (leaf_head (megaminx Rmm)) l r e = rw (e Rmm refl)
move-undone (leaf_head (megaminx Dpp)) l r e = rw (e Dpp refl)
move-undone (leaf_head (megaminx Dmm)) l r e = rw (e Dmm refl)
move-undone (group_head Simple n m c) l r e = absurd (false-true l)
move-undone (group_head Macro n m c) l r e = absurd (false-true l)
move-undone (group_head Simultaneous n m c) l r e = absurd (false-true l)
move-undone (group_head Niss n m c) l r e = absurd (false-true l)
move-undone (binary_head Commutator n n' m c) l r e = absurd (false-true l)
move-undone (binary_head Conjugate n n' m c) l r e = absurd (false-true l)

-- what undoing the first record of bs is to leave
abbrev pub Undone : List ℕ → List ℕ → Type 0
Undone bs out = out ≡ head_record (undone_head (head_at bs)) ++ drop RECORD bs

-- The fields of bytes that start with a record.
module _ (bs : List ℕ) (s : StartsRecord bs) where
  pub field_is : (i : ℕ) → field i bs ≡ get_or (head_fields (head_at bs)) i 0
  field_is i =
      ap (λ (l : List ℕ). get_or (cut widths (take RECORD l)) i 0) (sym s.whole)
      ∙ ap (λ (l : List ℕ). get_or l i 0) (cut-head_record (head_at bs) (drop RECORD bs) s.fits)

  pub kind-is : kind_at bs ≡ kind_of (head_at bs)
  kind-is = ap (λ (k : ℕ). k / 16) (field_is 0) ∙ kind-field (head_at bs)

  -- the fields of the record, some of them changed
  abbrev laid : List ℕ → List ℕ
  laid fs = lay_out widths fs ++ drop RECORD bs

  laid-whole : bs ≡ laid (head_fields (head_at bs))
  unfolding head_record
  laid-whole = sym s.whole

  undone-of : {out : List ℕ} (fs : List ℕ) → out ≡ laid fs → fs ≡ head_fields (undone_head (head_at bs)) → Undone bs out
  unfolding head_record
  undone-of fs o e = o ∙ ap laid e

  stored : (fs : List ℕ) (i n : ℕ) → length fs ≡ length widths → i < length widths → with_field i n (laid fs) ≡ laid (set fs i n)
  stored fs i n l h = store-field widths fs (drop RECORD bs) i n h l

  -- The three ways through `undo_record`: the number was negated first.
  module _ {k n n' : ℕ} {r : List ℕ} (ek : k ≡ kind_at bs) (en : n ≡ field NUMBER bs) (en' : n' ≡ negated n) (e : r ≡ with_field NUMBER n' bs) where
    half_is : r ≡ laid (half_fields (head_at bs))
    half_is =
        e ∙ ap₂ (λ (l : List ℕ) (m : ℕ). with_field NUMBER m l) laid-whole (en' ∙ ap negated (en ∙ field_is 3))
        ∙ stored (head_fields (head_at bs)) 3 _ (length-head_fields (head_at bs)) (lit< tt)

    half-long : length (half_fields (head_at bs)) ≡ length widths
    half-long = length-set (head_fields (head_at bs)) 3 _ ∙ length-head_fields (head_at bs)

    kind-of : kind_of (head_at bs) ≡ k
    kind-of = sym (ek ∙ kind-is)

    pub number-undone : (k ≡ 9 → ⊥) → between 11 14 k ≡ false → Undone bs r
    number-undone h l = undone-of _ half_is (half-undone (head_at bs) s.fits (λ z. h (sym kind-of ∙ z)) (rw kind-of l))

    pub pair-undone : k ≡ 9 → {o o' : ℕ} {r' : List ℕ} → o ≡ field OTHER r → o' ≡ negated o → r' ≡ with_field OTHER o' r → Undone bs r'
    pair-undone h {o} {o'} eo eo' e' =
        let other : o ≡ get_or (head_fields (head_at bs)) OTHER 0 = eo ∙ ap (field OTHER) e ∙ next-kept bs NUMBER n' (lit< tt) s.long ∙ field_is 4 in
        undone-of _
        (e' ∙ ap₂ (λ (l : List ℕ) (m : ℕ). with_field OTHER m l) half_is (eo' ∙ ap negated other) ∙ stored (half_fields (head_at bs)) 4 _ half-long (lit< tt))
        (both-undone (head_at bs) s.fits (kind-of ∙ h))

    pub kind-undone : between 11 14 k ≡ true → {x : ℕ} {r' : List ℕ} → ((j : MegaminxScrambleMove) → k ≡ megaminx_number j → x ≡ megaminx_number (exchanged j))
        → r' ≡ with_field SMALL (x * 16) r → Undone bs r'
    kind-undone h {x} ex e' =
        undone-of _
        (e' ∙ ap (with_field SMALL (x * 16)) half_is ∙ stored (half_fields (head_at bs)) 0 _ half-long (lit< tt))
        (move-undone (head_at bs) (rw kind-of h) x (λ j z. ex j (sym kind-of ∙ z)))

-- Bytes that are a record and more: they start with it, and are undone by it.
module _ (bs : List ℕ) (h : Head) (rest : List ℕ) (f : FitsHead h) (e : bs ≡ head_record h ++ rest) where
  pub head-with : head_at bs ≡ h
  head-with = ap head_at e ∙ head_at-head_record h rest f

  rest-with : drop RECORD bs ≡ rest
  rest-with = ap (drop RECORD) e ∙ drop_at (head_record h) rest RECORD (length-head_record h)

  pub starts_with : StartsRecord bs
  starts_with =
      record {
        whole = ap₂ (λ (g : Head) (s : List ℕ). head_record g ++ s) head-with rest-with ∙ sym e;
        fits = subst FitsHead (sym head-with) f;
        long = let z : length bs ≡ RECORD + length rest = (ap length e ∙ length-append (head_record h) rest ∙ ap (λ (k : ℕ). k + length rest) (length-head_record h)) in omega arith;
      }

  pub undone-with : {out : List ℕ} → Undone bs out → out ≡ head_record (undone_head h) ++ rest
  undone-with u = u ∙ ap₂ (λ (g : Head) (s : List ℕ). head_record (undone_head g) ++ s) head-with rest-with
