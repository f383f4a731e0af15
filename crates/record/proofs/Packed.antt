-- The packed record: where its fields stand, and that reading undoes writing.
use Prim.Native.Nat.{ℕ, zero, suc, ◌+◌, ◌*◌, ◌/◌, ◌%◌, ◌^◌, ◌<◌, ◌≤◌, zero-le}
use mathlib.Core.Path.{◌≡◌, sym, ◌∙◌, ap, ap₂, subst}
use mathlib.Core.Bool.{Bool, true, false}
use mathlib.Core.Option.{Option, none, some}
use mathlib.Core.List.{List, [], ◌∷◌, ◌++◌}
use native.Mathlib.Nat.{pow-le-pow_right, lt_of_lt_of_le}
use native.Mathlib.Omega.{arith}
use borrow.Author.Tests.{ne_eqb}
use lib.Arith.{lt_of_le-ne}
use lib.Dec.{eqb, lit<}
use lib.ListN.{length, get_or, take, drop, length-take}
use lib.Seq.{sets-eq}
use Rattle.notation.specs.Numbers.{from_bits, from_big_endian}
use Rattle.notation.specs.Tree.{Span, Layers, no_layers, single_layer, layer_range, layer_set, pause, pair, slash, megaminx}
use Rattle.notation.specs.Packed.{widths, RECORD, lay_out, cut, Head, leaf_head, head_of, head_at, bit, present, layer_form, group_number, binary_number, megaminx_number}
use Rattle.notation.specs.declared.common.GroupKind.{GroupKind}
use Rattle.notation.specs.declared.common.BinaryGroupKind.{BinaryGroupKind}
use Rattle.notation.specs.declared.common.MegaminxScrambleMove.{MegaminxScrambleMove}
use Rattle.notation.specs.declared.common.GroupKind.TheVariants.{Simple, Macro, Simultaneous, Niss}
use Rattle.notation.specs.declared.common.BinaryGroupKind.TheVariants.{Commutator, Conjugate}
use Rattle.notation.specs.declared.common.MegaminxScrambleMove.TheVariants.{Rpp, Rmm, Dpp, Dmm}
use Rattle.numbers.proofs.Positional.{Below, below-take, below-drop}
use Rattle.numbers.proofs.BigEndian.{from_big_endian-lt, two-parts, first_part, last-part}
use Rattle.record.specs.Meaning.{start, field, group_at, binary_at, rotation_at, move_at, kind_at, NUMBER, OTHER, COUNT}
use Rattle.record.proofs.Cut.{Fits, none as no_field, one as and-field, field-ends, cut-front, length-lay_out, stores, stores-lay_out}

-- field i stands after the widths before it: what ties an offset of the code to the list of widths
pub field_at : (bs : List ℕ) (i : ℕ) → i < length widths → field i bs ≡ from_big_endian (take (get_or widths i 0) (drop (start widths i) bs))
field_at bs i h = cut-front widths bs RECORD i h (field-ends widths i h)

-- fields cut from bytes fit their widths
cut_fits : (ws bs : List ℕ) → Below 256 bs → Fits ws (cut ws bs)
unfolding cut
cut_fits [] bs h = no_field
cut_fits (w ∷ ws) bs h =
    let short : length (take w bs) ≤ w = simp length-take (omega arith) in
    and-field
    (lt_of_lt_of_le (from_big_endian-lt (take w bs) (below-take 256 w bs (lit< tt) h)) (pow-le-pow_right (lit< tt) short))
    (cut_fits ws (drop w bs) (below-drop 256 w bs h))

fits-at : {ws fs : List ℕ} → Fits ws fs → (i : ℕ) → i < length ws → get_or fs i 0 < 256 ^ get_or ws i 0
fits-at no_field i h = absurd (omega arith)
fits-at (and-field f fs) zero h = f
fits-at (and-field f fs) (suc i) h = fits-at fs i (omega arith)

pub field_lt : (bs : List ℕ) → Below 256 bs → (i : ℕ) → i < 12 → field i bs < 256 ^ get_or widths i 0
field_lt bs h i l = fits-at (cut_fits widths (take RECORD bs) (below-take 256 RECORD bs (lit< tt) h)) i l

-- two fields of three bytes each, which are read as four and two
module _ (s : List ℕ) (at : ℕ) (below : Below 256 s) (room : at + 6 ≤ length s) (head tail : ℕ)
    (e : head ≡ from_big_endian (take 4 (drop at s))) (f : tail ≡ from_big_endian (take 2 (drop (at + 4) s))) where
  pub first-of-two : head / 256 ≡ from_big_endian (take 3 (drop at s))
  first-of-two = ap (λ (n : ℕ). n / 256) e ∙ first_part s at 3 1 below (omega arith)

  pub second-of-two : head % 256 * 65536 + tail ≡ from_big_endian (take 3 (drop (at + 3) s))
  second-of-two =
      let here : at + 3 + 1 ≡ at + 4 = omega arith in
      ap₂ (λ (m n : ℕ). m * 65536 + n) (ap (λ (n : ℕ). n % 256) e ∙ last-part s at 3 1 below (omega arith)) (f ∙ ap (λ (k : ℕ). from_big_endian (take 2 (drop k s))) (sym here))
      ∙ sym (two-parts s (at + 3) 1 2 (omega arith))

  pub two-as-one : head * 65536 + tail ≡ from_big_endian (take 3 (drop at s)) * 16777216 + from_big_endian (take 3 (drop (at + 3) s))
  two-as-one = ap₂ (λ (m n : ℕ). m * 65536 + n) e f ∙ sym (two-parts s at 4 2 room) ∙ two-parts s at 3 3 room

-- the step count by the first four of its five bytes and by the last
module _ (bs : List ℕ) (long : RECORD ≤ length bs) (high low : ℕ)
    (e : high ≡ from_big_endian (take 4 (drop (start widths COUNT) bs))) (f : low ≡ from_big_endian (take 1 (drop (start widths COUNT + 4) bs))) where
  count-parts : field COUNT bs ≡ high * 256 + low
  count-parts = field_at bs COUNT (lit< tt) ∙ two-parts bs (start widths COUNT) 4 1 long ∙ rw (e, f)

  pub more-than-one : (high ≡ 0 → ⊥) → eqb high 0 ≡ eqb (field COUNT bs) 1
  more-than-one n = ne_eqb high 0 n ∙ sym (ne_eqb (field COUNT bs) 1 (λ z. n (omega (arith, count-parts))))

  pub one-by-low : high ≡ 0 → eqb low 1 ≡ eqb (field COUNT bs) 1
  one-by-low z =
      let same : low ≡ field COUNT bs = omega (arith, count-parts) in
      ap (λ (n : ℕ). eqb n 1) same

-- what a record says, by its kind
abbrev pub by_kind : List ℕ → List Head
by_kind bs =
    group_at Simple bs ∷ group_at Macro bs ∷ group_at Simultaneous bs ∷ group_at Niss bs
    ∷ binary_at Commutator bs ∷ binary_at Conjugate bs
    ∷ rotation_at bs ∷ move_at bs ∷ leaf_head pause
    ∷ leaf_head (pair (from_bits 32 (field NUMBER bs)) (from_bits 32 (field OTHER bs))) ∷ leaf_head slash
    ∷ leaf_head (megaminx Rpp) ∷ leaf_head (megaminx Rmm) ∷ leaf_head (megaminx Dpp) ∷ leaf_head (megaminx Dmm) ∷ []

pub head_at-kind : (bs : List ℕ) (k : ℕ) → k ≡ kind_at bs → head_at bs ≡ get_or (by_kind bs) k (leaf_head pause)
unfolding head_of
head_at-kind bs k e = rw e

-- what holds of each element at its place, and of the default after the last, holds of what is chosen
abbrev pub Numbered : {A : Type 0} → (ℕ → A → Type 0) → ℕ → List A → Type 0
Numbered P k [] = Unit {0}
Numbered P k (a ∷ l) = P k a × Numbered P (suc k) l

numbered-from : {A : Type 0} (P : ℕ → A → Type 0) (l : List A) (d : A) (k : ℕ) → Numbered P k l → ((j : ℕ) → k + length l ≤ j → P j d) → (i j : ℕ) → j ≡ k + i → P j (get_or l i d)
numbered-from P [] d k all p i j e = p j (omega arith)
numbered-from P (a ∷ l) d k all p zero j e = subst (λ (n : ℕ). P n a) (omega arith) all.0
numbered-from P (a ∷ l) d k all p (suc i) j e = numbered-from P l d (suc k) all.1 (λ n h. p n (omega arith)) i j (omega arith)

pub numbered-at : {A : Type 0} (P : ℕ → A → Type 0) (l : List A) (d : A) → Numbered P 0 l → ((j : ℕ) → length l ≤ j → P j d) → (i : ℕ) → P i (get_or l i d)
numbered-at P l d all p i = numbered-from P l d 0 all (λ j h. p j (omega arith)) i i (omega arith)

-- what holds of a record by its kind, and of a pause, for which a kind above 14 is taken
pub by-kind : (P : ℕ → Head → Type 0) (bs : List ℕ) (k : ℕ) → k ≡ kind_at bs → Numbered P 0 (by_kind bs) → ((j : ℕ) → 15 ≤ j → P j (leaf_head pause)) → P k (head_at bs)
by-kind P bs k e all p = subst (P k) (sym (head_at-kind bs k e)) (numbered-at P (by_kind bs) (leaf_head pause) all p k)

-- a number that is none of those below n, as a `match` with an arm for each leaves it
abbrev pub NoneBelow : ℕ → ℕ → Type 0
NoneBelow k zero = Unit {0}
NoneBelow k (suc n) = NoneBelow k n × (k ≡ n → ⊥)

pub none_below : (k n : ℕ) → NoneBelow k n → n ≤ k
none_below k zero h = zero-le
none_below k (suc n) h = lt_of_le-ne (none_below k n h.0) (λ e. h.1 (sym e))

-- the bounds of what the first byte holds
pub bit-lt : (t : Bool) → bit t < 2
bit-lt true = lit< tt
bit-lt false = lit< tt

pub present-lt : (c : Option Span) → present c < 2
present-lt none = lit< tt
present-lt (some p) = lit< tt

pub layer_form-lt : (l : Layers Span) → layer_form l < 4
layer_form-lt no_layers = lit< tt
layer_form-lt (single_layer i) = lit< tt
layer_form-lt (layer_range i j) = lit< tt
layer_form-lt (layer_set p) = lit< tt

pub group_number-lt : (k : GroupKind) → group_number k < 16
group_number-lt Simple = lit< tt
group_number-lt Macro = lit< tt
group_number-lt Simultaneous = lit< tt
group_number-lt Niss = lit< tt

pub binary_number-lt : (k : BinaryGroupKind) → binary_number k < 16
binary_number-lt Commutator = lit< tt
binary_number-lt Conjugate = lit< tt

pub megaminx_number-lt : (k : MegaminxScrambleMove) → megaminx_number k < 16
megaminx_number-lt Rpp = lit< tt
megaminx_number-lt Rmm = lit< tt
megaminx_number-lt Dpp = lit< tt
megaminx_number-lt Dmm = lit< tt

-- the fields stored one by one are the record in front of what stood after it
pub stored : (old fs : List ℕ) → length fs ≡ length widths → RECORD ≤ length old → stores old 0 widths fs ≡ lay_out widths fs ++ drop RECORD old
stored old fs e h =
    let size : length (lay_out widths fs) ≡ RECORD = length-lay_out widths fs e in
    let end : 0 + length (lay_out widths fs) ≡ RECORD = omega arith in
    stores-lay_out old 0 widths fs
    ∙ sets-eq (lay_out widths fs) old 0 (omega arith)
    ∙ ap (λ (n : ℕ). lay_out widths fs ++ drop n old) end
