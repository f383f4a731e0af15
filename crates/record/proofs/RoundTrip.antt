-- A record written and read back: its size, its bytes, its fields, and what it says.
use Prim.Native.Nat.{ℕ, ◌+◌, ◌*◌, ◌/◌, ◌%◌, ◌^◌, ◌<◌}
use mathlib.Core.Path.{◌≡◌, refl, sym, ◌∙◌, ap, ap₂}
use mathlib.Core.Bool.{Bool, true, false}
use mathlib.Core.Option.{Option, none, some}
use mathlib.Core.List.{List, [], ◌∷◌, ◌++◌, append-nil}
use native.Mathlib.Omega.{arith}
use borrow.Author.Tests.{eqb-true}
use lib.Dec.{eqb, lit<}
use lib.IntN.{ℤ}
use lib.ListN.{length, get_or, take}
use lib.Seq.{take_at}
use Rattle.notation.specs.Basics.{pick}
use Rattle.notation.specs.Numbers.{to_bits, from_bits}
use Rattle.notation.specs.Tree.{
  Span,
  span,
  Layers,
  no_layers,
  single_layer,
  layer_range,
  layer_set,
  rotation,
  move,
  pause,
  pair,
  slash,
  megaminx,
}
use Rattle.notation.specs.Packed.{
  widths,
  RECORD,
  cut,
  Head,
  leaf_head,
  group_head,
  binary_head,
  group_number,
  binary_number,
  megaminx_number,
  in_order,
  nowhere,
  bit,
  present,
  or_nowhere,
  layer_form,
  low_and_high,
  set_part,
  head_fields,
  head_record,
  family_at,
  head_of,
  head_at,
}
use Rattle.notation.specs.declared.common.GroupKind.TheVariants.{Simple, Macro, Simultaneous, Niss}
use Rattle.notation.specs.declared.common.BinaryGroupKind.TheVariants.{Commutator, Conjugate}
use Rattle.notation.specs.declared.common.MegaminxScrambleMove.TheVariants.{Rpp, Rmm, Dpp, Dmm}
use Rattle.numbers.proofs.Positional.{Below}
use Rattle.numbers.proofs.TwosComplement.{to_bits_lt, from_bits-to_bits}
use Rattle.record.specs.Range.{FitsField, FitsSpan, FitsFamily, FitsConstraints, FitsLayers, FitsNumber, FitsHead}
use Rattle.record.specs.Meaning.{FIRST, SECOND, COUNT}
use Rattle.record.proofs.Cut.{Fits, none as no_field, one as and-field, length-lay_out, lay_out-below, cut-lay_out}
use Rattle.record.proofs.Packed.{bit-lt, present-lt, layer_form-lt, group_number-lt, binary_number-lt, megaminx_number-lt}

pub length-head_fields : (h : Head) → length (head_fields h) ≡ length widths
length-head_fields (leaf_head (rotation f c m)) = refl
length-head_fields (leaf_head (move t l f c m)) = refl
length-head_fields (leaf_head pause) = refl
length-head_fields (leaf_head (pair u d)) = refl
length-head_fields (leaf_head slash) = refl
length-head_fields (leaf_head (megaminx k)) = refl
length-head_fields (group_head k n m c) = refl
length-head_fields (binary_head k n n' m c) = refl

pub length-head_record : (h : Head) → length (head_record h) ≡ RECORD
unfolding head_record
length-head_record h = length-lay_out widths (head_fields h) (length-head_fields h)

pub head_record-below : (h : Head) → Below 256 (head_record h)
unfolding head_record
head_record-below h = lay_out-below widths (head_fields h)

-- the four parts of the first byte
module _ (k t f p : ℕ) (t-fits : t < 2) (f-fits : f < 4) (p-fits : p < 2) where
  small-kind : (k * 16 + t * 8 + f * 2 + p) / 16 ≡ k
  small-kind = omega arith

  small-tilde : (k * 16 + t * 8 + f * 2 + p) / 8 % 2 ≡ t
  small-tilde = omega arith

  small-form : (k * 16 + t * 8 + f * 2 + p) / 2 % 4 ≡ f
  small-form = omega arith

  small-present : (k * 16 + t * 8 + f * 2 + p) % 2 ≡ p
  small-present = omega arith

-- the fields of a head in range fit their widths
in-order-fits : (k t f p n n' m o : ℕ) (family constraints set : Span) (count : ℕ) → k < 16 → t < 2 → f < 4 → p < 2 → FitsField FIRST n → FitsField SECOND n'
    → m < 2 ^ 32 → o < 2 ^ 32 → FitsSpan family → FitsSpan constraints → FitsSpan set → FitsField COUNT count
    → Fits widths (in_order k t f p n n' m o family constraints set count)
in-order-fits k t f p n n' m o family constraints set count hk ht hf hp hn hn' hm ho a b c hc =
    let byte : k * 16 + t * 8 + f * 2 + p < 256 ^ 1 = omega arith in
    and-field byte
    (and-field hn
    (and-field hn'
    (and-field hm
    (and-field ho
    (and-field a.offset
    (and-field a.size
    (and-field b.offset
    (and-field b.size
    (and-field c.offset
    (and-field c.size
    (and-field hc no_field)))))))))))

pub nowhere-fits : FitsSpan nowhere
nowhere-fits = record { offset = lit< tt; size = lit< tt }

or-nowhere-fits : (c : Option Span) → FitsConstraints c → FitsSpan (or_nowhere c)
or-nowhere-fits none h = nowhere-fits
or-nowhere-fits (some p) h = h

set-part-fits : (l : Layers Span) → FitsLayers l → FitsSpan (set_part l)
set-part-fits no_layers h = nowhere-fits
set-part-fits (single_layer i) h = nowhere-fits
set-part-fits (layer_range i j) h = nowhere-fits
set-part-fits (layer_set p) h = h

low-and-high-fits : (l : Layers Span) → FitsLayers l → low_and_high l < 2 ^ 32
low-and-high-fits no_layers h = lit< tt
low-and-high-fits (single_layer i) h = omega arith
low-and-high-fits (layer_range i j) h = omega arith
low-and-high-fits (layer_set p) h = lit< tt

number_fits : (z : ℤ) → FitsNumber z → to_bits 32 z < 2 ^ 32
number_fits z h = to_bits_lt 32 z (lit< tt) h

without-parts-fits : (k n n' m o c : ℕ) → k < 16 → FitsField FIRST n → FitsField SECOND n' → m < 2 ^ 32 → o < 2 ^ 32 → FitsField COUNT c
    → Fits widths (in_order k 0 0 0 n n' m o nowhere nowhere nowhere c)
without-parts-fits k n n' m o c hk hn hn' hm ho hc =
    in-order-fits k 0 0 0 n n' m o nowhere nowhere nowhere c hk (lit< tt) (lit< tt) (lit< tt) hn hn' hm ho nowhere-fits nowhere-fits nowhere-fits hc

kind-alone-fits : (k : ℕ) → k < 16 → Fits widths (in_order k 0 0 0 0 0 0 0 nowhere nowhere nowhere 1)
kind-alone-fits k h = without-parts-fits k 0 0 0 0 1 h (lit< tt) (lit< tt) (lit< tt) (lit< tt) (lit< tt)

pub head_fields-fit : (h : Head) → FitsHead h → Fits widths (head_fields h)
head_fields-fit (leaf_head (rotation f c m)) h =
    in-order-fits 6 0 0 (present c) 0 0 (to_bits 32 m) 0 f (or_nowhere c) nowhere 1
    (lit< tt) (lit< tt) (lit< tt) (present-lt c) (lit< tt) (lit< tt) (number_fits m h.2) (lit< tt)
    h.0.span (or-nowhere-fits c h.1) nowhere-fits (lit< tt)
head_fields-fit (leaf_head (move t l f c m)) h =
    in-order-fits 7 (bit t) (layer_form l) (present c) 0 0 (to_bits 32 m) (low_and_high l) f (or_nowhere c) (set_part l) 1
    (lit< tt) (bit-lt t) (layer_form-lt l) (present-lt c) (lit< tt) (lit< tt) (number_fits m h.3) (low-and-high-fits l h.0)
    h.1.span (or-nowhere-fits c h.2) (set-part-fits l h.0) (lit< tt)
head_fields-fit (leaf_head pause) h = kind-alone-fits 8 (lit< tt)
head_fields-fit (leaf_head (pair u d)) h =
    without-parts-fits 9 0 0 (to_bits 32 u) (to_bits 32 d) 1 (lit< tt) (lit< tt) (lit< tt) (number_fits u h.0) (number_fits d h.1) (lit< tt)
head_fields-fit (leaf_head slash) h = kind-alone-fits 10 (lit< tt)
head_fields-fit (leaf_head (megaminx k)) h = kind-alone-fits (megaminx_number k) (megaminx_number-lt k)
head_fields-fit (group_head k n m c) h =
    without-parts-fits (group_number k) n 0 (to_bits 32 m) 0 c (group_number-lt k) h.0 (lit< tt) (number_fits m h.1) (lit< tt) h.2
head_fields-fit (binary_head k n n' m c) h =
    without-parts-fits (binary_number k) n n' (to_bits 32 m) 0 c (binary_number-lt k) h.0 h.1 (number_fits m h.2) (lit< tt) h.3

-- each part of a head is read back
constraints-back : (c : Option Span) → pick (eqb (present c) 1) (some (span (or_nowhere c).offset (or_nowhere c).size)) none ≡ c
constraints-back none = refl
constraints-back (some p) = refl

tilde-back : (t : Bool) → eqb (bit t) 1 ≡ t
tilde-back true = refl
tilde-back false = refl

layers-back : (l : Layers Span) → FitsLayers l
    → get_or
    (no_layers ∷ single_layer (low_and_high l / 65536) ∷ layer_range (low_and_high l / 65536) (low_and_high l % 65536)
    ∷ layer_set (span (set_part l).offset (set_part l).size) ∷ [])
    (layer_form l) no_layers
    ≡ l
layers-back no_layers h = refl
layers-back (single_layer i) h =
    let low : (i * 65536 + i) / 65536 ≡ i = omega arith in
    rw low
layers-back (layer_range i j) h =
    let low : (i * 65536 + j) / 65536 ≡ i = omega arith in
    let high : (i * 65536 + j) % 65536 ≡ j = omega arith in
    rw (low, high)
layers-back (layer_set p) h = refl

family-back : (p : Span) → FitsFamily p → family_at p.offset p.size ≡ p
family-back p h = go (eqb p.size 0) refl
  where
    go : (t : Bool) → eqb p.size 0 ≡ t → pick t nowhere (span p.offset p.size) ≡ p
    go true e =
        let none : p.size ≡ 0 = eqb-true p.size 0 e in
        ap₂ span (sym (h.empty none)) (sym none)
    go false e = refl

number-back : (z : ℤ) → FitsNumber z → from_bits 32 (to_bits 32 z) ≡ z
number-back z h = from_bits-to_bits 32 z (lit< tt) h

pub head_of-head_fields : (h : Head) → FitsHead h → head_of (head_fields h) ≡ h
unfolding head_of
head_of-head_fields (leaf_head (rotation f c m)) h =
    let p-fits = present-lt c in
    rw (
      small-kind 6 0 0 (present c) (lit< tt) (lit< tt) p-fits,
      small-present 6 0 0 (present c) (lit< tt) (lit< tt) p-fits,
      constraints-back c,
      family-back f h.0,
      number-back m h.2,
    )
head_of-head_fields (leaf_head (move t l f c m)) h =
    let t-fits = bit-lt t in
    let l-fits = layer_form-lt l in
    let p-fits = present-lt c in
    rw (
      small-kind 7 (bit t) (layer_form l) (present c) t-fits l-fits p-fits,
      small-tilde 7 (bit t) (layer_form l) (present c) t-fits l-fits p-fits,
      small-form 7 (bit t) (layer_form l) (present c) t-fits l-fits p-fits,
      small-present 7 (bit t) (layer_form l) (present c) t-fits l-fits p-fits,
      tilde-back t,
      layers-back l h.0,
      constraints-back c,
      family-back f h.1,
      number-back m h.3,
    )
head_of-head_fields (leaf_head pause) h = refl
head_of-head_fields (leaf_head (pair u d)) h = rw (number-back u h.0, number-back d h.1)
head_of-head_fields (leaf_head slash) h = refl
head_of-head_fields (leaf_head (megaminx Rpp)) h = refl
head_of-head_fields (leaf_head (megaminx Rmm)) h = refl
head_of-head_fields (leaf_head (megaminx Dpp)) h = refl
head_of-head_fields (leaf_head (megaminx Dmm)) h = refl
head_of-head_fields (group_head Simple n m c) h = rw (number-back m h.1)
head_of-head_fields (group_head Macro n m c) h = rw (number-back m h.1)
head_of-head_fields (group_head Simultaneous n m c) h = rw (number-back m h.1)
head_of-head_fields (group_head Niss n m c) h = rw (number-back m h.1)
head_of-head_fields (binary_head Commutator n n' m c) h = rw (number-back m h.2)
head_of-head_fields (binary_head Conjugate n n' m c) h = rw (number-back m h.2)

-- a record in front of others: its fields, and what it says
pub cut-head_record : (h : Head) (rest : List ℕ) → FitsHead h → cut widths (take RECORD (head_record h ++ rest)) ≡ head_fields h
unfolding head_record
cut-head_record h rest k =
    ap (cut widths) (take_at (head_record h) rest RECORD (length-head_record h) ∙ sym (append-nil (head_record h)))
    ∙ cut-lay_out [] (head_fields-fit h k)

pub head_at-head_record : (h : Head) (rest : List ℕ) → FitsHead h → head_at (head_record h ++ rest) ≡ h
head_at-head_record h rest k = ap head_of (cut-head_record h rest k) ∙ head_of-head_fields h k
