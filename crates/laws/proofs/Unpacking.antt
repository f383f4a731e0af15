-- Whatever bytes are unpacked, the numbers of the tree fit their fields. Assumes nothing.
use Prim.Native.Nat.{ℕ, zero, suc, ◌+◌, ◌-◌, ◌*◌, ◌/◌, ◌%◌, ◌^◌, ◌≤◌, ◌<◌}
use mathlib.Core.Path.{◌≡◌, refl, sym, subst}
use mathlib.Core.Bool.{Bool, true, false}
use mathlib.Core.List.{List, [], ◌∷◌}
use mathlib.Core.Option.{none, some}
use native.Mathlib.Omega.{arith}
use borrow.Author.Tests.{lt-ltb, ltb-false, eqb-false}
use lib.Dec.{ltb, eqb, lit<}
use lib.IntN.{pos, negsuc}
use lib.ListN.{length, take, drop, get_or, length-take, length-drop}
use Rattle.notation.specs.Basics.{pick}
use Rattle.notation.specs.Numbers.{from_bits, fits_bits}
use Rattle.notation.specs.Tree.{Span, span, Layers, no_layers, single_layer, layer_range, layer_set, pause}
use Rattle.notation.specs.Packed.{RECORD, widths, family_at, nowhere, Head, leaf_head, group_head, binary_head, node_size, body_size, size, head_at, unpack_from, unpack}
use Rattle.notation.specs.WellFormed.{tree_ok, depth, MAX-NESTING, well_formed}
use Rattle.numbers.proofs.Positional.{Below, below-take, below-drop}
use Rattle.record.specs.Meaning.{field, place_width, span_at, constraints_at, layers_at, kind_at, form_at, present_at, NUMBER, OTHER, FAMILY, FAMILY-SIZE, CONSTRAINTS, LAYER-SET}
use Rattle.record.specs.Range.{FitsSpan, FitsFamily, FitsConstraints, FitsLayers, FitsNumber, FitsHead}
use Rattle.record.proofs.Packed.{field_lt, Numbered, numbered-at, by_kind, head_at-kind}
use Rattle.laws.specs.Packed.{FitsNode, FitsBody, FitsTree, Packed}
use Rattle.laws.proofs.Packing.{unpacked_by, well-formed-packed, well-formed-ok, well-formed-depth, well-formed-below}

pub from_bits-fits : (n : ℕ) → n < 4294967296 → fits_bits 32 (from_bits 32 n) ≡ true
from_bits-fits n h = go (ltb n 2147483648) refl
  where
    go : (t : Bool) → ltb n 2147483648 ≡ t → fits_bits 32 (pick t (pos n) (negsuc (4294967296 - suc n))) ≡ true
    go true e = e
    go false e =
        let l : 2147483648 ≤ n = ltb-false n 2147483648 e in
        lt-ltb (4294967296 - suc n) 2147483648 (omega arith)

-- what holds of every element and of the default holds of what is chosen
every-at : {A : Type 0} (P : A → Type 0) (l : List A) (d : A) → Numbered (λ (n : ℕ). P) 0 l → P d → (i : ℕ) → P (get_or l i d)
every-at P l d all p i = numbered-at (λ (n : ℕ). P) l d all (λ j h. p) i

-- whatever bytes a record has, its head fits
module _ (bs : List ℕ) (h : Below 256 bs) where
  span_fits : (i : ℕ) → i < 11 → get_or widths i 0 ≡ place_width → get_or widths (i + 1) 0 ≡ place_width → FitsSpan (span_at i bs)
  span_fits i l e e' =
      record {
        offset = subst (λ (w : ℕ). field i bs < 256 ^ w) e (field_lt bs h i (omega arith));
        size = subst (λ (w : ℕ). field (i + 1) bs < 256 ^ w) e' (field_lt bs h (i + 1) (omega arith));
      }

  number_fits : FitsNumber (from_bits 32 (field NUMBER bs))
  number_fits = from_bits-fits (field NUMBER bs) (field_lt bs h 3 (lit< tt))

  family-fits : FitsFamily (family_at (field FAMILY bs) (field FAMILY-SIZE bs))
  family-fits = go (eqb (field FAMILY-SIZE bs) 0) refl
    where
      go : (t : Bool) → eqb (field FAMILY-SIZE bs) 0 ≡ t → FitsFamily (pick t nowhere (span (field FAMILY bs) (field FAMILY-SIZE bs)))
      go true e = record { span = record { offset = lit< tt; size = lit< tt }; empty = λ z. refl }
      go false e = record { span = span_fits 5 (lit< tt) refl refl; empty = λ z. absurd (eqb-false (field FAMILY-SIZE bs) 0 e z) }

  constraints-fit : FitsConstraints (constraints_at bs)
  constraints-fit = go (present_at bs)
    where
      go : (t : Bool) → FitsConstraints (pick t (some (span_at CONSTRAINTS bs)) none)
      go true = span_fits 7 (lit< tt) refl refl
      go false = tt

  layers-fit : FitsLayers (layers_at bs)
  layers-fit =
      let o : field OTHER bs < 4294967296 = field_lt bs h 4 (lit< tt) in
      let low : field OTHER bs / 65536 < 65536 = omega arith in
      let high : field OTHER bs % 65536 < 65536 = omega arith in
      let forms : List (Layers Span) = no_layers ∷ single_layer (field OTHER bs / 65536) ∷ layer_range (field OTHER bs / 65536) (field OTHER bs % 65536) ∷ layer_set (span_at LAYER-SET bs) ∷ [] in
      every-at FitsLayers forms no_layers (tt, (low, ((low, high), (span_fits 9 (lit< tt) refl refl, tt)))) tt (form_at bs)

  pub head-fits : FitsHead (head_at bs)
  head-fits =
      let n = field_lt bs h 1 (lit< tt) in
      let n' = field_lt bs h 2 (lit< tt) in
      let m = number_fits in
      let c = field_lt bs h 11 (lit< tt) in
      let o : FitsNumber (from_bits 32 (field OTHER bs)) = from_bits-fits (field OTHER bs) (field_lt bs h 4 (lit< tt)) in
      subst FitsHead (sym (head_at-kind bs (kind_at bs) refl))
      (every-at FitsHead (by_kind bs) (leaf_head pause) (
        (n, m, c),
        (
          (n, m, c),
          (
            (n, m, c),
            (
              (n, m, c),
              (
                (n, n', m, c),
                (
                  (n, n', m, c),
                  ((family-fits, constraints-fit, m), ((layers-fit, family-fits, constraints-fit, m), (tt, ((m, o), (tt, (tt, (tt, (tt, (tt, tt))))))))),
                ),
              ),
            ),
          ),
        ),
      )
      tt (kind_at bs))

-- a list unpacked from so many bytes has no more records than fit there, the last of them perhaps cut off
abbrev Few : ℕ → Type 0
Few k = (bs : List ℕ) → RECORD * size (unpack_from k bs) ≤ length bs + (RECORD - 1)

unpacked-few : (k : ℕ) → Few k → (bs : List ℕ) → 0 < length bs → (h : Head) → RECORD * size (unpacked_by k bs h) ≤ length bs + (RECORD - 1)
unfolding size node_size body_size
unpacked-few k ih bs p (leaf_head x) =
    let r = rw (length-drop RECORD bs) at (ih (drop RECORD bs)) in omega arith
unpacked-few k ih bs p (group_head g n m c) =
    let a = simp (length-take, length-drop) at (ih (take (RECORD * n) (drop RECORD bs))) in
    let r = simp length-drop at (ih (drop (RECORD + RECORD * n) bs)) in
    omega arith
unpacked-few k ih bs p (binary_head g n n' m c) =
    let a = simp (length-take, length-drop) at (ih (take (RECORD * n) (drop RECORD bs))) in
    let b = simp (length-take, length-drop) at (ih (take (RECORD * n') (drop (RECORD + RECORD * n) bs))) in
    let r = simp length-drop at (ih (drop (RECORD + RECORD * (n + n')) bs)) in
    omega arith

few : (k : ℕ) → Few k
unfolding unpack_from size
few zero bs = omega arith
few (suc k) [] = omega arith
few (suc k) (b ∷ bs) = unpacked-few k (few k) (b ∷ bs) (omega arith) (head_at (b ∷ bs))

pub size-most : (k n : ℕ) (bs : List ℕ) → size (unpack_from k (take (RECORD * n) bs)) ≤ n
size-most k n bs =
    let z = few k (take (RECORD * n) bs) in
    let l : length (take (RECORD * n) bs) ≤ RECORD * n = simp length-take (omega arith) in
    omega arith

-- so every tree that bytes unpack to fits
abbrev AllFit : ℕ → Type 0
AllFit k = (bs : List ℕ) → Below 256 bs → FitsTree (unpack_from k bs)

unpacked-fits : (k : ℕ) → AllFit k → (bs : List ℕ) → Below 256 bs → (h : Head) → FitsHead h → FitsTree (unpacked_by k bs h)
unfolding FitsTree FitsNode FitsBody
unpacked-fits k ih bs b (leaf_head x) f = (f, ih (drop (RECORD + RECORD * 0) bs) (below-drop 256 (RECORD + RECORD * 0) bs b))
unpacked-fits k ih bs b (group_head g n m c) f =
    let z = size-most k n (drop RECORD bs) in
    (((omega arith, f.1, omega arith), ih _ (below-take 256 (RECORD * n) _ (lit< tt) (below-drop 256 RECORD bs b))), ih _ (below-drop 256 (RECORD + RECORD * n) bs b))
unpacked-fits k ih bs b (binary_head g n n' m c) f =
    let z = size-most k n (drop RECORD bs) in
    let z' = size-most k n' (drop (RECORD + RECORD * n) bs) in (
      (
        (omega arith, omega arith, f.2, omega arith),
        (
          ih _ (below-take 256 (RECORD * n) _ (lit< tt) (below-drop 256 RECORD bs b)),
          ih _ (below-take 256 (RECORD * n') _ (lit< tt) (below-drop 256 (RECORD + RECORD * n) bs b)),
        ),
      ),
      ih _ (below-drop 256 (RECORD + RECORD * (n + n')) bs b),
    )

all_fit : (k : ℕ) → AllFit k
unfolding unpack_from FitsTree
all_fit zero bs b = tt
all_fit (suc k) [] b = tt
all_fit (suc k) (x ∷ bs) b = unpacked-fits k (all_fit k) (x ∷ bs) b (head_at (x ∷ bs)) (head-fits (x ∷ bs) b)

pub unpack-fits : (bs : List ℕ) → Below 256 bs → FitsTree (unpack bs)
unpack-fits bs b = all_fit (length bs) bs b

-- What a well-formed tree is, whether it was read or made by hand.
pub record WellFormedTree (text tree : List ℕ) : Type 0 where
  pub packed : Packed tree
  pub ok : tree_ok text (unpack tree) ≡ true
  pub low : depth (unpack tree) ≤ MAX-NESTING

pub well-formed-tree : (text tree : List ℕ) → well_formed text tree ≡ true → WellFormedTree text tree
well-formed-tree text tree h =
    record {
      packed = record { whole = well-formed-packed text tree h; fits = unpack-fits tree (well-formed-below text tree h) };
      ok = well-formed-ok text tree h;
      low = well-formed-depth text tree h;
    }
