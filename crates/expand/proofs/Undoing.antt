-- A step's record undone, by the law of records. Assumes nothing.
use Prim.Native.Nat.{ℕ, suc, ◌-◌, ◌^◌, ◌<◌}
use mathlib.Core.Path.{◌≡◌, refl, sym, ap, ◌∙◌}
use mathlib.Core.Bool.{Bool, true, false}
use mathlib.Core.List.{List, ◌++◌}
use native.Mathlib.Omega.{arith}
use borrow.Author.Tests.{ltb-false, lt-ltb, le-ltb}
use lib.Dec.{ltb}
use lib.IntN.{ℤ, pos, negsuc, neg_ℤ}
use Rattle.notation.specs.Basics.{pick}
use Rattle.notation.specs.Numbers.{from_bits, to_bits}
use Rattle.notation.specs.Tree.{Leaf, rotation, move, pause, pair, slash, megaminx}
use Rattle.notation.specs.Packed.{widths, lay_out, leaf_head, leaf_fields, head_record, leaf_record}
use Rattle.notation.specs.Invert.{undo}
use Rattle.numbers.proofs.TwosComplement.{to_bits-from_bits}
use Rattle.record.specs.Range.{FitsNumber, FitsLeaf}
use Rattle.record.specs.Undone.{StartsRecord}
use Rattle.record.proofs.Undoing.{Undone, starts_with, undone-with}
use Rattle.expand.specs.Steps.{Small, Undoable}

-- The record of a step that can be undone is that of a step that fits.
abbrev wrap : ℤ → ℤ
wrap z = from_bits 32 (to_bits 32 z)

abbrev pub wrapped : Leaf → Leaf
wrapped (rotation f c m) = rotation f c (wrap m)
wrapped (move t l f c m) = move t l f c (wrap m)
wrapped pause = pause
wrapped (pair u d) = pair (wrap u) (wrap d)
wrapped slash = slash
wrapped (megaminx k) = megaminx k

small-bits : (z : ℤ) → Small z → to_bits 32 z < 2 ^ 32
small-bits (pos n) h = omega (arith, h.most)
small-bits (negsuc n) h = omega (arith, h.most)

wrap-fits : (n : ℕ) → n < 2 ^ 32 → FitsNumber (from_bits 32 n)
wrap-fits n h = go (ltb n 2147483648) refl
  where
    go : (t : Bool) → ltb n 2147483648 ≡ t → FitsNumber (pick t (pos n) (negsuc (2 ^ 32 - suc n)))
    go true e = e
    go false e = lt-ltb (2 ^ 32 - suc n) 2147483648 (omega (arith, ltb-false n 2147483648 e))

pub wrapped-fits : (x : Leaf) → Undoable x → FitsLeaf (wrapped x)
wrapped-fits (rotation f c m) (a, b, h) = (a, b, wrap-fits (to_bits 32 m) (small-bits m h))
wrapped-fits (move t l f c m) (a, b, d, h) = (a, b, d, wrap-fits (to_bits 32 m) (small-bits m h))
wrapped-fits pause h = tt
wrapped-fits (pair u d) (h, k) = (wrap-fits (to_bits 32 u) (small-bits u h), wrap-fits (to_bits 32 d) (small-bits d k))
wrapped-fits slash h = tt
wrapped-fits (megaminx k) h = tt

wrapped-fields : (x : Leaf) → Undoable x → leaf_fields (wrapped x) ≡ leaf_fields x
wrapped-fields (rotation f c m) (a, b, h) = rw (to_bits-from_bits 32 (to_bits 32 m) (small-bits m h))
wrapped-fields (move t l f c m) (a, b, d, h) = rw (to_bits-from_bits 32 (to_bits 32 m) (small-bits m h))
wrapped-fields pause h = refl
wrapped-fields (pair u d) (h, k) = rw (to_bits-from_bits 32 (to_bits 32 u) (small-bits u h), to_bits-from_bits 32 (to_bits 32 d) (small-bits d k))
wrapped-fields slash h = refl
wrapped-fields (megaminx k) h = refl

-- the opposite in bits
opposite-bits : (z : ℤ) → Small z → to_bits 32 (neg_ℤ (from_bits 32 (to_bits 32 z))) ≡ to_bits 32 (neg_ℤ z)
opposite-bits (pos n) h = go (ltb n 2147483648) refl
  where
    go : (t : Bool) → ltb n 2147483648 ≡ t → to_bits 32 (neg_ℤ (pick t (pos n) (negsuc (2 ^ 32 - suc n)))) ≡ to_bits 32 (neg_ℤ (pos n))
    go true e = refl
    go false e =
        let last : n ≡ 2147483648 = omega (arith, ltb-false n 2147483648 e, h.most) in
        rw last
opposite-bits (negsuc n) h =
    let high : ltb (2 ^ 32 - suc n) 2147483648 ≡ false = le-ltb (2 ^ 32 - suc n) 2147483648 (omega (arith, h.most)) in
    let back : 2 ^ 32 - suc (2 ^ 32 - suc n) ≡ n = omega (arith, h.most) in
    rw (high, back)

wrapped-undone : (x : Leaf) → Undoable x → leaf_fields (undo (wrapped x)) ≡ leaf_fields (undo x)
wrapped-undone (rotation f c m) (a, b, h) = rw (opposite-bits m h)
wrapped-undone (move t l f c m) (a, b, d, h) = rw (opposite-bits m h)
wrapped-undone pause h = refl
wrapped-undone (pair u d) (h, k) = rw (opposite-bits u h, opposite-bits d k)
wrapped-undone slash h = refl
wrapped-undone (megaminx k) h = refl

pub wrapped-record : (x : Leaf) → Undoable x → leaf_record (wrapped x) ≡ leaf_record x
unfolding head_record
wrapped-record x u = ap (lay_out widths) (wrapped-fields x u)

pub wrapped-undone-record : (x : Leaf) → Undoable x → leaf_record (undo (wrapped x)) ≡ leaf_record (undo x)
unfolding head_record
wrapped-undone-record x u = ap (lay_out widths) (wrapped-undone x u)

-- a step's record in front of other bytes
module _ (x : Leaf) (u : Undoable x) (bs rest : List ℕ) (e : bs ≡ leaf_record x ++ rest) where
  wrapped-is : bs ≡ leaf_record (wrapped x) ++ rest
  wrapped-is = e ∙ ap (λ (r : List ℕ). r ++ rest) (sym (wrapped-record x u))

  pub step-starts : StartsRecord bs
  step-starts = starts_with bs (leaf_head (wrapped x)) rest (wrapped-fits x u) wrapped-is

  pub step-undone : {out : List ℕ} → Undone bs out → out ≡ leaf_record (undo x) ++ rest
  step-undone w =
      undone-with bs (leaf_head (wrapped x)) rest (wrapped-fits x u) wrapped-is w
      ∙ ap (λ (r : List ℕ). r ++ rest) (wrapped-undone-record x u)
