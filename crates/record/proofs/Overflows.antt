-- Whether a record is that of a pair that overflows: the three ways of the code's test, and what the test says of the record's head.
-- Assumes nothing.
use Prim.Native.Nat.{ℕ, suc, ◌+◌, ◌-◌, ◌≤◌}
use mathlib.Core.Path.{◌≡◌, refl, sym, ap₂, ◌∙◌}
use mathlib.Core.Bool.{Bool, true, false, ◌&&◌, ◌||◌}
use mathlib.Core.List.{List}
use native.Mathlib.Omega.{arith}
use borrow.Author.Tests.{ne_eqb, eqb-true, eqb-false}
use lib.Dec.{eqb, ltb}
use lib.IntN.{pos, negsuc}
use lib.ListN.{length, take, drop}
use Rattle.notation.specs.Basics.{pick}
use Rattle.notation.specs.Numbers.{from_big_endian, from_bits, MIN-BITS}
use Rattle.notation.specs.Packed.{Head, leaf_head, group_head, binary_head, head_at}
use Rattle.notation.specs.Invert.{is_min, overflows}
use Rattle.numbers.proofs.Positional.{Below}
use Rattle.numbers.proofs.BigEndian.{first_part}
use Rattle.record.specs.Meaning.{field, kind_at, NUMBER, OTHER}
use Rattle.record.specs.Undone.{overflows_at}
use Rattle.record.proofs.Packed.{by-kind}

-- −2147483648 by the first of its bytes, or by all four
module _ (s : List ℕ) (below : Below 256 s) (at : ℕ) (room : at + 4 ≤ length s) {b : ℕ} (e : b ≡ from_big_endian (take 1 (drop at s))) where
  pub min-by-first : (b ≡ 128 → ⊥) → eqb b 128 ≡ eqb (from_big_endian (take 4 (drop at s))) MIN-BITS
  min-by-first n =
      let f = first_part s at 1 3 below room in
      ne_eqb b 128 n ∙ sym (ne_eqb (from_big_endian (take 4 (drop at s))) MIN-BITS (λ z. n (omega arith)))

-- the three ways of the test
module _ (bs : List ℕ) {k : ℕ} (e : k ≡ kind_at bs) where
  pub over_first : {m : Bool} → m ≡ eqb (field NUMBER bs) MIN-BITS → k ≡ 9 → m ≡ true → m ≡ overflows_at bs
  over_first f p q = rw (← e, ← f, p, q)

  pub over-second : {m o : Bool} → m ≡ eqb (field NUMBER bs) MIN-BITS → o ≡ eqb (field OTHER bs) MIN-BITS → k ≡ 9 → m ≡ false → o ≡ overflows_at bs
  over-second f g p q = rw (← e, ← f, ← g, p, q)

  pub over_none : ((k ≡ 9) → ⊥) → eqb k 9 ≡ overflows_at bs
  over_none p = rw (← e, ne_eqb k 9 p)

-- −2147483648 by its bits
is-min : (n : ℕ) → n ≡ MIN-BITS → is_min (from_bits 32 n) ≡ true
is-min n e = rw e

not-min : (n : ℕ) → (n ≡ MIN-BITS → ⊥) → is_min (from_bits 32 n) ≡ false
not-min n h = go (ltb n MIN-BITS) refl
  where
    go : (t : Bool) → ltb n MIN-BITS ≡ t → is_min (pick t (pos n) (negsuc (4294967296 - suc n))) ≡ false
    go true e = refl
    go false e = ne_eqb (4294967296 - suc n) 2147483647 (λ z. h (omega arith))

min-test : (n : ℕ) → eqb n MIN-BITS ≡ is_min (from_bits 32 n)
min-test n = go (eqb n MIN-BITS) refl
  where
    go : (b : Bool) → eqb n MIN-BITS ≡ b → b ≡ is_min (from_bits 32 n)
    go true e = sym (is-min n (eqb-true n MIN-BITS e))
    go false e = sym (not-min n (eqb-false n MIN-BITS e))

-- a head that is such a pair
abbrev pub head_overflows : Head → Bool
head_overflows (leaf_head x) = overflows x
head_overflows (group_head k n m c) = false
head_overflows (binary_head k n n' m c) = false

-- of any bytes, by what their kind says they are
pub overflow-test : (bs : List ℕ) → overflows_at bs ≡ head_overflows (head_at bs)
overflow-test bs =
    by-kind (λ (k : ℕ) (h : Head). (eqb k 9 && (eqb (field NUMBER bs) MIN-BITS || eqb (field OTHER bs) MIN-BITS)) ≡ head_overflows h) bs (kind_at bs) refl (
      refl,
      (
        refl,
        (
          refl,
          (
            refl,
            (
              refl,
              (
                refl,
                (
                  refl,
                  (
                    refl,
                    (
                      refl,
                      (
                        ap₂ ◌||◌ (min-test (field NUMBER bs)) (min-test (field OTHER bs)),
                        (refl, (refl, (refl, (refl, (refl, tt))))),
                      ),
                    ),
                  ),
                ),
              ),
            ),
          ),
        ),
      ),
    )
    (λ j z. rw (ne_eqb j 9 (λ e. omega arith)))
