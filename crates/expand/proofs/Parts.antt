-- A list in three parts: before a, from a to e, and from e on. Assumes nothing.
use Prim.Native.Nat.{ℕ, ◌+◌, ◌-◌, ◌≤◌}
use mathlib.Core.Path.{◌≡◌, sym, ap, ap₂, ◌∙◌}
use mathlib.Core.List.{List, ◌++◌, append_assoc}
use native.Mathlib.Omega.{arith}
use borrow.Rule.Slice.PartMut.{mid_of, put_mid, Post-is, same_len_mid}
use lib.ListN.{length, take, drop, length-append}
use lib.Seq.{take_at, drop_at}
use Rattle.nodes.specs.Nodes.{part}

pub record Three (s p x q : List ℕ) (a e : ℕ) : Type 0 where
  pub bytes : s ≡ p ++ (x ++ q)
  pub start : length p ≡ a
  pub end : a + length x ≡ e

module _ {s p x q : List ℕ} {a e : ℕ} (h : Three s p x q a e) where
  pub before-part : take a s ≡ p
  before-part = ap (take a) h.bytes ∙ take_at p (x ++ q) a h.start

  pub from-part : drop a s ≡ x ++ q
  from-part = ap (drop a) h.bytes ∙ drop_at p (x ++ q) a h.start

  pub the-part : part a e s ≡ x
  the-part =
      let z : length x ≡ e - a = omega (arith, h.end) in
      ap (take (e - a)) from-part ∙ take_at x q (e - a) z

  both_long : length (p ++ x) ≡ e
  both_long = length-append p x ∙ omega (arith, h.start, h.end)

  pub after-part : drop e s ≡ q
  after-part = ap (drop e) (h.bytes ∙ sym (append_assoc p x q)) ∙ drop_at (p ++ x) q e both_long

  -- the middle put back after it was lent
  pub put-part : (y : List ℕ) → put_mid a (e - a) s y ≡ p ++ (y ++ q)
  put-part y = ap₂ (λ (f r : List ℕ). f ++ (y ++ r)) before-part (Post-is a e s (omega (arith, h.end)) ∙ after-part)

pub put-room : (a k n : ℕ) (xs ys : List ℕ) → length ys ≡ length (mid_of a k xs) → n ≤ length xs → n ≤ length (put_mid a k xs ys)
put-room a k n xs ys e h = omega (arith, same_len_mid a k xs ys e)
