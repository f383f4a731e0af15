-- The loop of `fill_counts`: what its turns keep, and what is there at its end. Assumes nothing.
use Prim.Native.Nat.{ℕ, suc, ◌+◌, ◌*◌, ◌-◌, ◌<◌, ◌≤◌}
use mathlib.Core.Path.{◌≡◌, refl, sym, ap, ap₂, ◌∙◌}
use mathlib.Core.List.{List, [], ◌++◌}
use native.Mathlib.Omega.{arith}
use borrow.Rule.Slice.PartMut.{mid_of, post_of, put_mid, Post-is, take_put, same_len_mid}
use lib.ListN.{length, take, drop, drop_of_length-le}
use lib.Seq.{take-take, drop-drop, drop_at, take-add, length-take-le, length-sets}
use Rattle.notation.specs.Tree.{Tree}
use Rattle.notation.specs.Packed.{RECORD, widths, size, pack}
use Rattle.notation.specs.Numbers.{big_endian}
use Rattle.record.specs.Meaning.{start as field_start, with_field, COUNT}
use Rattle.tally.specs.Tallies.{tally_list, Tallied, own_count, added, Capped, Open}
use Rattle.tally.proofs.Sizes.{length-tally_list}
use Rattle.tally.proofs.Passes.{Pass, start, step, passed, tree-passed, capped-passed}
use Rattle.tally.proofs.Room.{open_at, list_open}

-- `left` records are to be filled in and `filled` have been; what was there before is old
pub record Filling (old new sums : List ℕ) (at : ℕ) : Type 0 where
  pub left : ℕ
  pub filled : ℕ
  pub place : at ≡ RECORD * left
  pub whole : length old ≡ RECORD * (left + filled)
  pub long : length new ≡ length old
  pub before : take at new ≡ take at old
  pub behind : drop at new ≡ (passed filled (drop at old) start).done
  pub sum : sums ≡ (passed filled (drop at old) start).sums

module _ (old : List ℕ) (t : Tree) (tallied : Tallied t old) where
  pub records : length old ≡ RECORD * size t
  records = ap (λ (l : List ℕ). length l) tallied.bytes ∙ length-tally_list 0 t

  pub filling-starts : (at : ℕ) → at ≡ length old → Filling old old start.sums at
  filling-starts at e =
      let none : drop at old ≡ [] = drop_of_length-le old {i = at} (omega arith) in
      record {
        left = size t;
        filled = 0;
        place = omega (arith, records);
        whole = omega (arith, records);
        long = refl;
        before = refl;
        behind = none;
        sum = refl;
      }

  pub filling-ends : (new sums : List ℕ) (at : ℕ) → Filling old new sums at → at ≡ 0 → new ≡ pack t
  filling-ends new sums at f e =
      let all : f.filled ≡ size t = omega (arith, records, f.whole, f.place) in
      ap (λ (n : ℕ). drop n new) (sym e)
      ∙ f.behind
      ∙ ap₂ (λ (n k : ℕ). (passed k (drop n old) start).done) e all
      ∙ ap (λ (l : List ℕ). (passed (size t) l start).done) tallied.bytes
      ∙ tree-passed t tallied.fits tallied.deep

  -- One turn: the record before `at`, which starts at `next`.
  module _ (new sums : List ℕ) (at : ℕ) (f : Filling old new sums at) (some : 0 < at) (next : ℕ) (e : at ≡ next + RECORD) where
    abbrev own : List ℕ
    own = mid_of next (next + RECORD - next) new

    own_is : own ≡ take RECORD (drop next old)
    own_is =
        let n : next + RECORD - next ≡ RECORD = omega arith in
        let a : at ≤ length old = omega (arith, f.place, f.whole) in
        ap (λ (k : ℕ). mid_of next k new) n
        ∙ sym (drop_at (take next new) (take RECORD (drop next new)) next (length-take-le next new (omega (arith, f.long))))
        ∙ ap (drop next) (sym (take-add next RECORD new) ∙ (rw e at f.before) ∙ take-add next RECORD old)
        ∙ drop_at (take next old) (take RECORD (drop next old)) next (length-take-le next old (omega arith))

    rest-is : drop RECORD (drop next old) ≡ drop at old
    rest-is = drop-drop RECORD next old ∙ ap (λ (k : ℕ). drop k old) (sym e)

    stepped : passed (suc f.filled) (drop next old) start ≡ step own (record { sums = sums; done = drop at new })
    stepped =
        ap₂ (λ (r l : List ℕ). step r (passed f.filled l start)) (sym own_is) rest-is
        ∙ ap₂ (λ (s d : List ℕ). step own (record { sums = s; done = d })) (sym f.sum) (sym f.behind)

    pub own_open : Open own
    own_open =
        let i : RECORD * (f.left - 1) ≡ next = omega (arith, f.place) in
        let n : size t ≡ f.left - 1 + suc f.filled = omega (arith, records, f.whole, f.place) in
        rw (own_is, ← i, tallied.bytes) (open_at (f.left - 1) f.filled (tally_list 0 t) (rw n at (list_open t 0 tallied.fits (omega (arith, tallied.deep)))))

    pub sums-capped : Capped sums
    sums-capped = rw f.sum (capped-passed f.filled (drop at old))

    pub filling-on : (part further : List ℕ) → part ≡ with_field COUNT (own_count own sums) own → further ≡ added own sums →
        Filling old (put_mid next (next + RECORD - next) new part) further next
    filling-on part further p q =
        let a : at ≤ length old = omega (arith, f.place, f.whole) in
        let kept : take next new ≡ take next old =
        sym (take-take next at new (omega arith)) ∙ ap (take next) f.before ∙ take-take next at old (omega arith)
        in
        let after : post_of next (next + RECORD - next) new ≡ drop at new = Post-is next (next + RECORD) new (omega arith) ∙ ap (λ (k : ℕ). drop k new) (sym e) in
        record {
          left = f.left - 1;
          filled = suc f.filled;
          place = omega (arith, f.place);
          whole = omega (arith, f.whole, f.place);
          long = same_len_mid next (next + RECORD - next) new part (ap (λ (l : List ℕ). length l) p ∙ length-sets own (field_start widths 11) (big_endian 5 (own_count own sums))) ∙ f.long;
          before = take_put next (next + RECORD - next) new part (omega (arith, f.long)) ∙ kept;
          behind =
              drop_at (take next new) (part ++ post_of next (next + RECORD - next) new) next (length-take-le next new (omega (arith, f.long)))
              ∙ ap₂ (λ (x y : List ℕ). x ++ y) p after
              ∙ sym (ap (λ (s : Pass). s.done) stepped);
          sum = q ∙ sym (ap (λ (s : Pass). s.sums) stepped);
        }
