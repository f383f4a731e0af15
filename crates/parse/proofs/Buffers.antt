-- What is written into the buffer, one after the other. Assumes nothing.
use Prim.Native.Nat.{ℕ, ◌+◌, ◌-◌, ◌≤◌, ◌<◌}
use mathlib.Core.Path.{◌≡◌, refl, sym, ap, ◌∙◌}
use mathlib.Core.Bool.{Bool, true, false}
use mathlib.Core.List.{List, [], ◌++◌, append_assoc, append-nil}
use native.Mathlib.Omega.{arith}
use native.Mathlib.Nat.{add-zero}
use borrow.Author.Tests.{le-leb, lt-leb, leb-true}
use lib.Dec.{leb}
use lib.ListN.{length, take, drop, length-append, length-take, length-drop, drop_of_length-le}
use lib.Seq.{take_at, drop_at, take-take, take-add, take-append-add, length-take-le}
use borrow.Rule.Slice.PartMut.{mid_of, post_of, put_mid, Post-is}
use Rattle.notation.specs.Basics.{pick}
use Rattle.parse.specs.Nodes.{Kept, WroteRecords, put}

pub kept-all : (p : ℕ) (l : List ℕ) → Kept p l l
kept-all p l = record { long = refl; before = refl }

pub kept_less : (p q : ℕ) (old new : List ℕ) → p ≤ q → Kept q old new → Kept p old new
kept_less p q old new h k =
    record {
      long = k.long;
      before = sym (take-take p q new h) ∙ ap (take p) k.before ∙ take-take p q old h;
    }

pub kept_then : (p : ℕ) (old mid new : List ℕ) → Kept p old mid → Kept p mid new → Kept p old new
kept_then p old mid new k l = record { long = l.long ∙ k.long; before = l.before ∙ k.before }

pub wrote_none : (p : ℕ) (l : List ℕ) → WroteRecords p [] l l
wrote_none p l =
    record {
      kept = kept-all p l;
      holds = λ h. ap (λ (n : ℕ). take n l) (add-zero p) ∙ sym (append-nil (take p l));
    }

module _ (p q : ℕ) (xs old mid new : List ℕ) (e : q ≡ p + length xs) (w : WroteRecords p xs old mid) where
  -- what comes later is written behind it, or only tried there
  pub wrote_kept : Kept q mid new → WroteRecords p xs old new
  wrote_kept k =
      record {
        kept = kept_then p old mid new w.kept (kept_less p q mid new (omega arith) k);
        holds = λ h. ap (λ (n : ℕ). take n new) (sym e) ∙ k.before ∙ ap (λ (n : ℕ). take n mid) e ∙ w.holds h;
      }

  pub wrote_then : (ys : List ℕ) → WroteRecords q ys mid new → WroteRecords p (xs ++ ys) old new
  wrote_then ys v =
      record {
        kept = kept_then p old mid new w.kept (kept_less p q mid new (omega arith) v.kept);
        holds = λ h.
            let l : length (xs ++ ys) ≡ length xs + length ys = length-append xs ys in
            let m : length mid ≡ length old = w.kept.long in
            let n : p + length (xs ++ ys) ≡ q + length ys = omega arith in
            ap (λ (n : ℕ). take n new) n
            ∙ v.holds (omega arith)
            ∙ ap (λ (n : ℕ). take n mid ++ ys) e
            ∙ ap (λ (l : List ℕ). l ++ ys) (w.holds (omega arith))
            ∙ append_assoc (take p old) xs ys;
      }

-- a store at p, whether it fits or not
put-fits : (p : ℕ) (xs old : List ℕ) → p + length xs ≤ length old → put p xs old ≡ take p old ++ (xs ++ drop (p + length xs) old)
put-fits p xs old h = rw (le-leb (p + length xs) (length old) h)

pub put_full : (p : ℕ) (xs old : List ℕ) → length old < p + length xs → old ≡ put p xs old
put_full p xs old h = rw (lt-leb (p + length xs) (length old) h)

put-length : (p : ℕ) (xs old : List ℕ) → length (put p xs old) ≡ length old
put-length p xs old = go (leb (p + length xs) (length old)) refl where
  go : (t : Bool) → leb (p + length xs) (length old) ≡ t → length (pick t (take p old ++ (xs ++ drop (p + length xs) old)) old) ≡ length old
  go false e = refl
  go true e =
      let h : p + length xs ≤ length old = leb-true (p + length xs) (length old) e in
      length-append (take p old) (xs ++ drop (p + length xs) old)
      ∙ omega (arith, length-take-le p old (omega arith), length-append xs (drop (p + length xs) old), length-drop (p + length xs) old)

put-before : (p : ℕ) (xs old : List ℕ) → take p (put p xs old) ≡ take p old
put-before p xs old = go (leb (p + length xs) (length old)) refl where
  go : (t : Bool) → leb (p + length xs) (length old) ≡ t → take p (pick t (take p old ++ (xs ++ drop (p + length xs) old)) old) ≡ take p old
  go false e = refl
  go true e =
      let h : p + length xs ≤ length old = leb-true (p + length xs) (length old) e in
      take_at (take p old) (xs ++ drop (p + length xs) old) p (length-take-le p old (omega arith))

pub put-kept : (p : ℕ) (xs old : List ℕ) → Kept p old (put p xs old)
put-kept p xs old = record { long = put-length p xs old; before = put-before p xs old }

-- xs, which was written behind the place of hs
module _ (p q : ℕ) (hs xs old mid : List ℕ) (e : q ≡ p + length hs) (w : WroteRecords q xs old mid) where
  behind : q + length xs ≤ length old → take (length xs) (drop q mid) ≡ xs
  behind h =
      sym (drop_at (take q mid) (take (length xs) (drop q mid)) q (length-take-le q mid (omega (arith, w.kept.long))))
      ∙ ap (drop q) (sym (take-add q (length xs) mid) ∙ w.holds h)
      ∙ drop_at (take q old) xs q (length-take-le q old (omega arith))

  pub header : WroteRecords p (hs ++ xs) old (put p hs mid)
  header =
      record {
        kept = kept_then p old mid (put p hs mid) (kept_less p q old mid (omega arith) w.kept) (put-kept p hs mid);
        holds = λ h. held (omega (arith, length-append hs xs));
      }
    where
      held : q + length xs ≤ length old → take (p + length (hs ++ xs)) (put p hs mid) ≡ take p old ++ (hs ++ xs)
      held h =
          let m : length mid ≡ length old = w.kept.long in
          let front : length (take p mid) ≡ p = length-take-le p mid (omega arith) in
          let n : p + length (hs ++ xs) ≡ length (take p mid) + (length hs + length xs) = omega (arith, length-append hs xs) in
          ap (take (p + length (hs ++ xs))) (put-fits p hs mid (omega arith))
          ∙ ap (λ (k : ℕ). take k (take p mid ++ (hs ++ drop (p + length hs) mid))) n
          ∙ take-append-add (take p mid) (hs ++ drop (p + length hs) mid) (length hs + length xs)
          ∙ ap (λ (l : List ℕ). take p mid ++ l) (take-append-add hs (drop (p + length hs) mid) (length xs))
          ∙ ap (λ (k : ℕ). take p mid ++ (hs ++ take (length xs) (drop k mid))) (sym e)
          ∙ ap (λ (l : List ℕ). take p mid ++ (hs ++ l)) (behind h)
          ∙ ap (λ (l : List ℕ). l ++ (hs ++ xs)) (kept_less p q old mid (omega arith) w.kept).before

pub put-wrote : (p : ℕ) (xs old : List ℕ) → WroteRecords p xs old (put p xs old)
put-wrote p xs old =
    rw append-nil at (header p (p + length xs) xs [] old old refl (wrote_none (p + length xs) old))

-- a store over the part from a to e
pub put-part : (a e n : ℕ) (xs old : List ℕ) → length xs ≡ n → e ≡ a + n → e ≤ length old →
    put_mid a (e - a) old (xs ++ drop n (mid_of a (e - a) old)) ≡ put a xs old
put-part a e n xs old l m h =
    let end : e ≡ a + length xs = omega arith in
    ap (λ (r : List ℕ). take a old ++ ((xs ++ r) ++ post_of a (e - a) old)) (drop_of_length-le (mid_of a (e - a) old) {i = n} (omega (arith, length-take (e - a) (drop a old))))
    ∙ ap (λ (r : List ℕ). take a old ++ (r ++ post_of a (e - a) old)) (append-nil xs)
    ∙ ap (λ (r : List ℕ). take a old ++ (xs ++ r)) (Post-is a e old (omega arith))
    ∙ ap (λ (k : ℕ). take a old ++ (xs ++ drop k old)) end
    ∙ sym (put-fits a xs old (omega arith))
