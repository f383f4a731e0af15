-- The tests of leaf.rt as the rules have them. Assumes nothing.
use Prim.Native.Nat.{ℕ, suc, ◌+◌, ◌-◌, ◌≤◌, ◌<◌}
use mathlib.Core.Path.{◌≡◌, refl, sym, ap, ◌∙◌}
use mathlib.Core.Bool.{Bool, true, false, not, ◌&&◌}
use mathlib.Core.List.{List, [], ◌∷◌}
use native.Mathlib.Omega.{arith}
use borrow.Author.Tests.{le-leb, lt-leb, lt-ltb, le-ltb, ltb-true, ltb-false, eqb-true, eqb-false, ne_eqb}
use lib.Dec.{leb, ltb, eqb}
use lib.IntN.{pos, negsuc}
use lib.ListN.{length, take, drop, length-drop}
use Rattle.notation.specs.Basics.{pick}
use Rattle.notation.specs.Numbers.{from_bits}
use Rattle.notation.specs.Grammar.{Reading, rejected, read, Reader, at_end}
use Rattle.notation.specs.WellFormed.{is_some, multiplier_ok}
use Rattle.parse.specs.Meaning.{forget}

pub multiplier-test : (b : ℕ) → b < 4294967296 → not (eqb b 2147483648) ≡ multiplier_ok (from_bits 32 b)
multiplier-test b h = go (ltb b 2147483648) refl
  where
    high : 2147483648 ≤ b → (t : Bool) → eqb b 2147483648 ≡ t → not t ≡ ltb (suc (4294967296 - suc b)) 2147483648
    high l true e = sym (le-ltb (suc (4294967296 - suc b)) 2147483648 (omega (arith, eqb-true b 2147483648 e)))
    high l false e =
        let n : b ≡ 2147483648 → ⊥ = eqb-false b 2147483648 e in
        sym (lt-ltb (suc (4294967296 - suc b)) 2147483648 (omega arith))

    go : (t : Bool) → ltb b 2147483648 ≡ t → not (eqb b 2147483648) ≡ multiplier_ok (pick t (pos b) (negsuc (4294967296 - suc b)))
    go true e =
        let l : b < 2147483648 = ltb-true b 2147483648 e in
        rw (ne_eqb b 2147483648 (λ z. omega arith), e)
    go false e = high (ltb-false b 2147483648 e) (eqb b 2147483648) refl

-- a part that is read to its end
pub to_end_test : (s : List ℕ) (n : ℕ) → leb (length s) n ≡ is_some (at_end (read (tt {0}) n (drop n s)))
to_end_test s n = go (drop n s) refl
  where
    go : (r : List ℕ) → drop n s ≡ r → leb (length s) n ≡ is_some (at_end (read (tt {0}) n r))
    go [] e = le-leb (length s) n (omega (arith, ap length e, length-drop n s))
    go (b ∷ r) e = lt-leb (length s) n (omega (arith, ap length e, length-drop n s))

forget-end : {A : Type 0} (x : Reading A) → is_some (at_end (forget x)) ≡ is_some (at_end x)
forget-end rejected = refl
forget-end (read a at []) = refl
forget-end (read a at (b ∷ s)) = refl

-- a part s of the text that a reader reads to its end, or not
pub part_test : {A : Type 0} (rule : Reader A) (text s : List ℕ) (offset size : ℕ) (r : Bool) (x : Reading (Unit {0})) → offset + size ≤ length text →
    s ≡ take (offset + size - offset) (drop offset text) → r ≡ is_some (at_end x) → x ≡ forget (rule 0 s) →
    r ≡ (leb (offset + size) (length text) && is_some (at_end (rule 0 (take size (drop offset text)))))
part_test rule text s offset size r x h p e f =
    let n : offset + size - offset ≡ size = omega arith in
    e
    ∙ ap (λ (y : Reading (Unit {0})). is_some (at_end y)) f
    ∙ forget-end (rule 0 s)
    ∙ rw (p, n, le-leb (offset + size) (length text) h)
