-- Where a rule ends: not before its start, and within the text. Takes k p: p takes at least k bytes. Assumes nothing.
use Prim.Native.Nat.{ℕ, zero, suc, ◌+◌, ◌≤◌}
use Prim.Native.Char.{Char, code}
use mathlib.Core.Path.{◌≡◌, refl, sym, ◌∙◌}
use mathlib.Core.Bool.{Bool, true, false}
use mathlib.Core.List.{List, [], ◌∷◌}
use native.Mathlib.Omega.{arith}
use borrow.Author.Tests.{leb-true, ltb-true}
use lib.Dec.{eqb, leb, ltb}
use lib.ListN.{length, take, drop, length-drop}
use Rattle.notation.specs.Basics.{pick}
use Rattle.notation.specs.Chars.{is_family_char, white_space}
use Rattle.notation.specs.Utf8.{width_if, run}
use Rattle.notation.specs.Packed.{family_at}
use Rattle.notation.specs.Grammar.{Reading, rejected, read, Reader, and_then, or_else, done, fail, when, just, character, uint, whitespace, padded, family_text, family, collect, more_of, separated_by, braces}
use Rattle.numbers.proofs.Bounds.{number}
use Rattle.charsets.proofs.Runs.{run_length, width_if-length}
use Rattle.parse.proofs.Readings.{never as nothing}

pub record Takes {A : Type 0} (k : ℕ) (p : Reader A) : Type 0 where
  pub ends : (at : ℕ) (s : List ℕ) (a : A) (e : ℕ) (t : List ℕ) → p at s ≡ read a e t → (at + k ≤ e) × (e + length t ≡ at + length s)

-- at a place of a text, what was read ends within it
pub within : {A : Type 0} {k : ℕ} {p : Reader A} {a : A} {e : ℕ} (text : List ℕ) (at : ℕ) → Takes k p → at ≤ length text → read a e (drop e text) ≡ p at (drop at text) →
    (at + k ≤ e) × (e ≤ length text)
within {a = a} {e = e} text at p h q =
    let b = p.ends at (drop at text) a e (drop e text) (sym q) in
    (b.0, omega (arith, b.1, length-drop e text, length-drop at text))

pub takes-fail : {A : Type 0} {k : ℕ} → Takes {A = A} k fail
takes-fail = record { ends = λ at s a e t q. nothing q }

pub takes-done : {A : Type 0} {a : A} → Takes 0 (done a)
takes-done {a = a} = record {
  ends = λ at s a' e t q.
      let p : at ≡ e = cc in
      let n : length s ≡ length t = cc in
      (omega arith, omega arith);
}

pub takes-then : {A B : Type 0} {k m : ℕ} {p : Reader A} {f : A → Reader B} → Takes k p → ((a : A) → Takes m (f a)) → Takes (k + m) (λ at s. and_then (p at s) f)
takes-then {A} {B} {k} {m} {p} {f} h g = record { ends = λ at s b e t q. go at s (p at s) refl b e t q }
  where
    go : (at : ℕ) (s : List ℕ) (r : Reading A) → p at s ≡ r → (b : B) (e : ℕ) (t : List ℕ) → and_then r f ≡ read b e t → (at + (k + m) ≤ e) × (e + length t ≡ at + length s)
    go at s rejected w b e t q = nothing q
    go at s (read a i u) w b e t q =
        let x = h.ends at s a i u w in
        let y = (g a).ends i u b e t q in
        (omega (arith, x.0, y.0), omega (arith, x.1, y.1))

pub takes-or : {A : Type 0} {k : ℕ} {p q : Reader A} → Takes k p → Takes k q → Takes k (λ at s. or_else (p at s) q at s)
takes-or {A} {k} {p} {q} h g = record { ends = λ at s a e t w. go at s (p at s) refl a e t w }
  where
    go : (at : ℕ) (s : List ℕ) (r : Reading A) → p at s ≡ r → (a : A) (e : ℕ) (t : List ℕ) → or_else r q at s ≡ read a e t → (at + k ≤ e) × (e + length t ≡ at + length s)
    go at s rejected w a e t v = g.ends at s a e t v
    go at s (read a' i u) w a e t v = h.ends at s a e t (w ∙ v)

pub takes-when : {A : Type 0} {k : ℕ} {p : Reader A} (b : Bool) → Takes k p → Takes k (λ at s. when b p at s)
takes-when true h = h
takes-when false h = takes-fail

pub takes-less : {A : Type 0} {m : ℕ} {p : Reader A} (k : ℕ) → k ≤ m → Takes m p → Takes k p
takes-less k h g = record { ends = λ at s a e t q. let x = g.ends at s a e t q in (omega (arith, x.0), x.1) }

pub takes-just : (c : Char) → Takes 1 (just c)
unfolding just
takes-just c = record { ends = λ at s a e t q. go at s a e t q }
  where
    at_byte : (at b : ℕ) (s : List ℕ) (x : Bool) (a : Unit {0}) (e : ℕ) (t : List ℕ) → pick x (read (tt {0}) (at + 1) s) rejected ≡ read a e t → (at + 1 ≤ e) × (e + length t ≡ at + suc (length s))
    at_byte at b s true a e t q =
        let p : at + 1 ≡ e = cc in
        let n : length s ≡ length t = cc in
        (omega arith, omega arith)
    at_byte at b s false a e t q = nothing q

    go : (at : ℕ) (s : List ℕ) (a : Unit {0}) (e : ℕ) (t : List ℕ) → just c at s ≡ read a e t → (at + 1 ≤ e) × (e + length t ≡ at + length s)
    go at [] a e t q = nothing q
    go at (b ∷ s) a e t q = at_byte at b s (eqb b (code c)) a e t q

pub takes-uint : (low high : ℕ) → Takes 1 (uint low high)
takes-uint low high = record { ends = λ at s a e t q. let n = number low high at s a e t q in (omega (arith, n.later), n.inside) }

-- n bytes of the text, of which a rule asks for at least k
takes_front : {A : Type 0} (n : List ℕ → ℕ) → ((s : List ℕ) → n s ≤ length s) → (k : ℕ) (x : ℕ → Bool) (f : ℕ → List ℕ → ℕ → A) →
    ((n : ℕ) → x n ≡ true → k ≤ n) → Takes k (λ at s. pick (x (n s)) (read (f at s (n s)) (at + n s) (drop (n s) s)) rejected)
takes_front {A} n most k x f h = record { ends = λ at s a e t q. go at s (x (n s)) refl a e t q }
  where
    go : (at : ℕ) (s : List ℕ) (b : Bool) → x (n s) ≡ b → (a : A) (e : ℕ) (t : List ℕ) → pick b (read (f at s (n s)) (at + n s) (drop (n s) s)) rejected ≡ read a e t →
        (at + k ≤ e) × (e + length t ≡ at + length s)
    go at s true w a e t q =
        let i : at + n s ≡ e = cc in
        let l : length (drop (n s) s) ≡ length t = cc in
        (omega (arith, h (n s) w), omega (arith, length-drop (n s) s, most s))
    go at s false w a e t q = nothing q

-- a run of characters
pub takes_run : {A : Type 0} (p : ℕ → Bool) (k : ℕ) (x : ℕ → Bool) (f : ℕ → List ℕ → ℕ → A) → ((n : ℕ) → x n ≡ true → k ≤ n) →
    Takes k (λ at s. pick (x (run p s)) (read (f at s (run p s)) (at + run p s) (drop (run p s) s)) rejected)
takes_run p = takes_front (run p) (run_length p 0)

-- a character
pub takes-character : (p : ℕ → Bool) → Takes 1 (character p)
takes-character p = takes_front (width_if p) (width_if-length p) 1 (λ n. ltb 0 n) (λ _ _ _. tt {0}) (λ n h. omega (arith, ltb-true 0 n h))

pub takes-whitespace : Takes 0 whitespace
takes-whitespace = takes_run white_space 0 (λ _. true) (λ _ _ _. tt {0}) (λ _ _. omega arith)

pub takes-family_text : Takes 1 family_text
takes-family_text = takes_run is_family_char 1 (λ n. ltb 0 n) (λ _ s n. take n s) (λ n h. omega (arith, ltb-true 0 n h))

pub takes-family : (k : ℕ) → Takes k (family k)
takes-family k = takes_run is_family_char k (λ n. leb k n) (λ at _ n. family_at at n) (λ n h. leb-true k n h)

pub takes-padded : {A : Type 0} {k : ℕ} {p : Reader A} → Takes k p → Takes k (padded p)
takes-padded {k = k} h = takes-less k (omega arith) (takes-then takes-whitespace (λ _. takes-then h (λ a. takes-then takes-whitespace (λ _. takes-done {a = a}))))

-- Lists.
module _ {A : Type 0} {item : Reader A} {separator : Reader (Unit {0})} (i : Takes 0 item) (j : Takes 0 separator) where
  takes-collect : {p : Reader A} (q : Reader (List A)) → Takes 0 p → Takes 0 q → Takes 0 (λ at s. collect ◌∷◌ [] (p at s) q at s)
  takes-collect {p} q h g = record { ends = λ at s l e t w. go at s (p at s) refl l e t w }
    where
      go : (at : ℕ) (s : List ℕ) (r : Reading A) → p at s ≡ r → (l : List A) (e : ℕ) (t : List ℕ) → collect ◌∷◌ [] r q at s ≡ read l e t → (at + 0 ≤ e) × (e + length t ≡ at + length s)
      go at s rejected w l e t v = takes-done.ends at s l e t v
      go at s (read a b u) w l e t v =
          let x = h.ends at s a b u w in
          let y = (takes-then g (λ l. takes-done {a = a ∷ l})).ends b u l e t v in
          (omega (arith, x.0, y.0), omega (arith, x.1, y.1))

  pub takes-more : (k : ℕ) → Takes 0 (more_of ◌∷◌ [] item separator k)
  unfolding more_of
  takes-more zero = takes-done
  takes-more (suc k) = takes-collect (more_of ◌∷◌ [] item separator k) (takes-then j (λ _. i)) (takes-more k)

  pub takes-separated : Takes 0 (separated_by ◌∷◌ [] item separator)
  takes-separated = record {
    ends = λ at s l e t w. (takes-collect (more_of ◌∷◌ [] item separator (length s)) i (takes-more (length s))).ends at s l e t w;
  }

pub takes-braces : {A : Type 0} {item : Reader A} → Takes 1 item → Takes 1 (braces item)
takes-braces h =
    takes-less 1 (omega arith)
    (takes-then (takes-just "{")
    (λ _. takes-then (takes-padded (takes-separated (takes-less 0 (omega arith) h) (takes-less 0 (omega arith) (takes-padded (takes-just ","))))) (λ l. takes-then (takes-just "}") (λ _. takes-done))))
