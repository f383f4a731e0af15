-- The scan of brackets, byte by byte. Assumes nothing.
use Prim.Native.Nat.{ℕ, ◌+◌, ◌<◌, ◌≤◌}
use mathlib.Core.Path.{◌≡◌, refl, sym, ap, ap₂, ◌∙◌}
use mathlib.Core.Bool.{Bool, true, false, ◌||◌, cond}
use mathlib.Core.List.{List, [], ◌∷◌, ◌++◌}
use mathlib.Core.Logic.{⊎_elim, inl, inr}
use types.Run.{OneOf}
use native.Mathlib.Omega.{arith}
use native.Mathlib.Nat.{zero-add}
use native.Mathlib.Numerals.{add-one}
use borrow.Author.Tests.{le-leb, lt-leb, ne_eqb}
use lib.Dec.{eqb}
use lib.ListN.{length, get_or, take, drop, length-take, take-append-drop, drop_of_length-le}
use lib.Seq.{drop-cons}
use Rattle.notation.specs.Entries.{opens, closes, nesting_ok}
use Rattle.notation.specs.Packed.{bit}
use Rattle.std.specs.List.{count_by}
use Rattle.std.proofs.lemmas.List.Recursion.{is_count_by}
use Rattle.std.proofs.lemmas.List.Sums.{count_by-le-length}

-- what each byte adds to the two counts
pub record Counts (b o c : ℕ) : Type 0 where
  pub opened : opens b ≡ o
  pub closed : closes b ≡ c

pub opening : (b : ℕ) → OneOf (40 ∷ 91 ∷ []) b → Counts b 1 0
opening b = ⊎_elim (λ e. rw e (record { opened = refl; closed = refl })) (λ e. rw e (record { opened = refl; closed = refl }))

pub closing : (b : ℕ) → OneOf (41 ∷ 93 ∷ []) b → Counts b 0 1
closing b = ⊎_elim (λ e. rw e (record { opened = refl; closed = refl })) (λ e. rw e (record { opened = refl; closed = refl }))

pub neither : (b : ℕ) → (OneOf (40 ∷ 91 ∷ []) b → ⊥) → (OneOf (41 ∷ 93 ∷ []) b → ⊥) → Counts b 0 0
neither b h k = record {
  opened = rw (ne_eqb b 40 (λ e. h (inl e)), ne_eqb b 91 (λ e. h (inr e)));
  closed = rw (ne_eqb b 41 (λ e. k (inl e)), ne_eqb b 93 (λ e. k (inr e)));
}

bit_le : (t : Bool) → bit t ≤ 1
bit_le true = omega arith
bit_le false = omega arith

-- how many bytes are one of two
unfoldable among : ℕ → ℕ → List ℕ → ℕ
among x y [] = 0
among x y (b ∷ s) = bit (eqb b x || eqb b y) + among x y s

among-counted : (x y : ℕ) (s : List ℕ) → among x y s ≡ count_by (λ b. eqb b x || eqb b y) s
unfolding among
among-counted x y = is_count_by (among x y) (λ b. eqb b x || eqb b y) refl (λ b s. added (eqb b x || eqb b y) (among x y s))
  where
    added : (t : Bool) (n : ℕ) → bit t + n ≡ cond t (1 + n) n
    added true n = refl
    added false n = zero-add n

-- Within a block that opens few brackets no part is nested too deep, so only the rest decides.
past-block : (o c : ℕ) (block rest : List ℕ) → o + among 40 91 block ≤ c + 64 → nesting_ok o c (block ++ rest) ≡ nesting_ok (o + among 40 91 block) (c + among 41 93 block) rest
unfolding nesting_ok among
past-block o c [] rest h = ap₂ (λ (a b : ℕ). nesting_ok a b rest) (omega arith) (omega arith)
past-block o c (b ∷ s) rest h =
    let one : o + opens b + among 40 91 s ≡ o + (opens b + among 40 91 s) = omega arith in
    let two : c + closes b + among 41 93 s ≡ c + (closes b + among 41 93 s) = omega arith in
    let on : nesting_ok (o + opens b) (c + closes b) (s ++ rest) ≡ nesting_ok (o + opens b + among 40 91 s) (c + closes b + among 41 93 s) rest =
    past-block (o + opens b) (c + closes b) s rest (omega arith) in
    rw (le-leb o (c + 64) (omega arith)) (on ∙ ap₂ (λ (a b : ℕ). nesting_ok a b rest) one two)

little : (o c : ℕ) (l : List ℕ) → o + length l ≤ c + 64 → true ≡ nesting_ok o c l
unfolding nesting_ok
little o c [] h = rw (le-leb o (c + 64) (omega arith))
little o c (b ∷ l) h = rw (le-leb o (c + 64) (omega arith)) (little (o + opens b) (c + closes b) l (omega (arith, bit_le (eqb b 40 || eqb b 91))))

pub block-length : (t : List ℕ) → length (take 32 t) ≤ 32
block-length t = simp length-take (omega arith)

-- What the walk over blocks keeps.
pub record Blocks (text t : List ℕ) (opened closed : ℕ) : Type 0 where
  pub few : (opened + length t ≤ length text) × (closed + length t ≤ length text)
  pub same : nesting_ok opened closed t ≡ nesting_ok 0 0 text

module _ (text t : List ℕ) (opened closed : ℕ) (b : Blocks text t opened closed) where
  pub blocks-on : (block rest : List ℕ) → (block ≡ take 32 t) × (rest ≡ drop 32 t) × (length rest + 32 ≡ length t) →
      (more less : ℕ) → more ≡ count_by (λ b. eqb b 40 || eqb b 91) block → less ≡ count_by (λ b. eqb b 41 || eqb b 93) block →
      opened + more ≤ closed + 64 → Blocks text rest (opened + more) (closed + less)
  blocks-on block rest (front, back, long) more less p q k =
      let short : length block ≤ 32 = rw front (block-length t) in
      let opens-few = count_by-le-length (λ b. eqb b 40 || eqb b 91) block in
      let closes-few = count_by-le-length (λ b. eqb b 41 || eqb b 93) block in
      let p' : more ≡ among 40 91 block = p ∙ sym (among-counted 40 91 block) in
      let q' : less ≡ among 41 93 block = q ∙ sym (among-counted 41 93 block) in
      record {
        few = (omega (arith, b.few.0, p, opens-few, short, long), omega (arith, b.few.1, q, closes-few, short, long));
        same = ap₂ (λ (a b : ℕ). nesting_ok (opened + a) (closed + b) rest) p' q'
            ∙ sym (past-block opened closed block rest (omega (arith, p', k)))
            ∙ rw (front, back) (ap (nesting_ok opened closed) (take-append-drop 32 t) ∙ b.same);
      }

  pub blocks_end : opened + length t ≤ closed + 64 → true ≡ nesting_ok 0 0 text
  blocks_end h = little opened closed t h ∙ b.same

over : (o c : ℕ) (l : List ℕ) → c + 64 < o → nesting_ok o c l ≡ false
unfolding nesting_ok
over o c [] h = rw (lt-leb o (c + 64) h)
over o c (b ∷ l) h = rw (lt-leb o (c + 64) h)

-- What the loop keeps: the brackets seen so far are allowed, and the rest decides.
pub record Scanned (text : List ℕ) (opened closed at : ℕ) : Type 0 where
  pub inside : at ≤ length text
  pub few : (opened ≤ at) × (closed ≤ at)
  pub allowed : opened ≤ closed + 64
  pub same : nesting_ok opened closed (drop at text) ≡ nesting_ok 0 0 text

module _ (text : List ℕ) (opened closed at : ℕ) (s : Scanned text opened closed at) where
  pub scan-end : length text ≤ at → true ≡ nesting_ok 0 0 text
  unfolding nesting_ok
  scan-end h = rw (drop_of_length-le text h, le-leb opened (closed + 64) s.allowed) at s.same

  module _ (h : at < length text) (o c : ℕ) (k : Counts (get_or text at 0) o c) where
    step : nesting_ok (opened + o) (closed + c) (drop (at + 1) text) ≡ nesting_ok 0 0 text
    unfolding nesting_ok
    step = rw (← k.opened, ← k.closed, add-one) (rw (drop-cons text at 0 h, le-leb opened (closed + 64) s.allowed) at s.same)

    -- the counts after it
    module _ (o' c' : ℕ) (is-o : o' ≡ opened + o) (is_c : c' ≡ closed + c) where
      pub scan-on : (o ≤ 1) → (c ≤ 1) → o' ≤ c' + 64 → Scanned text o' c' (at + 1)
      scan-on a b l = record { inside = omega arith; few = (omega (arith, s.few.0), omega (arith, s.few.1)); allowed = l; same = rw (is-o, is_c) step }

      pub scan-refused : c' + 64 < o' → false ≡ nesting_ok 0 0 text
      scan-refused l = sym (sym (rw (is-o, is_c) step) ∙ over o' c' (drop (at + 1) text) l)
