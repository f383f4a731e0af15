-- Readings by themselves: what follows a reading, and readings of which only the end is told. Assumes nothing.
use Prim.Native.Nat.{ℕ}
use mathlib.Core.Path.{◌≡◌, refl, sym}
use mathlib.Core.Bool.{Bool, true, false}
use mathlib.Core.List.{List}
use native.Mathlib.Omega.{arith}
use Rattle.notation.specs.Grammar.{Reading, rejected, read, Reader, and_then, or_else, when}
use Rattle.parse.specs.Meaning.{forget}

pub never : {A : Type 0} {a : A} {e : ℕ} {t : List ℕ} {X : Type 0} → rejected ≡ read a e t → X
never {e = e} q = let z : ◌≡◌ {A = ℕ} 0 1 = cc in absurd (omega arith)

pub assoc : {A B C : Type 0} (r : Reading A) (f : A → Reader B) (g : B → Reader C) → and_then r (λ a at s. and_then (f a at s) g) ≡ and_then (and_then r f) g
assoc rejected f g = refl
assoc (read a e t) f g = refl

-- what was read in two steps
pub record Steps {A B : Type 0} (r : Reading A) (f : A → Reader B) (b : B) (e : ℕ) (t : List ℕ) : Type 0 where
  pub value : A
  pub next : ℕ
  pub rest : List ℕ
  pub first : r ≡ read value next rest
  pub second : f value next rest ≡ read b e t

pub steps : {A B : Type 0} {b : B} {e : ℕ} {t : List ℕ} (r : Reading A) (f : A → Reader B) → read b e t ≡ and_then r f → Steps r f b e t
steps rejected f q = never (sym q)
steps (read a i u) f q = record { value = a; next = i; rest = u; first = refl; second = sym q }

pub or-none : {A : Type 0} (r : Reading A) (q : Reader A) (at : ℕ) (s : List ℕ) → r ≡ rejected → or_else r q at s ≡ q at s
or-none r q at s e = rw e

pub or-last : {A : Type 0} (r : Reading A) (q : Reader A) (at : ℕ) (s : List ℕ) → q at s ≡ rejected → or_else r q at s ≡ r
or-last rejected q at s e = e
or-last (read a i t) q at s e = refl

pub when-none : {A : Type 0} (b : Bool) (p : Reader A) (at : ℕ) (s : List ℕ) → p at s ≡ rejected → when b p at s ≡ rejected
when-none true p at s e = e
when-none false p at s e = refl

-- Only the end is told.
pub record Took {A : Type 0} (r : Reading A) (e : ℕ) (t : List ℕ) : Type 0 where
  pub value : A
  pub reads : r ≡ read value e t

pub took : {A : Type 0} {u : Unit {0}} {e : ℕ} {t : List ℕ} (r : Reading A) → read u e t ≡ forget r → Took r e t
took rejected q = never (sym q)
took {e = e} {t = t} (read a i w) q =
    let p : i ≡ e = cc in
    let l : w ≡ t = cc in
    record { value = a; reads = cc }

pub gone : {A : Type 0} (r : Reading A) → rejected ≡ forget r → r ≡ rejected
gone rejected q = refl
gone (read a e t) q = never q
