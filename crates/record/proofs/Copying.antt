-- Bytes copied to the front of others, as the kit's `copy` leaves them. Assumes nothing.
use Prim.Native.Nat.{ℕ}
use mathlib.Core.Path.{◌≡◌, refl, sym, ap, ap₂, ◌∙◌}
use mathlib.Core.List.{List, ◌++◌, append-nil}
use lib.ListN.{length, take, drop}
use lib.Seq.{take-length, drop-length}

-- over the first n bytes
pub copied-front : (f out : List ℕ) {out' : List ℕ} (n : ℕ) → length f ≡ n → out' ≡ take (length f) f ++ drop (length f) out → out' ≡ f ++ drop n out
copied-front f out n l e = e ∙ ap₂ (λ (a : List ℕ) (j : ℕ). a ++ drop j out) (take-length f) l

-- over all of them
pub over-all : (f out : List ℕ) {out' : List ℕ} (n : ℕ) → length out ≡ n → out' ≡ f ++ drop n out → out' ≡ f
over-all f out n l e = e ∙ ap (λ (j : ℕ). f ++ drop j out) (sym l) ∙ ap (λ (s : List ℕ). f ++ s) (drop-length out) ∙ append-nil f

pub copied-whole : (f out : List ℕ) {out' : List ℕ} → length out ≡ length f → out' ≡ take (length f) f ++ drop (length f) out → out' ≡ f
copied-whole f out l e = over-all f out (length f) l (copied-front f out (length f) refl e)
