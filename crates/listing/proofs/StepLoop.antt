-- The loop over the steps: what is written so far, and what is left to write. Assumes nothing.
use Prim.Native.Nat.{ℕ, zero, suc, ◌+◌, ◌-◌, ◌≤◌, ◌<◌, min}
use mathlib.Core.Path.{◌≡◌, refl, sym, ap, ◌∙◌}
use mathlib.Core.List.{List, [], ◌∷◌, ◌++◌, append_assoc}
use mathlib.Core.Option.{some}
use native.Mathlib.Numerals.{add-one}
use native.Mathlib.Omega.{arith}
use lib.ListN.{length, drop, get_elem?, length-drop}
use Rattle.notation.specs.Numbers.{show}
use Rattle.notation.specs.Tree.{Leaf}
use Rattle.notation.specs.Meaning.{step_of}
use Rattle.notation.specs.Print.{put_step}
use Rattle.notation.specs.Lister.{line, step_lines, SHOWN}
use Rattle.display.specs.Written.{Wrote}
use Rattle.display.specs.declared.write.Printer.{Printer}
use Rattle.display.proofs.Writing.{wrote_none, wrote_as, wrote_then}

-- the lines that are left at a place
abbrev left : List ℕ → List Leaf → ℕ → List ℕ
left text steps k = step_lines text (SHOWN - k) k (drop k steps)

pub record Listed (text : List ℕ) (steps : List Leaf) (old mid : Printer) (place : ℕ) : Type 0 where
  pub onward : (new : Printer) → Wrote mid new (λ rest. left text steps place ++ rest) →
      Wrote old new (λ rest. step_lines text SHOWN 0 steps ++ rest)

line-append : (label field x rest : List ℕ) → line label field (x ++ rest) ≡ line label field x ++ rest
line-append label field x rest =
    sym (append_assoc label (32 ∷ (field ++ (10 ∷ x))) rest ∙ ap (λ (l : List ℕ). label ++ (32 ∷ l)) (append_assoc field (10 ∷ x) rest))

entry : (l : List Leaf) (k : ℕ) (x : Leaf) → get_elem? l k ≡ some x → drop k l ≡ x ∷ drop (suc k) l
entry [] k x e = absurd (let z : ◌≡◌ {A = ℕ} 0 1 = cc in omega arith)
entry (y ∷ l) zero x e = cc
entry (y ∷ l) (suc k) x e = entry l k x e

one_more : (text : List ℕ) (steps : List Leaf) (k : ℕ) (x : Leaf) → get_elem? steps k ≡ some x → k < SHOWN →
    left text steps k ≡ line (show k []) (put_step (step_of text x) []) (left text steps (k + 1))
unfolding step_lines
one_more text steps k x e h =
    let m : SHOWN - k ≡ suc (SHOWN - suc k) = omega arith in
    ap (λ (n : ℕ). step_lines text n k (drop k steps)) m
    ∙ ap (step_lines text (suc (SHOWN - suc k)) k) (entry steps k x e)
    ∙ ap (λ (n : ℕ). line (show k []) (put_step (step_of text x) []) (left text steps n)) (sym (add-one k))

no_more : (text : List ℕ) (m k : ℕ) (l : List Leaf) → min (length l) m ≡ 0 → step_lines text m k l ≡ []
unfolding step_lines
no_more text zero k l h = refl
no_more text (suc m) k [] h = refl
no_more text (suc m) k (x ∷ l) h = absurd (omega arith)

module _ {text : List ℕ} {steps : List Leaf} {old mid : Printer} {place : ℕ} (w : Listed text steps old mid place) where
  pub listed-goes-on : {mid' : Printer} (x : Leaf) → get_elem? steps place ≡ some x → place < SHOWN →
      Wrote mid mid' (line (show place []) (put_step (step_of text x) [])) → Listed text steps old mid' (place + 1)
  listed-goes-on x e h v =
      record {
        onward = λ new u.
            w.onward new
            (wrote_as (λ rest. left text steps place ++ rest)
            (λ rest. line-append (show place []) (put_step (step_of text x) []) (left text steps (place + 1)) rest ∙ ap (λ (l : List ℕ). l ++ rest) (sym (one_more text steps place x e h)))
            (wrote_then {f = line (show place []) (put_step (step_of text x) [])} {g = λ rest. left text steps (place + 1) ++ rest} v u));
      }

  pub listed-all : min (length steps) SHOWN ≤ place → Wrote old mid (λ rest. step_lines text SHOWN 0 steps ++ rest)
  listed-all h =
      w.onward mid
      (wrote_as (λ rest. left text steps place ++ rest)
      (λ rest. ap (λ (l : List ℕ). l ++ rest) (sym (no_more text (SHOWN - place) place (drop place steps) (omega (arith, length-drop place steps)))))
      (wrote_none mid))
