-- Lines put one after the other. Assumes nothing.
use Prim.Native.Nat.{ℕ}
use mathlib.Core.Path.{◌≡◌, sym, ap, ◌∙◌, subst}
use mathlib.Core.Bool.{false}
use mathlib.Core.List.{List, [], ◌∷◌, ◌++◌, append-nil}
use Rattle.notation.specs.Numbers.{show}
use Rattle.notation.specs.Refusals.{refusal, result}
use Rattle.notation.specs.Tree.{Tree}
use Rattle.notation.specs.Packed.{unpack}
use Rattle.notation.specs.Invert.{undo}
use Rattle.notation.specs.Print.{put, printed}
use Rattle.notation.specs.Entries.{checked, inverse, display, steps}
use Rattle.notation.specs.Lister.{line, field, step_lines, steps_part, tree_part, SHOWN}
use Rattle.notation.specs.Demands.{printed_inverse}
use Rattle.laws.specs.Unrolled.{flat}
use Rattle.laws.proofs.Counting.{count-is}
use Rattle.checked.specs.Checked.{Counted}
use Rattle.entries.proofs.Stepping.{these}
use Rattle.display.specs.Written.{Wrote}
use Rattle.display.specs.declared.write.Printer.{Printer}
use Rattle.display.proofs.Writing.{wrote_as, wrote_then}

-- the same as a list that is put in front of what follows
pub wrote-to : {old new : Printer} {f : List ℕ → List ℕ} (l : List ℕ) → f [] ≡ l → Wrote old new f → Wrote old new (λ rest. l ++ rest)
wrote-to l e w = wrote_as (λ rest. l ++ rest) (λ rest. w.adds rest ∙ ap (λ (s : List ℕ). s ++ rest) e) w

-- a label, a space, a field and a newline
pub wrote-line : {o a b c new : Printer} {f : List ℕ → List ℕ} (label field : List ℕ) → f [] ≡ field →
    Wrote o a (λ rest. label ++ rest) → Wrote a b (λ rest. 32 ∷ rest) → Wrote b c f → Wrote c new (λ rest. 10 ∷ rest) →
    Wrote o new (line label field)
wrote-line label field e w s v n =
    wrote_then {f = λ rest. label ++ rest} {g = λ rest. 32 ∷ (field ++ (10 ∷ rest))} w
    (wrote_then {f = λ rest. 32 ∷ rest} {g = λ rest. field ++ (10 ∷ rest)} s
    (wrote_then {f = λ rest. field ++ rest} {g = λ rest. 10 ∷ rest} (wrote-to field e v) n))

-- the same with another field
pub wrote-field : {old new : Printer} (label : List ℕ) {f g : List ℕ} → f ≡ g → Wrote old new (line label f) → Wrote old new (line label g)
wrote-field {old} {new} label e w = subst (λ (f : List ℕ). Wrote old new (line label f)) e w

-- a tree, printed or refused
pub display-given : (text tree : List ℕ) (t : Tree) → checked text tree ≡ result t → printed text t ≡ field (display text tree)
display-given text tree t e = rw e

-- the inverse, printed or refused
pub inverse-given : (text tree l l' : List ℕ) → inverse text tree ≡ result l → l' ≡ l → field (display text l') ≡ field (printed_inverse text tree)
inverse-given text tree l l' e b = rw (e, b)

pub inverse-refused : (text tree : List ℕ) (r : ℕ) → inverse text tree ≡ refusal r → field (refusal r) ≡ field (printed_inverse text tree)
inverse-refused text tree r e = rw e

-- The count and the steps.
pub steps-counted : (text tree : List ℕ) (n : ℕ) → Counted text tree n →
    line (put "steps" []) (show n []) (step_lines text SHOWN 0 (flat undo false (unpack tree)) ++ []) ≡ steps_part text (steps text tree)
steps-counted text tree n c =
    ap (line (put "steps" []) (show n [])) (append-nil (step_lines text SHOWN 0 (flat undo false (unpack tree))))
    ∙ ap (λ (k : ℕ). line (put "steps" []) (show k []) (step_lines text SHOWN 0 (flat undo false (unpack tree)))) (c.steps ∙ sym (count-is (unpack tree) false))
    ∙ ap (steps_part text) (sym (these text tree n c []))

-- The lines of a tree.
pub tree-lines : (text tree : List ℕ) →
    line (put "text" []) (field (display text tree)) (line (put "inverse" []) (field (printed_inverse text tree)) (steps_part text (steps text tree) ++ []))
    ≡ tree_part text (result tree)
tree-lines text tree =
    ap (λ (l : List ℕ). line (put "text" []) (field (display text tree)) (line (put "inverse" []) (field (printed_inverse text tree)) l))
    (append-nil (steps_part text (steps text tree)))
