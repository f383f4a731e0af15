-- The lister's listing always fits 4 MiB: a line of a step has at most 3,853 bytes, and there are at most 1,000 of them; the printed text and its inverse
-- have at most 6,144 bytes each. Assumes nothing.
use Prim.Native.Nat.{ℕ, zero, suc, ◌+◌, ◌*◌, ◌≤◌}
use mathlib.Core.Path.{◌≡◌, refl}
use mathlib.Core.Bool.{Bool, true, false}
use mathlib.Core.List.{List, [], ◌∷◌, ◌++◌}
use native.Mathlib.Omega.{arith}
use borrow.Author.Tests.{leb-true}
use lib.Dec.{leb}
use lib.ListN.{length, take, drop, length-append}
use Rattle.notation.specs.Basics.{pick, choose, same_list}
use Rattle.notation.specs.Features.{WCA, MAXIMAL}
use Rattle.notation.specs.Numbers.{show}
use Rattle.notation.specs.Refusals.{Outcome, refusal, result, ◌>>=◌}
use Rattle.notation.specs.Tree.{Leaf}
use Rattle.notation.specs.Meaning.{step_of}
use Rattle.notation.specs.WellFormed.{leaf_ok}
use Rattle.notation.specs.Print.{put, put_step}
use Rattle.notation.specs.Entries.{reading, inverse, display, steps}
use Rattle.notation.specs.Demands.{AtMost}
use Rattle.notation.specs.Sizes.{read, inverted}
use Rattle.notation.specs.Lister.{MAX-INPUT, line, field, step_lines, steps_part, tree_part, listing, lister}
use Rattle.notation.specs.declared.features.Features.{Features}
use Rattle.laws.specs.All.{All, empty, one}
use Rattle.laws.proofs.Outcomes.{after}
use Rattle.laws.proofs.GoodSteps.{Good}
use Rattle.size_laws.proofs.Digits.{ten-digits}
use Rattle.size_laws.proofs.Bytes.{leaf_bytes}
use Rattle.size_laws.proofs.Printed.{printed-step}
use Rattle.size_laws.proofs.Unrolled.{Within}
use Rattle.size_laws.proofs.Made.{made-steps, made-printed}

-- 4 MiB
abbrev pub MAX-LISTING : ℕ
MAX-LISTING = 4194304

-- Lines.
line-long : (label field rest : List ℕ) → length (line label field rest) ≡ length label + (length field + (2 + length rest))
line-long label field rest = omega (arith, length-append label (32 ∷ (field ++ (10 ∷ rest))), length-append field (10 ∷ rest))

refused-long : (r : ℕ) → length (field (refusal r)) ≤ 18
refused-long r = omega (arith, ten-digits r)

step-line-long : (text : List ℕ) (k : ℕ) (x : Leaf) (rest : List ℕ) → leaf_ok text x ≡ true → leaf_bytes x ≤ MAX-INPUT →
    length (line (show k []) (put_step (step_of text x) []) rest) ≤ 3853 + length rest
step-line-long text k x rest ok h =
    omega (arith, line-long (show k []) (put_step (step_of text x) []) rest, ten-digits k, printed-step text x [] ok)

step-lines-long : (text : List ℕ) → length text ≤ MAX-INPUT → (m k : ℕ) {l : List Leaf} → All (Good text) l → Within (length text) l →
    length (step_lines text m k l) ≤ m * 3853
unfolding step_lines
step-lines-long text short zero k g w = omega arith
step-lines-long text short (suc m) k empty empty = omega arith
step-lines-long text short (suc m) k (one {x} {l} o g) (one h w) =
    omega (arith, step-line-long text k x (step_lines text m (suc k) l) o.ok (omega arith), step-lines-long text short m (suc k) g w)

steps-long : (text : List ℕ) → length text ≤ MAX-INPUT → (o : Outcome (List Leaf)) →
    ((l : List Leaf) → o ≡ result l → All (Good text) l × Within (length text) l) → length (steps_part text o) ≤ 3853025
steps-long text short (refusal r) h = omega (arith, line-long (put "steps" []) (field (refusal r)) [], refused-long r)
steps-long text short (result l) h =
    let each = h l refl in
    omega (
      arith,
      line-long (put "steps" []) (show (length l) []) (step_lines text 1000 0 l),
      ten-digits (length l),
      step-lines-long text short 1000 0 each.0 each.1,
    )

field-long : (o : Outcome (List ℕ)) → AtMost 6144 o → length (field o) ≤ 6144
field-long (refusal r) h = omega (arith, refused-long r)
field-long (result l) h = h l refl

-- What is listed of an accepted text.
module _ (f : Features) (text tree : List ℕ) (short : length text ≤ MAX-INPUT) (accepted : reading f text ≡ result tree) where
  text-long : length (field (display text tree)) ≤ 6144
  text-long = field-long (display text tree) (λ l e. omega (arith, made-printed f text tree (read accepted) l e))

  inverse-long : length (field (do t ← inverse text tree; display text t)) ≤ 6144
  inverse-long = field-long (do t ← inverse text tree; display text t) (λ l e.
      let i = after (inverse text tree) e in
      omega (arith, made-printed f text i.0 (inverted (read accepted) i.1) l i.2))

  tree-part-long : length (tree_part text (result tree)) ≤ MAX-LISTING
  tree-part-long =
      let last = steps_part text (steps text tree) in
      let shown = field (do t ← inverse text tree; display text t) in
      omega (
        arith,
        line-long (put "text" []) (field (display text tree)) (line (put "inverse" []) shown last),
        text-long,
        line-long (put "inverse" []) shown last,
        inverse-long,
        steps-long text short (steps text tree) (made-steps (read accepted)),
      )

-- The whole listing.
listing-long : (f : Features) (text : List ℕ) → length (listing f text) ≤ MAX-LISTING
listing-long f text = go (leb (length text) MAX-INPUT) refl (reading f text) refl
  where
    go : (b : Bool) → leb (length text) MAX-INPUT ≡ b → (o : Outcome (List ℕ)) → reading f text ≡ o →
        length (pick b (tree_part text o) (put "refused input\n" [])) ≤ MAX-LISTING
    go false h o e = omega arith
    go true h (refusal r) e = omega (arith, line-long (put "text" []) (field (refusal r)) [], refused-long r)
    go true h (result tree) e = tree-part-long f text tree (leb-true (length text) MAX-INPUT h) e

pub listing-fits : (input : List ℕ) → length (lister input) ≤ MAX-LISTING
unfolding lister
listing-fits input = go (same_list (take 2 input) (put "w\n" [])) (same_list (take 2 input) (put "m\n" []))
  where
    go : (w m : Bool) →
        length (choose w (λ _. listing WCA (drop 2 input)) (λ _. choose m (λ _. listing MAXIMAL (drop 2 input)) (λ _. put "refused input\n" [])))
        ≤ MAX-LISTING
    go true m = listing-long WCA (drop 2 input)
    go false true = listing-long MAXIMAL (drop 2 input)
    go false false = omega arith
