-- The first line of the input. Assumes nothing.
use Prim.Native.Nat.{ℕ, ◌≤◌}
use mathlib.Core.Path.{◌≡◌, refl, sym, ap, ◌∙◌}
use mathlib.Core.Bool.{Bool, true, false}
use mathlib.Core.List.{List, [], ◌∷◌, ◌++◌, append-nil}
use native.Mathlib.Omega.{arith}
use borrow.Author.Tests.{eq-eqb, eqb-true, ne_eqb, le-leb}
use lib.Dec.{eqb}
use lib.ListN.{length, drop, get_or}
use Rattle.notation.specs.Basics.{same_list}
use Rattle.notation.specs.Features.{WCA, MAXIMAL}
use Rattle.notation.specs.Refusals.{Outcome, result}
use Rattle.notation.specs.Print.{put}
use Rattle.notation.specs.Entries.{reading}
use Rattle.notation.specs.Lister.{tree_part, MAX-INPUT, listing, lister}
use Rattle.notation.specs.declared.features.Features.{Features}
use Rattle.notation.proofs.Bools.{and-false}

-- what names no features
pub unnamed : (input : List ℕ) → (2 ≤ length input → get_or input 1 0 ≡ 10 → get_or input 0 0 ≡ 119 → ⊥) →
    (2 ≤ length input → get_or input 1 0 ≡ 10 → get_or input 0 0 ≡ 109 → ⊥) → lister input ≡ put "refused input\n" []
unfolding lister same_list
unnamed [] w m = refl
unnamed (a ∷ []) w m = rw (and-false (eqb a 119), and-false (eqb a 109))
unnamed (a ∷ (b ∷ l)) w m = go (eqb b 10) refl
  where
    go : (t : Bool) → eqb b 10 ≡ t → lister (a ∷ (b ∷ l)) ≡ put "refused input\n" []
    go false e = rw (e, and-false (eqb a 119), and-false (eqb a 109))
    go true e =
        let n : a ≡ 119 → ⊥ = λ f. w (omega arith) (eqb-true b 10 e) f in
        let o : a ≡ 109 → ⊥ = λ f. m (omega arith) (eqb-true b 10 e) f in
        rw (ne_eqb a 119 n, ne_eqb a 109 o)

pub is-w : (input : List ℕ) → 2 ≤ length input → get_or input 1 0 ≡ 10 → get_or input 0 0 ≡ 119 → lister input ≡ listing WCA (drop 2 input)
unfolding lister same_list
is-w [] h e f = absurd (omega arith)
is-w (a ∷ []) h e f = absurd (omega arith)
is-w (a ∷ (b ∷ l)) h e f = rw (eq-eqb b 10 e, eq-eqb a 119 f)

pub is_m : (input : List ℕ) → 2 ≤ length input → get_or input 1 0 ≡ 10 → get_or input 0 0 ≡ 109 → lister input ≡ listing MAXIMAL (drop 2 input)
unfolding lister same_list
is_m [] h e f = absurd (omega arith)
is_m (a ∷ []) h e f = absurd (omega arith)
is_m (a ∷ (b ∷ l)) h e f = let n : a ≡ 119 → ⊥ = λ g. omega arith in rw (ne_eqb a 119 n, eq-eqb b 10 e, eq-eqb a 109 f)

-- the text
pub text-fits : (f : Features) (text : List ℕ) (o : Outcome (List ℕ)) → length text ≤ MAX-INPUT → reading f text ≡ o → tree_part text o ≡ listing f text
text-fits f text o h e = rw (le-leb (length text) MAX-INPUT h) (ap (tree_part text) (sym e))

pub text-read : (f : Features) (text part tree : List ℕ) → length text ≤ MAX-INPUT → reading f text ≡ result tree → part ≡ tree → tree_part text (result part) ++ [] ≡ listing f text
text-read f text part tree h e q =
    append-nil (tree_part text (result part)) ∙ ap (λ (t : List ℕ). tree_part text (result t)) q ∙ text-fits f text (result tree) h e

pub listing-of : {f f' : Features} {text text' : List ℕ} → f ≡ f' → text ≡ text' → listing f text ++ [] ≡ listing f' text'
listing-of {f} {f'} {text} {text'} p q =
    append-nil (listing f text) ∙ ap (λ (g : Features). listing g text) p ∙ ap (listing f') q
