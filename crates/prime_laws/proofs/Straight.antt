-- With the flag on a text is read as, with it off, the text in which an apostrophe replaces each curly sign. Assumes nothing.
use Prim.Native.Nat.{ℕ, suc}
use mathlib.Core.Path.{◌≡◌, refl, sym, ap, subst, ◌∙◌}
use mathlib.Core.Bool.{Bool, true, false}
use mathlib.Core.List.{List, [], ◌∷◌}
use mathlib.Core.Option.{Option, none, some}
use native.Mathlib.Omega.{arith}
use lib.Dec.{leb}
use lib.ListN.{length}
use Rattle.notation.specs.Utf8.{utf8}
use Rattle.notation.specs.Tree.{Tree}
use Rattle.notation.specs.Grammar.{Reading, read, at_end, notation_by, notation}
use Rattle.notation.specs.Meaning.{unspanned}
use Rattle.notation.specs.Refusals.{Outcome, refusal, result, ◌>>=◌, ◌>>◌, unless, or_refuse, TOO-LONG, NOT-UTF8, TOO-NESTED, NOT-NOTATION}
use Rattle.notation.specs.Entries.{MAX-TEXT, nesting_ok, tree_in}
use Rattle.notation.specs.Primes.{without_curly, straight_from, straight, tree_given, straight_tree_in, ReadAsStraight}
use Rattle.notation.specs.declared.features.Features.{Features}
use Rattle.prime_laws.proofs.Plain.{straight-length}
use Rattle.prime_laws.proofs.Follows.{Meets, neither, both}
use Rattle.prime_laws.proofs.Parts.{at-start, within}
use Rattle.prime_laws.proofs.Nodes.{Trees, list-follows}

-- both texts are rejected, or both are read to trees that belong together
data Both (text : List ℕ) : Option Tree → Option Tree → Type 0 where
  rejected-both : Both text none none
  read-both : {t t' : Tree} → Trees text t t' → Both text (some t) (some t')

-- both come to their end together
at-end : {text : List ℕ} {l : ℕ} {r r' : Reading Tree} → Meets (within text) 0 l (Trees text) r r' → Both text (at_end r) (at_end r')
unfolding straight_from
at-end neither = rejected-both
at-end {text = text} (both {a = a} {a' = a'} {at = at} {at' = at'} {s = []} {s' = s'} w t) =
    subst (λ (x : List ℕ). Both text (some a) (at_end (read a' at' x))) (sym w.rest) (read-both t)
at-end {text = text} (both {a = a} {a' = a'} {at = at} {at' = at'} {s = b ∷ s} {s' = s'} w t) =
    subst (λ (x : List ℕ). Both text none (at_end (read a' at' x))) (sym w.rest) rejected-both

module _ (f : Features) (on : f.curly_primes ≡ true) (text : List ℕ) where
  notations : utf8 text ≡ true → Both text (notation f text) (notation (without_curly f) (straight text))
  unfolding notation_by
  notations e =
      let m : ℕ = suc (length (straight text)) in
      at-end ((list-follows text f on m (suc (length text)) m (omega (arith, straight-length 0 text)) (omega arith)).meets 0 text 0 (at-start text e) (omega arith))

  -- the refusals that both have from the text as given, then what was read
  outcomes : {A : Type 0} (g g' : Tree → A) → ((t t' : Tree) → Trees text t t' → g t ≡ g' t') →
      (do t ← tree_in f text; result (g t)) ≡ (do t ← straight_tree_in f text; result (g' t))
  unfolding tree_in
  outcomes g g' h = go (leb (length text) MAX-TEXT) (utf8 text) (nesting_ok 0 0 text) refl
    where
      told : {o o' : Option Tree} → Both text o o' → (do t ← or_refuse NOT-NOTATION o; result (g t)) ≡ (do t ← or_refuse NOT-NOTATION o'; result (g' t))
      told rejected-both = refl
      told (read-both {t} {t'} x) = ap result (h t t' x)

      go : (l u n : Bool) → utf8 text ≡ u →
          (do t ← (do (do unless TOO-LONG l; unless NOT-UTF8 u); unless TOO-NESTED n; or_refuse NOT-NOTATION (notation f text)); result (g t))
          ≡ (do t ← (do (do unless TOO-LONG l; unless NOT-UTF8 u); unless TOO-NESTED n; or_refuse NOT-NOTATION (notation (without_curly f) (straight text))); result (g' t))
      go false u n e = refl
      go true false n e = refl
      go true true false e = refl
      go true true true e = told (notations e)

itself : (o : Outcome Tree) → o ≡ (do t ← o; result t)
itself (refusal r) = refl
itself (result t) = refl

pub read-as-straight : ReadAsStraight
read-as-straight =
    record {
      readings = λ f on text. itself (tree_in f text) ∙ outcomes f on text (λ t. t) (tree_given text) (λ t t' x. x.offsets);
      meanings = λ f on text. outcomes f on text (unspanned text) (unspanned (straight text)) (λ t t' x. x.meaning);
    }
