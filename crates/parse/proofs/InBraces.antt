-- Sets in braces, as the loop reads them: one law for every kind of element. Assumes nothing.
use Prim.Native.Nat.{ℕ, zero, suc, ◌+◌, ◌-◌, ◌≤◌, ◌<◌}
use mathlib.Core.Path.{◌≡◌, refl, sym, ap, ◌∙◌}
use mathlib.Core.Bool.{Bool, true, false}
use mathlib.Core.List.{List, [], ◌∷◌}
use native.Mathlib.Nat.{add-zero}
use native.Mathlib.Omega.{arith}
use borrow.Author.Tests.{eq-eqb}
use lib.Dec.{eqb}
use lib.ListN.{length, drop, length-drop}
use lib.Seq.{drop-drop}
use Rattle.notation.specs.Chars.{white_space}
use Rattle.notation.specs.Utf8.{run, byte_at}
use Rattle.notation.specs.Grammar.{Reading, rejected, read, Reader, and_then, done, just, whitespace, padded, collect, more_of, separated_by, braces, constraint, constraint_set, layer_set_element, layer_set_elements}
use Rattle.charsets.proofs.Runs.{run-dropped}
use Rattle.parse.specs.Meaning.{forget, brace, more, ending, constraint_end, layer_end}
use Rattle.parse.proofs.Bytes.{seen, other, just-is, just-not}

-- what follows an element, behind further ones
module _ {A : Type 0} (item : Reader A) where
  stop : (fuel at : ℕ) (s : List ℕ) → and_then (padded (just ",") at s) (λ _. item) ≡ rejected → ending item fuel at s ≡ and_then (whitespace at s) (λ _. brace)
  unfolding more_of
  stop zero at s e = refl
  stop (suc k) at s e = rw e

  on : (k at : ℕ) (s : List ℕ) (a : A) (next : ℕ) (t : List ℕ) → and_then (padded (just ",") at s) (λ _. item) ≡ read a next t → ending item (suc k) at s ≡ ending item k next t
  unfolding more_of
  on k at s a next t e = rw e (go (more item k next t))
    where
      go : (r : Reading (List A)) → and_then (and_then r (λ l. done (a ∷ l))) (λ _ at s. and_then (whitespace at s) (λ _. brace)) ≡ and_then r (λ _ at s. and_then (whitespace at s) (λ _. brace))
      go rejected = refl
      go (read l e u) = refl

-- the loop behind an element that starts behind `mark` and ends at `end`: the whole is still what follows from there
pub record Still {A : Type 0} (text : List ℕ) (item : Reader A) (mark end : ℕ) (whole : Reading (Unit {0})) : Type 0 where
  pub past : mark < end
  pub inside : end ≤ length text
  pub fuel : ℕ
  pub enough : length text - end ≤ fuel
  pub same : ending item fuel end (drop end text) ≡ whole

-- where white space ends that stands behind a mark
abbrev behind : List ℕ → ℕ → ℕ
behind text mark = mark + 1 + run white_space (drop (mark + 1) text)

-- the loop at `mark`, which is the brace at `at` or a comma: what an element behind it, or the lack of one, says of the whole
pub record Marked {A : Type 0} (text : List ℕ) (item : Reader A) (at mark : ℕ) (whole : Reading (Unit {0})) : Type 0 where
  pub later : at ≤ mark
  pub inside : mark < length text
  pub bare : mark ≡ at → (from : ℕ) → from ≡ behind text mark → rejected ≡ item from (drop from text) → brace from (drop from text) ≡ whole
  pub lacking : (mark ≡ at → ⊥) → (from : ℕ) → from ≡ behind text mark → rejected ≡ item from (drop from text) → rejected ≡ whole
  pub onward : (from : ℕ) → from ≡ behind text mark → (a : A) (next : ℕ) → read a next (drop next text) ≡ item from (drop from text) → (from < next) × (next ≤ length text) → Still text item mark next whole

module _ {A : Type 0} (item : Reader A) (text : List ℕ) (mark end comma : ℕ) (space : comma ≡ end + run white_space (drop end text)) where
  pub closes : {x whole : Reading (Unit {0})} → eqb (byte_at text comma) 44 ≡ false → x ≡ brace comma (drop comma text) → Still text item mark end whole → x ≡ whole
  closes e q w =
      sym
      (sym w.same
      ∙ stop item w.fuel end (drop end text) (rw (drop-drop (run white_space (drop end text)) end text, ← space, just-not "," text comma e))
      ∙ rw (drop-drop (run white_space (drop end text)) end text, ← space) (sym q))

  module _ (e : eqb (byte_at text comma) 44 ≡ true) where
    module _ (from : ℕ) (space₂ : from ≡ behind text comma) where
      separated : and_then (padded (just ",") end (drop end text)) (λ _. item) ≡ item from (drop from text)
      separated =
          rw (
            drop-drop (run white_space (drop end text)) end text,
            ← space,
            just-is "," text comma (omega arith) e,
            drop-drop (run white_space (drop (comma + 1) text)) (comma + 1) text,
            ← space₂,
          )

      no_item : {whole : Reading (Unit {0})} → rejected ≡ item from (drop from text) → Still text item mark end whole → rejected ≡ whole
      no_item q w =
          sym
          (sym w.same ∙ stop item w.fuel end (drop end text) (separated ∙ sym q)
          ∙ rw (drop-drop (run white_space (drop end text)) end text, ← space, just-not "}" text comma (other (byte_at text comma) 44 125 (λ z. omega arith) e)))

      goes_on : {whole : Reading (Unit {0})} (a : A) (next : ℕ) → read a next (drop next text) ≡ item from (drop from text) → (from < next) × (next ≤ length text) → Still text item mark end whole → Still text item comma next whole
      goes_on {whole = whole} a next q bounds w = go w.fuel w.enough w.same
        where
          last_byte : comma < length text
          last_byte = seen text comma 44 (omega arith) e

          go : (fuel : ℕ) → length text - end ≤ fuel → ending item fuel end (drop end text) ≡ whole → Still text item comma next whole
          go zero l v = absurd (omega (arith, bounds.0, bounds.1, last_byte))
          go (suc k) l v = record {
            past = omega (arith, bounds.0);
            inside = bounds.1;
            fuel = k;
            enough = omega (arith, bounds.0, bounds.1);
            same = sym (on item k end (drop end text) a next (drop next text) (separated ∙ sym q)) ∙ v;
          }

    pub marks : {at : ℕ} {whole : Reading (Unit {0})} → at ≤ mark → Still text item mark end whole → Marked text item at comma whole
    marks h w = record {
      later = omega (arith, w.past);
      inside = seen text comma 44 (omega arith) e;
      bare = λ z. absurd (omega (arith, w.past, z));
      lacking = λ _ from s q. no_item from s q w;
      onward = λ from s a next q b. goes_on from s a next q b w;
    }

-- A set from its brace on.
module _ {A : Type 0} (item : Reader A) (text : List ℕ) (at : ℕ) where
  pub no-brace : eqb (byte_at text at) 123 ≡ false → rejected ≡ forget (braces item at (drop at text))
  no-brace e = rw (just-not "{" text at e)

  module _ (e : eqb (byte_at text at) 123 ≡ true) (start : ℕ) (space : start ≡ behind text at) where
    last : (l : List A) (r : Reading (Unit {0})) → r ≡ forget (and_then r (λ _. done l))
    last l rejected = refl
    last l (read u e t) = refl

    empty-set : rejected ≡ item start (drop start text) → brace start (drop start text) ≡ forget (braces item at (drop at text))
    empty-set q =
        let z : run white_space (drop start text) ≡ 0 =
        rw space
        (ap (λ (l : List ℕ). run white_space l) (sym (drop-drop (run white_space (drop (at + 1) text)) (at + 1) text)) ∙ run-dropped white_space (drop (at + 1) text))
        in
        rw (just-is "{" text at (omega arith) e, drop-drop (run white_space (drop (at + 1) text)) (at + 1) text, ← space, ← q, z, add-zero)
        (last [] (brace start (drop start text)))

    set-from : (a : A) (next : ℕ) → read a next (drop next text) ≡ item start (drop start text) →
        ending item (length (drop start text)) next (drop next text) ≡ forget (braces item at (drop at text))
    set-from a next q =
        rw (just-is "{" text at (omega arith) e, drop-drop (run white_space (drop (at + 1) text)) (at + 1) text, ← space, ← q)
        (go (more item (length (drop start text)) next (drop next text)))
      where
        go : (r : Reading (List A)) →
            and_then r (λ _ at s. and_then (whitespace at s) (λ _. brace))
            ≡ forget (and_then (and_then (and_then r (λ l. done (a ∷ l))) (λ l at s. and_then (whitespace at s) (λ _. done l))) (λ l at s. and_then (just "}" at s) (λ _. done l)))
        go rejected = refl
        go (read l i t) = last (a ∷ l) (just "}" (i + run white_space t) (drop (run white_space t) t))

    set-goes-on : (a : A) (next : ℕ) → read a next (drop next text) ≡ item start (drop start text) → (start < next) × (next ≤ length text) → Still text item at next (forget (braces item at (drop at text)))
    set-goes-on a next q b =
        record {
          past = omega (arith, b.0);
          inside = b.1;
          fuel = length (drop start text);
          enough = omega (arith, b.0, length-drop start text);
          same = set-from a next q;
        }

  pub opened : byte_at text at ≡ 123 → Marked text item at at (forget (braces item at (drop at text)))
  opened b =
      let e : eqb (byte_at text at) 123 ≡ true = eq-eqb _ _ b in
      record {
        later = omega arith;
        inside = seen text at 123 (omega arith) e;
        bare = λ _ from s q. empty-set e from s q;
        lacking = λ z. absurd (z refl);
        onward = λ from s a next q w. set-goes-on e from s a next q w;
      }

-- Only the ends of the elements matter.
module _ {A : Type 0} (item : Reader A) where
  collected : (r : Reading A) (p : Reader (List A)) (q : Reader (List (Unit {0}))) → ((at : ℕ) (s : List ℕ) → forget (p at s) ≡ forget (q at s)) → (at : ℕ) (s : List ℕ) →
      forget (collect ◌∷◌ [] r p at s) ≡ forget (collect ◌∷◌ [] (forget r) q at s)
  collected rejected p q h at s = refl
  collected (read a e t) p q h at s = added a (p e t) ∙ h e t ∙ sym (added tt (q e t))
    where
      added : {B : Type 0} (b : B) (r : Reading (List B)) → forget (and_then r (λ l. done (b ∷ l))) ≡ forget r
      added b rejected = refl
      added b (read l e t) = refl

  inner : {B : Type 0} (r : Reading B) → forget (and_then r (λ _. item)) ≡ and_then r (λ _ at s. forget (item at s))
  inner rejected = refl
  inner (read b e t) = refl

  more-ends : (k at : ℕ) (s : List ℕ) → forget (more item k at s) ≡ forget (more (λ at s. forget (item at s)) k at s)
  unfolding more_of
  more-ends zero at s = refl
  more-ends (suc k) at s =
      collected (and_then (padded (just ",") at s) (λ _. item)) (more item k) (more (λ at s. forget (item at s)) k) (λ at s. more-ends k at s) at s
      ∙ ap (λ (r : Reading (Unit {0})). forget (collect ◌∷◌ [] r (more (λ at s. forget (item at s)) k) at s)) (inner (padded (just ",") at s))

  -- what follows a list that it does not look at
  followed : {B : Type 0} (r : Reading (List B)) →
      forget (and_then (and_then r (λ l at s. and_then (whitespace at s) (λ _. done l))) (λ l at s. and_then (just "}" at s) (λ _. done l)))
      ≡ and_then (forget r) (λ _ at s. and_then (whitespace at s) (λ _. brace))
  followed rejected = refl
  followed (read l i t) = go (just "}" (i + run white_space t) (drop (run white_space t) t))
    where
      go : (r : Reading (Unit {0})) → forget (and_then r (λ _. done l)) ≡ r
      go rejected = refl
      go (read u e t) = refl

  pub braces-ends : (at : ℕ) (s : List ℕ) → forget (braces (λ at s. forget (item at s)) at s) ≡ forget (braces item at s)
  braces-ends at s = go (just "{" at s)
    where
      inside : {B : Type 0} → Reader B → Reader (List B)
      inside p at s = and_then (and_then (whitespace at s) (λ _ at s. and_then (separated_by ◌∷◌ [] p (padded (just ",")) at s) (λ l at s. and_then (whitespace at s) (λ _. done l)))) (λ l at s. and_then (just "}" at s) (λ _. done l))

      go : (r : Reading (Unit {0})) → forget (and_then r (λ _. inside (λ at s. forget (item at s)))) ≡ forget (and_then r (λ _. inside item))
      go rejected = refl
      go (read u e t) = at-list (e + run white_space t) (drop (run white_space t) t)
        where
          at-list : (i : ℕ) (w : List ℕ) →
              forget (and_then (and_then (separated_by ◌∷◌ [] (λ at s. forget (item at s)) (padded (just ",")) i w) (λ l at s. and_then (whitespace at s) (λ _. done l))) (λ l at s. and_then (just "}" at s) (λ _. done l)))
              ≡ forget (and_then (and_then (separated_by ◌∷◌ [] item (padded (just ",")) i w) (λ l at s. and_then (whitespace at s) (λ _. done l))) (λ l at s. and_then (just "}" at s) (λ _. done l)))
          at-list i w =
              followed (separated_by ◌∷◌ [] (λ at s. forget (item at s)) (padded (just ",")) i w)
              ∙ ap (λ (r : Reading (Unit {0})). and_then r (λ _ at s. and_then (whitespace at s) (λ _. brace)))
              (sym (collected (item i w) (more item (length w)) (more (λ at s. forget (item at s)) (length w)) (λ at s. more-ends (length w) at s) i w))
              ∙ sym (followed (separated_by ◌∷◌ [] item (padded (just ",")) i w))

-- The two kinds of sets.
pub constraint-set-ends : (at : ℕ) (s : List ℕ) → forget (braces constraint_end at s) ≡ forget (constraint_set at s)
unfolding constraint_set
constraint-set-ends at s = braces-ends constraint at s

pub layer-set-ends : (hsc1 : Bool) (at : ℕ) (s : List ℕ) → forget (braces (layer_end hsc1) at s) ≡ forget (layer_set_elements hsc1 at s)
unfolding layer_set_elements
layer-set-ends hsc1 at s = braces-ends (layer_set_element hsc1) at s
