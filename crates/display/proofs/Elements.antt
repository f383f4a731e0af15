-- Sets in braces, element by element. Assumes nothing.
use Prim.Native.Nat.{ℕ, zero, suc, ◌+◌, ◌≤◌}
use mathlib.Core.Path.{◌≡◌, refl, sym, ap, ◌∙◌}
use mathlib.Core.Bool.{Bool, true, false}
use mathlib.Core.List.{List, [], ◌∷◌}
use native.Mathlib.Omega.{arith}
use lib.Dec.{eqb}
use lib.ListN.{length, drop}
use lib.Seq.{drop-drop}
use Rattle.notation.specs.Chars.{white_space}
use Rattle.notation.specs.Utf8.{run, byte_at}
use Rattle.notation.specs.Grammar.{Reading, rejected, read, Reader, and_then, done, just, whitespace, padded, more_of, separated_by, braces, layer_set_element, layer_set_elements, at_end}
use Rattle.notation.specs.Layers.{LayerSetElement}
use Rattle.notation.specs.Meaning.{or_empty, layer_set_in}
use Rattle.notation.specs.WellFormed.{is_some}
use Rattle.notation.specs.Print.{put_more, put_element}
use Rattle.laws.proofs.Bools.{false-true}
use Rattle.laws.proofs.Readers.{not-read}
use Rattle.std.specs.Prelude as code
use Rattle.parsed.specs.declared.Parsed.{Parsed}
use Rattle.parsed.specs.Reading.{reading}
use Rattle.parse.specs.Meaning.{layer_set_element_of}
use Rattle.parse.specs.declared.parts.LayerSetElement as parts
use Rattle.parse.proofs.Bytes.{seen, other, just-is, just-not}
use Rattle.parse.proofs.Past.{within}
use Rattle.parse.proofs.Rules.{takes-layer_set_element}
use Rattle.display.specs.Written.{Wrote}
use Rattle.display.specs.declared.write.Printer.{Printer}
use Rattle.display.specs.Sets.{Following}
use Rattle.display.proofs.Writing.{wrote_none, wrote_then}

-- the list ends where no separator with an item follows, and else goes on behind it
module _ {A : Type 0} (item : Reader A) where
  abbrev more : ℕ → Reader (List A)
  more fuel = more_of ◌∷◌ [] item (padded (just ",")) fuel

  more-none : (fuel at : ℕ) (s : List ℕ) → and_then (padded (just ",") at s) (λ _. item) ≡ rejected → more fuel at s ≡ read [] at s
  unfolding more_of
  more-none zero at s e = refl
  more-none (suc k) at s e = rw e

  more-one : (k at : ℕ) (s : List ℕ) (a : A) (next : ℕ) (t : List ℕ) → and_then (padded (just ",") at s) (λ _. item) ≡ read a next t →
      more (suc k) at s ≡ and_then (more k next t) (λ l. done (a ∷ l))
  unfolding more_of
  more-one k at s a next t e = rw e

module _ {A : Type 0} (item : Reader A) (part : List ℕ) (at comma : ℕ) (space : comma ≡ at + run white_space (drop at part)) where
  pub none-follows : {l : List A} → eqb (byte_at part comma) 44 ≡ false → Following item part at l → l ≡ []
  none-follows {l} e f =
      let q : read l f.middle f.rest ≡ read [] at (drop at part) =
      sym f.more ∙ more-none item f.fuel at (drop at part) (rw (drop-drop (run white_space (drop at part)) at part, ← space, just-not "," part comma e)) in
      cc

  module _ (e : eqb (byte_at part comma) 44 ≡ true) (from : ℕ) (space₂ : from ≡ comma + 1 + run white_space (drop (comma + 1) part)) where
    separated : and_then (padded (just ",") at (drop at part)) (λ _. item) ≡ item from (drop from part)
    separated =
        rw (
          drop-drop (run white_space (drop at part)) at part,
          ← space,
          just-is "," part comma (omega arith) e,
          drop-drop (run white_space (drop (comma + 1) part)) (comma + 1) part,
          ← space₂,
        )

    -- no brace stands where the comma does
    not-closed : (middle : ℕ) (rest : List ℕ) (last : ℕ) → middle ≡ at → rest ≡ drop at part →
        and_then (whitespace middle rest) (λ _. just "}") ≡ read tt last [] → ⊥
    not-closed middle rest last m r h =
        let k : and_then (whitespace at (drop at part)) (λ _. just "}") ≡ read tt last [] = rw (m, r) at h in
        not-read
        (sym (rw (drop-drop (run white_space (drop at part)) at part, ← space, just-not "}" part comma (other (byte_at part comma) 44 125 (λ z. omega arith) e)))
        ∙ k)

    pub item-follows : {l : List A} → rejected ≡ item from (drop from part) → Following item part at l → ⊥
    item-follows {l} q f =
        let j : read l f.middle f.rest ≡ read [] at (drop at part) = sym f.more ∙ more-none item f.fuel at (drop at part) (separated ∙ sym q) in
        not-closed f.middle f.rest f.last (cc) (cc) f.closes

    pub one_follows : {l : List A} (a : A) (next : ℕ) → read a next (drop next part) ≡ item from (drop from part) → Following item part at l →
        (l' : List A) × (l ≡ a ∷ l') × Following item part next l'
    unfolding more_of
    one_follows {l} a next q f = go f.fuel f.more
      where
        finish : (k : ℕ) (r : Reading (List A)) → more item k next (drop next part) ≡ r → and_then r (λ l. done (a ∷ l)) ≡ read l f.middle f.rest →
            (l' : List A) × (l ≡ a ∷ l') × Following item part next l'
        finish k rejected e h = not-read h
        finish k (read l' m t) e h =
            let i : f.middle ≡ m = cc in
            let j : f.rest ≡ t = cc in
            (l', cc, record { fuel = k; middle = m; rest = t; last = f.last; more = e; closes = rw (i, j) at f.closes })

        go : (fuel : ℕ) → more item fuel at (drop at part) ≡ read l f.middle f.rest → (l' : List A) × (l ≡ a ∷ l') × Following item part next l'
        go zero h = absurd (not-closed f.middle f.rest f.last (cc) (cc) f.closes)
        go (suc k) h = finish k (more item k next (drop next part)) refl (sym (more-one item k at (drop at part) a next (drop next part) (separated ∙ sym q)) ∙ h)

-- A set from its brace on.
module _ {A : Type 0} (item : Reader A) (part : List ℕ) where
  abbrev ended : Reading (List A) → Reading (List A)
  ended r = and_then (and_then r (λ l at s. and_then (whitespace at s) (λ _. done l))) (λ l at s. and_then (just "}" at s) (λ _. done l))

  ended-read : (x l : List A) (m last : ℕ) (t : List ℕ) → ended (read x m t) ≡ read l last [] →
      (x ≡ l) × (and_then (whitespace m t) (λ _. just "}") ≡ read tt last [])
  ended-read x l m last t h = go (and_then (whitespace m t) (λ _. just "}")) h
    where
      go : (r : Reading (Unit {0})) → and_then r (λ _. done x) ≡ read l last [] → (x ≡ l) × (r ≡ read tt last [])
      go rejected h = not-read h
      go (read u e s) h =
          let i : e ≡ last = cc in
          let j : s ≡ [] = cc in
          (cc, rw (i, j))

  module _ {l : List A} {last : ℕ} (w : braces item 0 part ≡ read l last []) where
    braced : eqb (byte_at part 0) 123 ≡ true
    braced = go (eqb (byte_at part 0) 123) refl
      where
        go : (t : Bool) → eqb (byte_at part 0) 123 ≡ t → t ≡ true
        go true e = refl
        go false e = not-read (sym (rw (just-not "{" part 0 e)) ∙ w)

    pub some_bytes : 1 ≤ length part
    some_bytes = omega (arith, seen part 0 123 (omega arith) braced)

    module _ (start : ℕ) (space : start ≡ 1 + run white_space (drop 1 part)) where
      opens : ended (separated_by ◌∷◌ [] item (padded (just ",")) start (drop start part)) ≡ read l last []
      opens = rw (just-is "{" part 0 (omega arith) braced, drop-drop (run white_space (drop 1 part)) 1 part, ← space) at w

      pub no-first : rejected ≡ item start (drop start part) → l ≡ []
      no-first q = sym (ended-read [] l start last (drop start part) (rw (← q) at opens)).0

      pub first-follows : (a : A) (next : ℕ) → read a next (drop next part) ≡ item start (drop start part) →
          (l' : List A) × (l ≡ a ∷ l') × Following item part next l'
      first-follows a next q = go (more item k next (drop next part)) refl (rw (← q) at opens)
        where
          k : ℕ
          k = length (drop start part)

          go : (r : Reading (List A)) → more item k next (drop next part) ≡ r → ended (and_then r (λ l. done (a ∷ l))) ≡ read l last [] →
              (l' : List A) × (l ≡ a ∷ l') × Following item part next l'
          go rejected e h = not-read h
          go (read l' m t) e h =
              let x = ended-read (a ∷ l') l m last t h in
              (l', sym x.0, record { fuel = k; middle = m; rest = t; last = last; more = e; closes = x.1 })

-- An answer of the reader by what was read.
module _ (part : List ℕ) (from : ℕ) {r : code.Option (Parsed parts.LayerSetElement)} (h : reading layer_set_element_of part r ≡ layer_set_element true from (drop from part)) where
  pub nothing-read : r ≡ code.None → rejected ≡ layer_set_element true from (drop from part)
  nothing-read n = rw n at h

  pub element-read : (p : Parsed parts.LayerSetElement) → r ≡ code.Some p →
      read (layer_set_element_of p.value) p.next (drop p.next part) ≡ layer_set_element true from (drop from part)
  element-read p n = rw n at h

-- The loop over the elements: those that are left, and what printing them completes.
pub record Sofar (part : List ℕ) (end : ℕ) (old mid : Printer) (l : List LayerSetElement) : Type 0 where
  pub left : List LayerSetElement
  pub follows : Following (layer_set_element true) part end left
  pub onward : (new : Printer) → Wrote mid new (put_more put_element left) → Wrote old new (put_more put_element l)

module _ {part : List ℕ} {end : ℕ} {old mid : Printer} {l : List LayerSetElement} (w : Sofar part end old mid l)
    (comma : ℕ) (space : comma ≡ end + run white_space (drop end part)) where
  -- no comma: the elements are at their end
  pub sofar-all : eqb (byte_at part comma) 44 ≡ false → Wrote old mid (put_more put_element l)
  unfolding put_more
  sofar-all e = w.onward mid (rw (none-follows (layer_set_element true) part end comma space e w.follows) (wrote_none mid))

  module _ (e : eqb (byte_at part comma) 44 ≡ true) (from : ℕ) (space₂ : from ≡ comma + 1 + run white_space (drop (comma + 1) part)) where
    pub sofar-never : rejected ≡ layer_set_element true from (drop from part) → ⊥
    sofar-never q = item-follows (layer_set_element true) part end comma space e from space₂ q w.follows

    pub sofar-more : {mid' : Printer} {to : ℕ} (a : LayerSetElement) → read a to (drop to part) ≡ layer_set_element true from (drop from part) →
        Wrote mid mid' (λ rest. 44 ∷ put_element a rest) → Sofar part to old mid' l
    unfolding put_more
    sofar-more {to = to} a r c =
        let x = one_follows (layer_set_element true) part end comma space e from space₂ a to r w.follows in
        record {
          left = x.0;
          follows = x.2;
          onward = λ new v. w.onward new (rw x.1 (wrote_then c v));
        }

-- where an element ends
pub item-end : (part : List ℕ) (from to : ℕ) {a : LayerSetElement} → from ≤ length part →
    read a to (drop to part) ≡ layer_set_element true from (drop from part) → (from + 1 ≤ to) × (to ≤ length part)
item-end part from to h q = within part from (takes-layer_set_element true) h q

-- A part that is a set, by its first element.
set_is : (part : List ℕ) → is_some (layer_set_in part) ≡ true →
    (l : List LayerSetElement) × (last : ℕ) × (braces (layer_set_element true) 0 part ≡ read l last []) × (or_empty (layer_set_in part) ≡ l)
unfolding layer_set_in layer_set_elements
set_is part h = go (braces (layer_set_element true) 0 part) refl h
  where
    go : (r : Reading (List LayerSetElement)) → braces (layer_set_element true) 0 part ≡ r → is_some (at_end r) ≡ true →
        (l : List LayerSetElement) × (last : ℕ) × (braces (layer_set_element true) 0 part ≡ read l last []) × (or_empty (layer_set_in part) ≡ l)
    go rejected e t = absurd (false-true t)
    go (read l last []) e t = (l, last, e, ap (λ (r : Reading (List LayerSetElement)). or_empty (at_end r)) e)
    go (read l last (b ∷ s)) e t = absurd (false-true t)

module _ (part : List ℕ) (h : is_some (layer_set_in part) ≡ true) where
  pub set_long : 1 ≤ length part
  set_long = let x = set_is part h in some_bytes (layer_set_element true) part x.2

  module _ (start : ℕ) (space : start ≡ 1 + run white_space (drop 1 part)) where
    pub set-empty : rejected ≡ layer_set_element true start (drop start part) → or_empty (layer_set_in part) ≡ []
    set-empty q = let x = set_is part h in x.3 ∙ no-first (layer_set_element true) part x.2 start space q

    pub set_first : {end : ℕ} (a : LayerSetElement) → read a end (drop end part) ≡ layer_set_element true start (drop start part) →
        (l : List LayerSetElement) × (or_empty (layer_set_in part) ≡ a ∷ l) × Following (layer_set_element true) part end l
    set_first {end = end} a r =
        let x = set_is part h in
        let y = first-follows (layer_set_element true) part x.2 start space a end r in
        (y.0, x.3 ∙ y.1, y.2)
