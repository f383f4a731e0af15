-- Families, constraints, layers and multipliers: what is printed is read back, and parts of the text mean it. Assumes nothing.
use Prim.Native.Nat.{ℕ, ◌+◌, ◌≤◌, ◌<◌}
use Prim.Native.Char.{Char, code}
use mathlib.Core.Path.{◌≡◌, refl, ap, ◌∙◌}
use mathlib.Core.Bool.{◌&&◌, Bool, true, false}
use mathlib.Core.List.{List, [], ◌∷◌, ◌++◌}
use lib.Dec.{ltb, eqb-suc-zero, lit<}
use lib.IntN.{ℤ, pos, negsuc}
use lib.ListN.{length, take}
use lib.Seq.{drop-append_seam, take-append_seam}
use native.Mathlib.Omega.{arith}
use borrow.Author.Tests.{le-leb, lt-ltb, ltb-true}
use Rattle.notation.specs.Basics.{every, one_of}
use Rattle.notation.specs.Chars.{is_family_char, white_space, classify}
use Rattle.notation.specs.Utf8.{run, run_from, char_width, code_point}
use Rattle.notation.specs.Numbers.{digit_run, show_signed}
use Rattle.notation.specs.Layers.{LayerSetElement, single, range, MAX-LAYER}
use Rattle.notation.specs.Tree.{part_of, Constraint, from_to, swap, fix}
use Rattle.notation.specs.Packed.{family_at}
use Rattle.notation.specs.Grammar.{
  padded,
  done,
  ◌>>◌,
  Reader,
  ◌>>=◌,
  just,
  word,
  uint,
  layer,
  signed_layer,
  family_text,
  family,
  constraint,
  constraint_set,
  layer_set_element,
  layer_set_elements,
  at_end,
}
use Rattle.notation.specs.Meaning.{constraints_in, layer_set_in, or_empty}
use Rattle.notation.specs.Print.{put_braces, put_constraint, put_element}
use Rattle.laws.proofs.Bools.{and_left, and_right}
use Rattle.laws.proofs.InRange.{family_in_range, name_in_range, constraint_in_range, signed_in_range, element_in_range}
use Rattle.laws.proofs.ReadBack.Starts.{
  not_digit,
  starts,
  starts-listed,
  isnt,
  no-digits,
  fails,
  no_run,
  up_to,
  Whole,
  family-whole,
  run-append,
  name-no-white,
}
use Rattle.laws.proofs.ReadBack.Reads.{
  Here,
  here-after,
  Reads,
  Rejects,
  reads-done,
  reads-bind,
  reads-next,
  reads-left,
  reads-right,
  rejects-bind,
  rejects-after,
  rejects-when,
  reads-just,
  rejects-just,
  reads-part,
  reads-padded,
  rejects-padded,
}
use Rattle.laws.proofs.ReadBack.Numbers.{reads-uint, rejects-uint, signed_between, reads-sint, signed-starts}
use Rattle.laws.proofs.ReadBack.Printed.{constraint-keeps, element-keeps, AtLeast, long-byte, long-name}
use Rattle.laws.proofs.ReadBack.Braces.{item_ends, after_item, reads-items}

-- Families.
pub name-whole : (a : List ℕ) → name_in_range a ≡ true → Whole is_family_char 0 a
name-whole a h = family-whole a (and_right (ltb 0 (length a)) (family_in_range a) h)

pub name-some : (a : List ℕ) → name_in_range a ≡ true → 0 < length a
name-some a h = ltb-true 0 (length a) (and_left (ltb 0 (length a)) (family_in_range a) h)

pub tight-name : (a r : List ℕ) → name_in_range a ≡ true → run white_space (a ++ r) ≡ 0
tight-name a r h = name-no-white r (name-whole a h) (name-some a h)

family-run : (a r : List ℕ) → Whole is_family_char 0 a → run is_family_char r ≡ 0 → run is_family_char (a ++ r) ≡ length a
family-run a r w e = omega (arith, run-append r w)

-- a name is read back as its bytes
reads-family_text : {text : List ℕ} (a r : List ℕ) → name_in_range a ≡ true → run is_family_char r ≡ 0 → Reads text family_text (a ++ r) (λ x. x ≡ a) r
reads-family_text a r h e = reads-part a a refl (λ at.
    rw (family-run a r (name-whole a h) e, lt-ltb 0 (length a) (name-some a h), take-append_seam a r, drop-append_seam a r))

family-part : {text : List ℕ} {at : ℕ} (a r : List ℕ) → Here text at (a ++ r) → part_of text (family_at at (length a)) ≡ a
family-part [] r h = refl
family-part {text} {at} (b ∷ a) r h =
    rw (eqb-suc-zero (length a)) (ap (take (length (b ∷ a))) h.place ∙ take-append_seam (b ∷ a) r)

-- a family is read back as the part of the text that it is
pub reads-family : {text : List ℕ} (n : ℕ) (a r : List ℕ) → Whole is_family_char 0 a → n ≤ length a → run is_family_char r ≡ 0 →
    Reads text (family n) (a ++ r) (λ p. part_of text p ≡ a) r
reads-family n a r w h e = record {
  got = λ at here.
      record {
        value = family_at at (length a);
        next = at + length a;
        is = rw (family-run a r w e, le-leb n (length a) h, drop-append_seam a r);
        here = here-after a here;
        passes = family-part a r here;
      };
}

-- two characters that make a word
reads_two : {text : List ℕ} (c d : Char) (s : List ℕ) →
    Reads text (◌>>◌ (just c) (◌>>◌ (just d) (done (tt {0})))) (code c ∷ code d ∷ s) (λ _. Unit {0}) s
reads_two c d s = reads-bind (reads-just c) λ _ _. reads-bind (reads-just d) λ _ _. reads-done tt tt

-- Constraints: two names with a sign between them, or one name.
abbrev linked : Reader (Unit {0}) → (List ℕ → List ℕ → Constraint) → Reader Constraint
linked sign k = do a ← family_text; padded sign; b ← family_text; done (k a b)

ends-family : (r : List ℕ) → after_item r ≡ true → run is_family_char r ≡ 0
unfolding every one_of classify
ends-family r s = no_run is_family_char r (starts-listed (fails is_family_char) item_ends r refl s)

reads-linked : {text : List ℕ} (sign : Reader (Unit {0})) (k : List ℕ → List ℕ → Constraint) (a b s r : List ℕ) →
    (name_in_range a && name_in_range b) ≡ true → after_item r ≡ true → run is_family_char s ≡ 0 → run white_space s ≡ 0 →
    Reads text sign s (λ _. Unit {0}) (b ++ r) → Reads text (linked sign k) (a ++ s) (λ x. x ≡ k a b) r
reads-linked sign k a b s r h e f w x =
    let hb = and_right (name_in_range a) (name_in_range b) h in
    reads-next _ (reads-family_text a s (and_left (name_in_range a) (name_in_range b) h) f)
    (reads-bind (reads-padded w (tight-name b r hb) x) λ _ _. reads-next _ (reads-family_text b r hb (ends-family r e)) (reads-done (k a b) refl))

rejects-linked : {text : List ℕ} (sign : Reader (Unit {0})) (k : List ℕ → List ℕ → Constraint) (a s : List ℕ) →
    name_in_range a ≡ true → run is_family_char s ≡ 0 → run white_space s ≡ 0 → Rejects text sign s → Rejects text (linked sign k) (a ++ s)
rejects-linked sign k a s h f w x = rejects-after (reads-family_text a s h f) (λ _. rejects-bind _ (rejects-padded w x))

-- a constraint is read back
reads-constraint : {text : List ℕ} (c : Constraint) (r : List ℕ) → constraint_in_range c ≡ true → after_item r ≡ true →
    Reads text constraint (put_constraint c r) (λ x. x ≡ c) r
unfolding word every one_of run_from char_width code_point classify white_space
reads-constraint (from_to a b) r h s = reads-left _ (reads-linked (word "->") from_to a b _ r h s refl refl (reads_two "-" ">" (b ++ r)))
reads-constraint (swap a b) r h s =
    reads-right (rejects-linked (word "->") from_to a _ (and_left (name_in_range a) (name_in_range b) h) refl refl
    (rejects-bind _ (rejects-just "-" refl)))
    (reads-left _ (reads-linked (word "<>") swap a b _ r h s refl refl (reads_two "<" ">" (b ++ r))))
reads-constraint (fix a) r h s =
    let f = ends-family r s in
    let w = no_run white_space r (starts-listed (fails white_space) item_ends r refl s) in
    reads-right (rejects-linked (word "->") from_to a r h f w (rejects-bind _ (rejects-just "-" (starts-listed (isnt "-") item_ends r refl s))))
    (reads-right (rejects-linked (word "<>") swap a r h f w (rejects-bind _ (rejects-just "<" (starts-listed (isnt "<") item_ends r refl s))))
    (reads-next _ (reads-family_text a r h f) (reads-done (fix a) refl)))

-- it starts with no white space
tight-constraint : (c : Constraint) (r : List ℕ) → constraint_in_range c ≡ true → run white_space (put_constraint c r) ≡ 0
tight-constraint (from_to a b) r h = tight-name a _ (and_left (name_in_range a) (name_in_range b) h)
tight-constraint (swap a b) r h = tight-name a _ (and_left (name_in_range a) (name_in_range b) h)
tight-constraint (fix a) r h = tight-name a r h

-- and is no closing brace
stop-constraint : {text : List ℕ} (r : List ℕ) → Rejects text constraint (125 ∷ r)
unfolding one_of run_from char_width code_point classify
stop-constraint r = record { no = λ at _. refl }

-- a constraint list is read back
pub reads-constraint_set : {text : List ℕ} (l : List Constraint) (rest : List ℕ) → every constraint_in_range l ≡ true →
    Reads text constraint_set (put_braces put_constraint l rest) (λ x. x ≡ l) rest
unfolding constraint_set
reads-constraint_set {text} l rest h =
    reads-items text constraint put_constraint constraint_in_range reads-constraint tight-constraint stop-constraint
    (λ c r o. constraint-keeps (AtLeast (length r)) (long-byte (length r)) (long-name (length r)) c [] r o (omega arith)) l rest h

-- Elements of layer sets.
layer-ok : (i : ℤ) → signed_in_range i ≡ true → signed_between 1 MAX-LAYER MAX-LAYER i ≡ true
layer-ok (pos n) h = h
layer-ok (negsuc n) h = h

-- a layer with its sign is read back
reads-signed : {text : List ℕ} (i : ℤ) (r : List ℕ) → signed_in_range i ≡ true → digit_run r ≡ 0 → Reads text signed_layer (show_signed i r) (λ x. x ≡ i) r
reads-signed i r h e = reads-sint 1 MAX-LAYER MAX-LAYER i r (layer-ok i h) (lit< tt) (lit< tt) e

-- `i-j` is not what stands there
no-dash : {text : List ℕ} (i : ℤ) (r : List ℕ) → signed_in_range i ≡ true → digit_run r ≡ 0 → starts (isnt "-") r ≡ true →
    {A : Type 0} (f : ℕ → Unit {0} → Reader A) → Rejects text (◌>>=◌ layer (λ i. ◌>>=◌ (just "-") (f i))) (show_signed i r)
no-dash (pos n) r h e s f = rejects-after (reads-uint 1 MAX-LAYER n r h (lit< tt) e) (λ i. rejects-bind (f i) (rejects-just "-" s))
no-dash (negsuc n) r h e s f = rejects-bind (λ i. ◌>>=◌ (just "-") (f i)) (rejects-uint 1 MAX-LAYER refl)

-- an element is read back, under either feature
reads-element : {text : List ℕ} (hsc1 : Bool) (e : LayerSetElement) (r : List ℕ) → element_in_range e ≡ true → after_item r ≡ true →
    Reads text (layer_set_element hsc1) (put_element e r) (λ x. x ≡ e) r
unfolding word every one_of digit_run
reads-element hsc1 (single i) r h s =
    let d = no-digits r (starts-listed not_digit item_ends r refl s) in
    reads-right (rejects-after (reads-signed i r h d)
    (λ _. rejects-bind _ (rejects-bind _ (rejects-just "." (starts-listed (isnt ".") item_ends r refl s)))))
    (reads-right (rejects-when hsc1 (no-dash i r h d (starts-listed (isnt "-") item_ends r refl s) _))
    (reads-next _ (reads-signed i r h d) (reads-done (single i) refl)))
reads-element hsc1 (range i j) r h s =
    let d = no-digits r (starts-listed not_digit item_ends r refl s) in
    reads-left _ (reads-next _ (reads-signed i _ (and_left (signed_in_range i) (signed_in_range j) h) refl)
    (reads-bind (reads_two "." "." (show_signed j r)) λ _ _.
    reads-next _ (reads-signed j r (and_right (signed_in_range i) (signed_in_range j) h) d) (reads-done (range i j) refl)))

pub tight-signed : (i : ℤ) (r : List ℕ) → run white_space (show_signed i r) ≡ 0
unfolding every up_to one_of white_space
tight-signed i r = no_run white_space (show_signed i r) (signed-starts (fails white_space) i r refl)

tight-element : (e : LayerSetElement) (r : List ℕ) → element_in_range e ≡ true → run white_space (put_element e r) ≡ 0
tight-element (single i) r h = tight-signed i r
tight-element (range i j) r h = tight-signed i (46 ∷ 46 ∷ show_signed j r)

stop-element : {text : List ℕ} (hsc1 : Bool) (r : List ℕ) → Rejects text (layer_set_element hsc1) (125 ∷ r)
unfolding just uint digit_run
stop-element true r = record { no = λ at _. refl }
stop-element false r = record { no = λ at _. refl }

-- a layer set is read back
pub reads-layer_set : {text : List ℕ} (hsc1 : Bool) (l : List LayerSetElement) (rest : List ℕ) → every element_in_range l ≡ true →
    Reads text (layer_set_elements hsc1) (put_braces put_element l rest) (λ x. x ≡ l) rest
unfolding layer_set_elements
reads-layer_set {text} hsc1 l rest h =
    reads-items text (layer_set_element hsc1) put_element element_in_range (reads-element hsc1) tight-element (stop-element hsc1)
    (λ e r o. element-keeps (AtLeast (length r)) (long-byte (length r)) (long-name (length r)) e [] r o (omega arith)) l rest h

-- What a part alone means.
alone : {A : Type 0} (p : Reader (List A)) (s : List ℕ) (l : List A) → Reads s p s (λ x. x ≡ l) [] → or_empty (at_end (p 0 s)) ≡ l
alone p s l x =
    let g = x.got 0 (record { place = refl; count = omega arith }) in
    ap (λ o. or_empty (at_end o)) g.is ∙ g.passes

pub constraints-mean : (l : List Constraint) → every constraint_in_range l ≡ true → or_empty (constraints_in (put_braces put_constraint l [])) ≡ l
unfolding constraints_in
constraints-mean l h = alone constraint_set (put_braces put_constraint l []) l (reads-constraint_set l [] h)

pub layer_set-means : (l : List LayerSetElement) → every element_in_range l ≡ true → or_empty (layer_set_in (put_braces put_element l [])) ≡ l
unfolding layer_set_in
layer_set-means l h = alone (layer_set_elements true) (put_braces put_element l []) l (reads-layer_set true l [] h)
