-- Reading step by step: at its place in a text a reader reads something that passes and leaves the rest, or rejects. Assumes nothing.
use Prim.Native.Nat.{ℕ, ◌+◌, ◌-◌}
use Prim.Native.Char.{Char, code}
use mathlib.Core.Path.{◌≡◌, refl, sym, ap, ◌∙◌}
use mathlib.Core.Bool.{Bool, true, false}
use mathlib.Core.List.{List, [], ◌∷◌, ◌++◌}
use lib.ListN.{length, take, drop, length-append}
use lib.Seq.{drop-drop, drop-append_seam, take-append_seam}
use native.Mathlib.Omega.{arith}
use borrow.Author.Tests.{eq-eqb}
use Rattle.notation.specs.Basics.{one_of}
use Rattle.notation.specs.Chars.{white_space}
use Rattle.notation.specs.Utf8.{run, run_from, char_width, code_point}
use Rattle.notation.specs.Tree.{span, part_of}
use Rattle.notation.specs.Grammar.{
  Reading,
  rejected,
  read,
  Reader,
  done,
  and_then,
  ◌>>=◌,
  ◌>>◌,
  or_else,
  ◌or◌,
  when,
  just,
  whitespace,
  character,
  some_whitespace,
  padded,
  spanned,
}
use Rattle.laws.proofs.ReadBack.Starts.{clash, starts, isnt, not-just, fails, no-character}

-- offset at of the text, where s stands
pub record Here (text : List ℕ) (at : ℕ) (s : List ℕ) : Type 0 where
  pub place : drop at text ≡ s
  pub count : at + length s ≡ length text

-- after a part of the text
pub here-after : {text : List ℕ} {at : ℕ} (a : List ℕ) {r : List ℕ} → Here text at (a ++ r) → Here text (at + length a) r
here-after {text} {at} a {r} h =
    record {
      place = sym (drop-drop (length a) at text) ∙ ap (drop (length a)) h.place ∙ drop-append_seam a r;
      count = omega (arith, length-append a r, h.count);
    }

-- a reading that took something that passes, and stands in front of r
pub record Got (text : List ℕ) {A : Type 0} (o : Reading A) (Q : A → Type 0) (r : List ℕ) : Type 0 where
  pub value : A
  pub next : ℕ
  pub is : o ≡ read value next r
  pub here : Here text next r
  pub passes : Q value

-- wherever s stands in the text, p reads something that passes Q and leaves r
pub record Reads (text : List ℕ) {A : Type 0} (p : Reader A) (s : List ℕ) (Q : A → Type 0) (r : List ℕ) : Type 0 where
  pub got : (at : ℕ) → Here text at s → Got text (p at s) Q r

-- wherever s stands in the text, p rejects
pub record Rejects (text : List ℕ) {A : Type 0} (p : Reader A) (s : List ℕ) : Type 0 where
  pub no : (at : ℕ) → Here text at s → p at s ≡ rejected

-- Readers one after the other.
pub reads-done : {text : List ℕ} {A : Type 0} {Q : A → Type 0} {s : List ℕ} (a : A) → Q a → Reads text (done a) s Q s
reads-done a q = record { got = λ at h. record { value = a; next = at; is = refl; here = h; passes = q } }

pub reads-bind : {text : List ℕ} {A B : Type 0} {p : Reader A} {f : A → Reader B} {s r r' : List ℕ} {Q : A → Type 0} {Q' : B → Type 0} →
    Reads text p s Q r → ((a : A) → Q a → Reads text (f a) r Q' r') → Reads text (◌>>=◌ p f) s Q' r'
reads-bind {text} {f} x y = record {
  got = λ at h.
      let g = x.got at h in
      let g' = (y g.value g.passes).got g.next g.here in
      record { value = g'.value; next = g'.next; is = ap (λ o. and_then o f) g.is ∙ g'.is; here = g'.here; passes = g'.passes };
}

-- the same where what is read is known
pub reads-next : {text : List ℕ} {A B : Type 0} {p : Reader A} (f : A → Reader B) {s r r' : List ℕ} {a : A} {Q : B → Type 0} →
    Reads text p s (λ x. x ≡ a) r → Reads text (f a) r Q r' → Reads text (◌>>=◌ p f) s Q r'
reads-next f x y = reads-bind x (λ b e. rw e y)

-- what passes passes a weaker test
pub reads_so : {text : List ℕ} {A : Type 0} {p : Reader A} {s r : List ℕ} {Q Q' : A → Type 0} →
    Reads text p s Q r → ((a : A) → Q a → Q' a) → Reads text p s Q' r
reads_so x f = record {
  got = λ at h.
      let g = x.got at h in
      record { value = g.value; next = g.next; is = g.is; here = g.here; passes = f g.value g.passes };
}

-- The first of two, and the second where the first rejects.
pub reads-left : {text : List ℕ} {A : Type 0} {p : Reader A} (q : Reader A) {s r : List ℕ} {Q : A → Type 0} → Reads text p s Q r →
    Reads text (p or q) s Q r
reads-left q {s} x = record {
  got = λ at h.
      let g = x.got at h in
      record { value = g.value; next = g.next; is = ap (λ o. or_else o q at s) g.is; here = g.here; passes = g.passes };
}

pub reads-right : {text : List ℕ} {A : Type 0} {p q : Reader A} {s r : List ℕ} {Q : A → Type 0} →
    Rejects text p s → Reads text q s Q r → Reads text (p or q) s Q r
reads-right {q} {s} x y = record {
  got = λ at h.
      let g = y.got at h in
      record { value = g.value; next = g.next; is = ap (λ o. or_else o q at s) (x.no at h) ∙ g.is; here = g.here; passes = g.passes };
}

-- a rule that a feature admits
pub reads-when : {text : List ℕ} {A : Type 0} {p : Reader A} {s r : List ℕ} {Q : A → Type 0} (b : Bool) → b ≡ true → Reads text p s Q r →
    Reads text (when b p) s Q r
reads-when true e x = x
reads-when false e x = clash true refl (sym e)

-- a reader rejects if its first part does
pub rejects-bind : {text : List ℕ} {A B : Type 0} {p : Reader A} (f : A → Reader B) {s : List ℕ} → Rejects text p s → Rejects text (◌>>=◌ p f) s
rejects-bind f x = record { no = λ at h. ap (λ o. and_then o f) (x.no at h) }

-- what comes after rejects
pub rejects-after : {text : List ℕ} {A B : Type 0} {p : Reader A} {f : A → Reader B} {s r : List ℕ} {Q : A → Type 0} →
    Reads text p s Q r → ((a : A) → Rejects text (f a) r) → Rejects text (◌>>=◌ p f) s
rejects-after {f} x y = record {
  no = λ at h.
      let g = x.got at h in
      ap (λ o. and_then o f) g.is ∙ (y g.value).no g.next g.here;
}

-- both alternatives reject
pub rejects-or : {text : List ℕ} {A : Type 0} {p q : Reader A} {s : List ℕ} → Rejects text p s → Rejects text q s → Rejects text (p or q) s
rejects-or {q} {s} x y = record { no = λ at h. ap (λ o. or_else o q at s) (x.no at h) ∙ y.no at h }

-- a rule rejects whether or not it is admitted
pub rejects-when : {text : List ℕ} {A : Type 0} {p : Reader A} {s : List ℕ} (b : Bool) → Rejects text p s → Rejects text (when b p) s
rejects-when true x = x
rejects-when false x = record { no = λ at h. refl }

-- Characters and white space.
pub reads-just : {text : List ℕ} (c : Char) {s : List ℕ} → Reads text (just c) (code c ∷ s) (λ _. Unit {0}) s
unfolding just
reads-just c {s} = record {
  got = λ at h.
      record { value = tt; next = at + 1; is = rw (eq-eqb (code c) (code c) refl); here = here-after (code c ∷ []) h; passes = tt };
}

-- another character stands there
pub rejects-just : {text : List ℕ} (c : Char) {s : List ℕ} → starts (isnt c) s ≡ true → Rejects text (just c) s
rejects-just c {s} h = record { no = λ at _. not-just c s h at }

pub rejects-character : {text : List ℕ} (p : ℕ → Bool) {s : List ℕ} → starts (fails p) s ≡ true → Rejects text (character p) s
rejects-character p {s} h = record { no = λ at _. rw (no-character p s h) }

-- a part that a reader takes whole
pub reads-part : {text : List ℕ} {A : Type 0} {p : Reader A} {Q : A → Type 0} (a : List ℕ) {r : List ℕ} (v : A) → Q v →
    ((at : ℕ) → p at (a ++ r) ≡ read v (at + length a) r) → Reads text p (a ++ r) Q r
reads-part a v q e = record {
  got = λ at h. record { value = v; next = at + length a; is = e at; here = here-after a h; passes = q };
}

-- no white space stands there
reads-whitespace : {text : List ℕ} {s : List ℕ} → run white_space s ≡ 0 → Reads text whitespace s (λ _. Unit {0}) s
reads-whitespace {text} {s} e = reads-part [] tt tt (λ at. rw e)

-- an item without white space around it
pub reads-padded : {text : List ℕ} {A : Type 0} {p : Reader A} {Q : A → Type 0} {s r : List ℕ} →
    run white_space s ≡ 0 → run white_space r ≡ 0 → Reads text p s Q r → Reads text (padded p) s Q r
reads-padded e e' x = reads-bind (reads-whitespace e) λ _ _. reads-bind x λ a q. reads-bind (reads-whitespace e') λ _ _. reads-done a q

-- one space
reads-space : {text : List ℕ} {s : List ℕ} → run white_space s ≡ 0 → Reads text whitespace (32 ∷ s) (λ _. Unit {0}) s
unfolding run_from char_width code_point white_space one_of
reads-space e = reads-part (32 ∷ []) tt tt (λ at. rw e)

-- an item after one space
pub reads-spaced : {text : List ℕ} {A : Type 0} {p : Reader A} {Q : A → Type 0} {s r : List ℕ} →
    run white_space s ≡ 0 → run white_space r ≡ 0 → Reads text p s Q r → Reads text (padded p) (32 ∷ s) Q r
reads-spaced e e' x = reads-bind (reads-space e) λ _ _. reads-bind x λ a q. reads-bind (reads-whitespace e') λ _ _. reads-done a q

-- white space that has to be there
pub reads-some_whitespace : {text : List ℕ} {s : List ℕ} → run white_space s ≡ 0 → Reads text some_whitespace (32 ∷ s) (λ _. Unit {0}) s
unfolding run_from char_width code_point white_space one_of
reads-some_whitespace e = reads-part (32 ∷ []) tt tt (λ at. rw e)

pub rejects-some_whitespace : {text : List ℕ} {s : List ℕ} → run white_space s ≡ 0 → Rejects text some_whitespace s
rejects-some_whitespace e = record { no = λ at _. rw e }

-- an item that is not there
pub rejects-padded : {text : List ℕ} {A : Type 0} {p : Reader A} {s : List ℕ} → run white_space s ≡ 0 → Rejects text p s → Rejects text (padded p) s
rejects-padded e x = rejects-after (reads-whitespace e) (λ _. rejects-bind (λ a. ◌>>◌ whitespace (done a)) x)

-- the part that a reader takes
pub reads-spanned : {text : List ℕ} {A : Type 0} {p : Reader A} {Q : A → Type 0} (a : List ℕ) {s r : List ℕ} → s ≡ a ++ r →
    Reads text p s Q r → Reads text (spanned p) s (λ sp. part_of text sp ≡ a) r
reads-spanned {text} {p} a {s} {r} e x = record {
  got = λ at h.
      let g = x.got at h in
      let n : g.next - at ≡ length a = omega (arith, g.here.count, h.count, length-append a r, ap length e) in
      record {
        value = span at (g.next - at);
        next = g.next;
        is = ap (λ o. and_then o (λ b at'. done (span at (at' - at)) at')) g.is;
        here = g.here;
        passes = ap (λ k. take k (drop at text)) n ∙ ap (take (length a)) (h.place ∙ e) ∙ take-append_seam a r;
      };
}

-- a part that is not there
pub rejects-spanned : {text : List ℕ} {A : Type 0} {p : Reader A} {s : List ℕ} → Rejects text p s → Rejects text (spanned p) s
rejects-spanned x = record { no = λ at h. ap (λ o. and_then o (λ a at'. done (span at (at' - at)) at')) (x.no at h) }
