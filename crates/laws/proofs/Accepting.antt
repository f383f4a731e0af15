-- When a text is read and a tree is checked, and what a lent buffer then gets. Assumes nothing.
use Prim.Native.Nat.{ℕ, ◌≤◌}
use mathlib.Core.Path.{◌≡◌, refl, sym, ap, subst, ◌∙◌}
use mathlib.Core.Bool.{Bool, true, false}
use mathlib.Core.List.{List}
use mathlib.Core.Option.{Option, none, some}
use borrow.Author.Tests.{leb-true, le-leb}
use lib.Dec.{leb}
use lib.ListN.{length}
use Rattle.notation.specs.Utf8.{utf8}
use Rattle.notation.specs.Refusals.{
  Outcome,
  result,
  ◌>>=◌,
  ◌>>◌,
  unless,
  or_refuse,
  TOO-LONG,
  NOT-UTF8,
  TOO-NESTED,
  NOT-NOTATION,
  NOT-WELL-FORMED,
  TOO-MANY-STEPS,
}
use Rattle.notation.specs.Tree.{Leaf, Tree}
use Rattle.notation.specs.Packed.{pack, unpack}
use Rattle.notation.specs.Grammar.{notation}
use Rattle.notation.specs.WellFormed.{well_formed}
use Rattle.notation.specs.Unroll.{flatten}
use Rattle.notation.specs.Entries.{lend, text_ok, nesting_ok, tree_in, reading, checked, steps, MAX-TEXT, MAX-STEPS}
use Rattle.notation.specs.Demands.{Gives}
use Rattle.notation.specs.declared.features.Features.{Features}
use Rattle.laws.proofs.Bools.{no-refusal}
use Rattle.laws.proofs.Outcomes as outcomes
use Rattle.laws.proofs.Unrolling.{verdict}
use Rattle.laws.proofs.Reached.{verdict-list}

-- what an accepted text is, and that such a text is accepted
pub record Accepted (f : Features) (text : List ℕ) (t : Tree) : Type 0 where
  pub short : length text ≤ MAX-TEXT
  pub is_utf8 : utf8 text ≡ true
  pub nests : nesting_ok 0 0 text ≡ true
  pub reads : notation f text ≡ some t

pub accepts : (f : Features) (text : List ℕ) (t : Tree) → Accepted f text t → reading f text ≡ result (pack t)
unfolding tree_in
accepts f text t a = rw (le-leb (length text) MAX-TEXT a.short, a.is_utf8, a.nests, a.reads)

pub accepted-tree : (f : Features) (text tree : List ℕ) → reading f text ≡ result tree → (t : Tree) × Accepted f text t × (pack t ≡ tree)
unfolding tree_in
accepted-tree f text tree e = by_length (leb (length text) MAX-TEXT) refl e
  where
    after : Bool → Bool → Bool → Option Tree → Outcome (List ℕ)
    after l u n t = do
      t ← (do (do unless TOO-LONG l; unless NOT-UTF8 u); unless TOO-NESTED n; or_refuse NOT-NOTATION t)
      result (pack t)

    by-tree : leb (length text) MAX-TEXT ≡ true → utf8 text ≡ true → nesting_ok 0 0 text ≡ true → (t : Option Tree) → notation f text ≡ t →
        after true true true t ≡ result tree → (t : Tree) × Accepted f text t × (pack t ≡ tree)
    by-tree l u n none h e = no-refusal e
    by-tree l u n (some t) h e =
        (t, record { short = leb-true (length text) MAX-TEXT l; is_utf8 = u; nests = n; reads = h }, cc)

    by-nesting : leb (length text) MAX-TEXT ≡ true → utf8 text ≡ true → (b : Bool) → nesting_ok 0 0 text ≡ b →
        after true true b (notation f text) ≡ result tree → (t : Tree) × Accepted f text t × (pack t ≡ tree)
    by-nesting l u true h e = by-tree l u h (notation f text) refl e
    by-nesting l u false h e = no-refusal e

    by-utf8 : leb (length text) MAX-TEXT ≡ true → (b : Bool) → utf8 text ≡ b →
        after true b (nesting_ok 0 0 text) (notation f text) ≡ result tree → (t : Tree) × Accepted f text t × (pack t ≡ tree)
    by-utf8 l true h e = by-nesting l h (nesting_ok 0 0 text) refl e
    by-utf8 l false h e = no-refusal e

    by_length : (b : Bool) → leb (length text) MAX-TEXT ≡ b →
        after b (utf8 text) (nesting_ok 0 0 text) (notation f text) ≡ result tree → (t : Tree) × Accepted f text t × (pack t ≡ tree)
    by_length true h e = by-utf8 h (utf8 text) refl e
    by_length false h e = no-refusal e

pub checks : (text : List ℕ) (tree : List ℕ) (t : Tree) → length text ≤ MAX-TEXT → utf8 text ≡ true → well_formed text tree ≡ true → unpack tree ≡ t →
    checked text tree ≡ result t
unfolding checked
checks text tree t l u w e = rw (le-leb (length text) MAX-TEXT l, u, w, e)

-- and what a tree that is checked is
pub record Checked (text tree : List ℕ) : Type 0 where
  pub short : length text ≤ MAX-TEXT
  pub is_utf8 : utf8 text ≡ true
  pub formed : well_formed text tree ≡ true

pub checked-tree : (text tree : List ℕ) (t : Tree) → checked text tree ≡ result t → Checked text tree
unfolding checked
checked-tree text tree t e =
    let ok = outcomes.after (text_ok text) e in
    let u = outcomes.after (unless TOO-LONG (leb (length text) MAX-TEXT)) ok.1 in
    let w = outcomes.after (unless NOT-WELL-FORMED (well_formed text tree)) ok.2 in
    record {
      short = leb-true (length text) MAX-TEXT (outcomes.test-holds TOO-LONG (leb (length text) MAX-TEXT) u.1);
      is_utf8 = outcomes.test-holds NOT-UTF8 (utf8 text) u.2;
      formed = outcomes.test-holds NOT-WELL-FORMED (well_formed text tree) w.1;
    }

-- unrolled steps that can be counted
pub counts-as : (text tree : List ℕ) (t : Tree) (list : List Leaf) → checked text tree ≡ result t → flatten t ≡ result list → length list ≤ MAX-STEPS →
    steps text tree ≡ result list
unfolding steps
counts-as text tree t list c e h = rw (c, e, le-leb (length list) MAX-STEPS h)

-- and what a tree whose steps are counted is
pub steps_of : (text tree : List ℕ) (list : List Leaf) → steps text tree ≡ result list →
    (t : Tree) × (checked text tree ≡ result t) × (flatten t ≡ result list) × (length list ≤ MAX-STEPS)
unfolding steps
steps_of text tree list e =
    let c = outcomes.after (checked text tree) e in
    let u = outcomes.after (flatten c.0) c.2 in
    let few = leb (length u.0) MAX-STEPS in
    let w = outcomes.after (unless TOO-MANY-STEPS few) u.2 in
    let is = outcomes.same-result w.2 in
    (c.0, c.1, u.1 ∙ w.2, subst (λ (l : List Leaf). length l ≤ MAX-STEPS) is (leb-true (length u.0) MAX-STEPS (outcomes.test-holds TOO-MANY-STEPS few w.1)))

-- what a rule gives that inverts a checked tree, where it is not refused
pub inverse-is : (rule : Tree → Outcome Tree) (text tree : List ℕ) {bytes : List ℕ} {t : Tree} (r : Option ℕ) (i : Tree) → rule t ≡ verdict r i →
    checked text tree ≡ result t → (do t ← checked text tree; t' ← rule t; result (pack t')) ≡ result bytes → (r ≡ none) × (pack i ≡ bytes)
inverse-is rule text tree {t = t} r i is c e =
    let n = outcomes.after (rule t) (rw c at e) in
    let v = verdict-list r i n.0 (sym is ∙ n.1) in
    (v.0, ap pack v.1 ∙ outcomes.same-result n.2)

-- a result that fits is written
pub gives : (o : Outcome (List ℕ)) (bytes : List ℕ) → o ≡ result bytes → Gives (lend o) bytes
gives o bytes e buffer h = rw (e, le-leb (length bytes) (length buffer) h)
