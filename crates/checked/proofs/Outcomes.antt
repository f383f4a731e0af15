-- What every entry comes to, case by case: a text or a tree that is refused, a buffer too short, a result. Assumes nothing.
use Prim.Native.Nat.{ℕ, ◌≤◌, ◌<◌}
use mathlib.Core.Path.{◌≡◌, refl, sym, ap, ◌∙◌}
use mathlib.Core.Bool.{Bool, true, false}
use mathlib.Core.List.{List, ◌++◌}
use borrow.Author.Tests.{le-leb, lt-leb}
use lib.ListN.{length, drop}
use Rattle.notation.specs.Utf8.{utf8}
use Rattle.notation.specs.Refusals.{Outcome, refusal, result, NO-ROOM}
use Rattle.notation.specs.Tree.{Tree}
use Rattle.notation.specs.Packed.{unpack}
use Rattle.notation.specs.Counts.{cap, count}
use Rattle.notation.specs.WellFormed.{well_formed}
use Rattle.notation.specs.Lending.{lend, number, refusal_number, value}
use Rattle.notation.specs.Entries.{checked, MAX-TEXT}
use Rattle.notation.specs.declared.refusals.Refusal.{Refusal}
use Rattle.notation.specs.declared.refusals.Refusal.TheVariants.{TooLong, NotUtf8, NotWellFormed}
use Rattle.laws.proofs.Bools.{no-refusal}
use Rattle.laws.proofs.Unpacking.{well-formed-tree}
use Rattle.laws.proofs.Accepting.{checked-tree}
use Rattle.laws.specs.Unrolled.{first_refusal}
use Rattle.well_formed.specs.declared.walk.Visited.{Visited}
use Rattle.well_formed.specs.Meaning.{step_count, Meets}
use Rattle.well_formed.specs.Refusing.{refuses as refuses_of}
use Rattle.well_formed.proofs.Turns.{list-passed, list-refused}
use Rattle.well_formed.specs.Formed.{well_formed_steps}
use Rattle.std.specs.Prelude as code
use Rattle.checked.specs.Checked.{Accepted, Checks, checked_steps}

-- What `check` promises of its answer.
module _ (text tree : List ℕ) where
  refuses : (r : Refusal) → checked text tree ≡ refusal (number r) → Checks text tree (code.Err r)
  refuses r e = record { answer = rw e; found = tt }

  pub too_long : MAX-TEXT < length text → Checks text tree (code.Err TooLong)
  unfolding checked
  too_long h = refuses TooLong (rw (lt-leb (length text) MAX-TEXT h))

  pub not-utf8 : length text ≤ MAX-TEXT → utf8 text ≡ false → Checks text tree (code.Err NotUtf8)
  unfolding checked
  not-utf8 h u = refuses NotUtf8 (rw (le-leb (length text) MAX-TEXT h, u))

  is-checked : length text ≤ MAX-TEXT → utf8 text ≡ true → well_formed text tree ≡ true → checked text tree ≡ result (unpack tree)
  unfolding checked
  is-checked h u w = rw (le-leb (length text) MAX-TEXT h, u, w)

  pub is-accepted : length text ≤ MAX-TEXT → utf8 text ≡ true → well_formed text tree ≡ true → (v : Visited) → v.steps ≡ cap (count (unpack tree)) →
      refuses_of v.met ≡ (λ (d : Bool). first_refusal d (unpack tree)) → Checks text tree (code.Ok v)
  is-accepted h u w v e m =
      let is = is-checked h u w in
      let a = well-formed-tree text tree w in
      record {
        answer = rw (is, e);
        found = record { accepted = record { short = h; packed = a.packed; ok = a.ok; is = is }; meets = m };
      }

  -- by what a visit found
  pub visited : length text ≤ MAX-TEXT → utf8 text ≡ true → (v : code.Option Visited) → step_count v ≡ well_formed_steps text tree → Meets v (unpack tree) →
      Checks text tree (code.ok_or v NotWellFormed)
  unfolding checked
  visited h u code.None e m =
      refuses NotWellFormed (rw (le-leb (length text) MAX-TEXT h, u, list-refused _ _ e))
  visited h u (code.Some v) e m =
      let k = list-passed _ _ _ e in
      is-accepted h u k.0 v k.1 m

  -- a tree that the rule accepts is accepted
  pub checked-accepted : (t : Tree) → checked text tree ≡ result t → Accepted text tree
  checked-accepted t e =
      let c = checked-tree text tree t e in
      let a = well-formed-tree text tree c.formed in
      record { short = c.short; packed = a.packed; ok = a.ok; is = is-checked c.short c.is_utf8 c.formed }

-- What an entry learns by taking that answer apart.
module _ (text tree : List ℕ) {o : Outcome ℕ} (c : o ≡ checked_steps text tree) where
  pub counted : Accepted text tree → {n : ℕ} → o ≡ result n → n ≡ cap (count (unpack tree))
  counted s {n} q =
      let w : o ≡ result (cap (count (unpack tree))) = rw s.is at c in
      ap value (sym q ∙ w)

  pub refused : {r : ℕ} → o ≡ refusal r → checked text tree ≡ refusal r
  refused {r} q = go (checked text tree) refl
    where
      go : (p : Outcome Tree) → checked text tree ≡ p → checked text tree ≡ refusal r
      go (refusal k) z =
          let w : o ≡ refusal k = rw z at c in
          z ∙ ap refusal (ap refusal_number (sym w ∙ q))
      go (result t) z =
          let w : o ≡ result (cap (count t)) = rw z at c in
          no-refusal (sym q ∙ w)

-- A refusal that `?` hands on.
pub handed_on : {A : Type 0} (r : code.Result A Refusal) (e : Refusal) → code.IsErr r × code.IsErrAnd r (λ f. f ≡ e) → r ≡ code.Err e
handed_on (code.Err f) e g = ap code.Err g.1
handed_on (code.Ok v) e g = absurd g.1

-- Lent buffers.
module _ {A : Type 0} (o : Outcome (List A)) (buffer : List A) where
  pub lend-refused : (r : ℕ) → o ≡ refusal r → record { answer = refusal r; buffer = buffer } ≡ lend o buffer
  lend-refused r e = rw e

  -- a refusal that is handed on as it was answered
  pub lend-handed : {a : Outcome ℕ} {r : ℕ} → a ≡ refusal r → o ≡ refusal r → record { answer = a; buffer = buffer } ≡ lend o buffer
  lend-handed {a} {r} q e = rw q (lend-refused r e)

  pub lend-short : (l : List A) → o ≡ result l → length buffer < length l → record { answer = refusal NO-ROOM; buffer = buffer } ≡ lend o buffer
  lend-short l e h = rw (e, lt-leb (length l) (length buffer) h)

  pub lend-fits : (l : List A) → o ≡ result l → length l ≤ length buffer →
      record { answer = result (length l); buffer = l ++ drop (length l) buffer } ≡ lend o buffer
  lend-fits l e h = rw (e, le-leb (length l) (length buffer) h)
