-- Lists with separators, and lists in braces: what is printed is read back if each item is. Assumes nothing.
use Prim.Native.Nat.{ℕ, zero, suc, ◌≤◌}
use mathlib.Core.Path.{◌≡◌, refl, ap, ◌∙◌}
use mathlib.Core.Bool.{Bool, true}
use mathlib.Core.List.{List, [], ◌∷◌}
use lib.ListN.{length}
use native.Mathlib.Omega.{arith}
use Rattle.notation.specs.Basics.{one_of, every}
use Rattle.notation.specs.Chars.{white_space}
use Rattle.notation.specs.Utf8.{run, run_from, char_width, code_point}
use Rattle.notation.specs.Grammar.{Reader, done, and_then, just, padded, collect, more_of, braces}
use Rattle.notation.specs.Print.{put_more, put_braces}
use Rattle.laws.proofs.Bools.{and_left, and_right}
use Rattle.laws.proofs.ReadBack.Starts.{starts}
use Rattle.laws.proofs.ReadBack.Reads.{
  Reads,
  Rejects,
  reads-done,
  reads-bind,
  reads-next,
  reads_so,
  reads-padded,
  reads-just,
  rejects-just,
  rejects-bind,
  rejects-padded,
}

-- one item, then the others
pub collect-reads : {text : List ℕ} {A L : Type 0} (add : A → L → L) (empty : L) {p : Reader A} (more : List ℕ → Reader L)
    {s r r' : List ℕ} {Q : A → Type 0} {Q' : L → Type 0} → Reads text p s Q r →
    ((a : A) → Q a → Reads text (more s) r (λ l. Q' (add a l)) r') → Reads text (λ at s. collect add empty (p at s) (more s) at s) s Q' r'
collect-reads add empty more {s} x y = record {
  got = λ at h.
      let g = x.got at h in
      let g' = (y g.value g.passes).got g.next g.here in
      record {
        value = add g.value g'.value;
        next = g'.next;
        is = ap (λ o. collect add empty o (more s) at s) g.is ∙ ap (λ o. and_then o (λ l. done (add g.value l))) g'.is;
        here = g'.here;
        passes = g'.passes;
      };
}

-- no item
pub collect-stops : {text : List ℕ} {A L : Type 0} (add : A → L → L) (empty : L) {p : Reader A} (more : List ℕ → Reader L)
    {s : List ℕ} {Q : L → Type 0} → Q empty → Rejects text p s → Reads text (λ at s. collect add empty (p at s) (more s) at s) s Q s
collect-stops add empty more {s} q x = record {
  got = λ at h. record { value = empty; next = at; is = ap (λ o. collect add empty o (more s) at s) (x.no at h); here = h; passes = q };
}

-- what follows an item in braces
abbrev pub item_ends : List ℕ
item_ends = 44 ∷ 125 ∷ []

abbrev pub after_item : List ℕ → Bool
after_item = starts (one_of item_ends)

module _
    (text : List ℕ) {A : Type 0} (p : Reader A) (f : A → List ℕ → List ℕ) (ok : A → Bool)
    (item : (a : A) (r : List ℕ) → ok a ≡ true → after_item r ≡ true → Reads text p (f a r) (λ x. x ≡ a) r)
    (tight : (a : A) (r : List ℕ) → ok a ≡ true → run white_space (f a r) ≡ 0)
    (stop : (r : List ℕ) → Rejects text p (125 ∷ r))
    (long : (a : A) (r : List ℕ) → ok a ≡ true → length r ≤ length (f a r)) where
  -- what follows an item is a comma or the brace
  more-after : (l : List A) (rest : List ℕ) → after_item (put_more f l (125 ∷ rest)) ≡ true
  unfolding put_more one_of
  more-after [] rest = refl
  more-after (a ∷ l) rest = refl

  -- enough fuel for the items that are left
  more-long : (l : List A) (rest : List ℕ) → every ok l ≡ true → length l ≤ length (put_more f l rest)
  unfolding put_more every
  more-long [] rest o = omega arith
  more-long (a ∷ l) rest o =
      omega (arith, more-long l rest (and_right (ok a) (every ok l) o), long a (put_more f l rest) (and_left (ok a) (every ok l) o))

  -- the items after the first
  reads_more : (l : List A) (k : ℕ) (rest : List ℕ) → every ok l ≡ true → length l ≤ k →
      Reads text (more_of ◌∷◌ [] p (padded (just ",")) k) (put_more f l (125 ∷ rest)) (λ x. x ≡ l) (125 ∷ rest)
  unfolding more_of put_more every run_from char_width code_point white_space one_of
  reads_more [] zero rest o h = reads-done [] refl
  reads_more [] (suc k) rest o h =
      collect-stops ◌∷◌ [] (λ _. more_of ◌∷◌ [] p (padded (just ",")) k) refl (rejects-bind _ (rejects-padded refl (rejects-just "," refl)))
  reads_more (a ∷ l) zero rest o h = absurd (omega arith)
  reads_more (a ∷ l) (suc k) rest o h =
      collect-reads ◌∷◌ [] (λ _. more_of ◌∷◌ [] p (padded (just ",")) k)
      (reads-bind (reads-padded refl (tight a (put_more f l (125 ∷ rest)) (and_left (ok a) (every ok l) o)) (reads-just ","))
      (λ _ _. item a (put_more f l (125 ∷ rest)) (and_left (ok a) (every ok l) o) (more-after l rest)))
      (λ b e. rw e (reads_so (reads_more l k rest (and_right (ok a) (every ok l) o) (omega arith)) (λ x g. ap (λ (m : List A). a ∷ m) g)))

  -- the whole list in braces
  pub reads-items : (l : List A) (rest : List ℕ) → every ok l ≡ true → Reads text (braces p) (put_braces f l rest) (λ x. x ≡ l) rest
  unfolding run_from char_width code_point white_space one_of every
  reads-items [] rest o =
      reads-bind (reads-just "{") λ _ _.
      reads-next _ (reads-padded refl refl (collect-stops ◌∷◌ [] (λ s. more_of ◌∷◌ [] p (padded (just ",")) (length s)) refl (stop rest)))
      (reads-bind (reads-just "}") λ _ _. reads-done [] refl)
  reads-items (a ∷ l) rest o =
      let oa : ok a ≡ true = and_left (ok a) (every ok l) o in
      let ol : every ok l ≡ true = and_right (ok a) (every ok l) o in
      let r : List ℕ = put_more f l (125 ∷ rest) in
      reads-bind (reads-just "{") λ _ _.
      reads-next _ (reads-padded (tight a r oa) refl
      (collect-reads ◌∷◌ [] (λ s. more_of ◌∷◌ [] p (padded (just ",")) (length s)) (item a r oa (more-after l rest))
      (λ b e. rw e (reads_so (reads_more l (length (f a r)) rest ol (omega (arith, more-long l (125 ∷ rest) ol, long a r oa)))
      (λ x g. ap (λ (m : List A). a ∷ m) g)))))
      (reads-bind (reads-just "}") λ _ _. reads-done (a ∷ l) refl)
