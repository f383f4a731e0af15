-- What the entries that name a record come to, case by case. Assumes nothing.
use Prim.Native.Nat.{ℕ, ◌/◌, ◌≤◌, ◌<◌}
use mathlib.Core.Path.{◌≡◌, refl, sym}
use mathlib.Core.Bool.{Bool, true, false}
use mathlib.Core.List.{List}
use native.Mathlib.Omega.{arith}
use borrow.Author.Tests.{le-leb, lt-leb, lt-ltb, le-ltb, eq-eqb, ne_eqb, leb-true}
use lib.Dec.{eqb, leb}
use lib.ListN.{length}
use Rattle.notation.specs.Basics.{pick, between}
use Rattle.notation.specs.Refusals.{refusal, result, NO-SUCH-LAYER-COUNT, NO-SUCH-RECORD}
use Rattle.notation.specs.Layers.{MAX-LAYER, lit, simplified}
use Rattle.notation.specs.Tree.{Span, Layers}
use Rattle.notation.specs.Packed.{RECORD, Head, head_at, family_at}
use Rattle.notation.specs.WellFormed.{inside, family_ok, layers_ok, leaf_ok}
use Rattle.notation.specs.Entries.{Lent, prefix_of, ranges_in, layer_ranges, lend, in_entries, range_bytes, simplify_bytes, family_of, family_span}
use Rattle.entries.specs.Parts.{Begins}
use Rattle.record.specs.Meaning.{field, layers_at, kind_at, tilde_at, FAMILY, FAMILY-SIZE}
use Rattle.record.proofs.Packed.{by-kind}
use Rattle.laws.proofs.Bools.{and_left, and_right}
use Rattle.laws.proofs.Heads.{HeadOk}
use Rattle.checked.specs.Checked.{Accepted, checked_steps}
use Rattle.checked.proofs.Outcomes.{refused}
use Rattle.checked.proofs.Records.{prefix-ok, record-ok}

-- What a record names, by its kind: 6 is a rotation, 7 a move.
module _ (bs : List ℕ) (k : ℕ) (e : k ≡ kind_at bs) where
  family-by-kind : family_of (head_at bs) ≡ pick (between 6 7 k) (result (family_at (field FAMILY bs) (field FAMILY-SIZE bs))) (refusal NO-SUCH-RECORD)
  family-by-kind =
      by-kind (λ (j : ℕ) (h : Head). family_of h ≡ pick (between 6 7 j) (result (family_at (field FAMILY bs) (field FAMILY-SIZE bs))) (refusal NO-SUCH-RECORD)) bs k e
      (refl, (refl, (refl, (refl, (refl, (refl, (refl, (refl, (refl, (refl, (refl, (refl, (refl, (refl, (refl, tt)))))))))))))))
      (λ j l. rw (le-leb 6 j (omega arith), lt-leb j 7 (omega arith)))

  prefix-by-kind : prefix_of (head_at bs) ≡ pick (eqb k 7) (result (tilde_at bs, layers_at bs)) (refusal NO-SUCH-RECORD)
  prefix-by-kind =
      by-kind (λ (j : ℕ) (h : Head). prefix_of h ≡ pick (eqb j 7) (result (tilde_at bs, layers_at bs)) (refusal NO-SUCH-RECORD)) bs k e
      (refl, (refl, (refl, (refl, (refl, (refl, (refl, (refl, (refl, (refl, (refl, (refl, (refl, (refl, (refl, tt)))))))))))))))
      (λ j l. rw (ne_eqb j 7 (omega arith)))

  -- of a kind that is neither a rotation nor a move
  pub family-other : (k ≡ 6 → ⊥) → (k ≡ 7 → ⊥) → refusal NO-SUCH-RECORD ≡ family_of (head_at bs)
  family-other a b = go (leb 6 k) refl
    where
      go : (t : Bool) → leb 6 k ≡ t → refusal NO-SUCH-RECORD ≡ family_of (head_at bs)
      go true p = let l = leb-true 6 k p in rw (family-by-kind, p, lt-leb k 7 (omega (arith, a, b)))
      go false p = rw (family-by-kind, p)

  pub family-named : 6 ≤ k → k ≤ 7 → result (family_at (field FAMILY bs) (field FAMILY-SIZE bs)) ≡ family_of (head_at bs)
  family-named l h = rw (family-by-kind, le-leb 6 k l, le-leb k 7 h)

  pub no-prefix : (k ≡ 7 → ⊥) → prefix_of (head_at bs) ≡ refusal NO-SUCH-RECORD
  no-prefix h = rw (prefix-by-kind, ne_eqb k 7 h)

  pub some_prefix : k ≡ 7 → prefix_of (head_at bs) ≡ result (tilde_at bs, layers_at bs)
  some_prefix h = rw (prefix-by-kind, eq-eqb k 7 h)

  -- a family that is well formed stands inside the text
  pub family-inside : (text : List ℕ) → 6 ≤ k → k ≤ 7 → HeadOk text (head_at bs) → inside text (family_at (field FAMILY bs) (field FAMILY-SIZE bs)) ≡ true
  unfolding leaf_ok
  family-inside text =
      by-kind (λ (j : ℕ) (h : Head). 6 ≤ j → j ≤ 7 → HeadOk text h → inside text (family_at (field FAMILY bs) (field FAMILY-SIZE bs)) ≡ true) bs k e (
        low (omega arith),
        (
          low (omega arith),
          (
            low (omega arith),
            (
              low (omega arith),
              (
                low (omega arith),
                (
                  low (omega arith),
                  (
                    λ l m h. stands 0 (and_left _ _ (and_left _ _ h)),
                    (
                      λ l m h. stands 1 (and_right (layers_ok text (layers_at bs)) _ (and_left _ _ (and_left _ _ h))),
                      (high (omega arith), (high (omega arith), (high (omega arith), (high (omega arith), (high (omega arith), (high (omega arith), (high (omega arith), tt))))))),
                    ),
                  ),
                ),
              ),
            ),
          ),
        ),
      )
      (λ j l. high (omega arith))
    where
      low : {j : ℕ} {A B : Type 0} → j < 6 → 6 ≤ j → A → B
      low a b = absurd (omega arith)

      high : {j : ℕ} {A B : Type 0} → 7 < j → 6 ≤ j → j ≤ 7 → A → B
      high a b c = absurd (omega arith)

      stands : (n : ℕ) → family_ok text n (family_at (field FAMILY bs) (field FAMILY-SIZE bs)) ≡ true → inside text (family_at (field FAMILY bs) (field FAMILY-SIZE bs)) ≡ true
      stands n h = and_left (inside text (family_at (field FAMILY bs) (field FAMILY-SIZE bs))) _ (and_left _ _ h)

  pub layers-inside : (text : List ℕ) → k ≡ 7 → HeadOk text (head_at bs) → layers_ok text (layers_at bs) ≡ true
  layers-inside text z h = prefix-ok text (head_at bs) (tilde_at bs) (layers_at bs) h (some_prefix z)

module _ (text tree : List ℕ) (k : ℕ) where
  pub family-unaccepted : (r : ℕ) → refusal r ≡ checked_steps text tree → refusal r ≡ family_span text tree k
  unfolding family_span
  family-unaccepted r c = rw (refused text tree c refl)

  module _ (s : Accepted text tree) where
    pub family-none : length tree / RECORD ≤ k → refusal NO-SUCH-RECORD ≡ family_span text tree k
    unfolding family_span
    family-none h = rw (s.is, le-ltb k (length tree / RECORD) h)

    module _ {found : List ℕ} (b : Begins tree k found) where
      pub accepted-record : HeadOk text (head_at found)
      accepted-record = rw b.is (record-ok text tree s k b.there)

      pub family-is : family_of (head_at found) ≡ family_span text tree k
      unfolding family_span
      family-is = rw (s.is, lt-ltb k (length tree / RECORD) b.there, b.is)

-- Layer ranges.
module _ (text tree : List ℕ) (k n : ℕ) (neg : Bool) (buffer : List ℕ) where
  abbrev Refused : ℕ → Type 0
  Refused r = record { answer = refusal r; buffer = buffer } ≡ simplify_bytes text tree k n neg buffer

  pub simplify-unaccepted : (r : ℕ) → refusal r ≡ checked_steps text tree → Refused r
  unfolding layer_ranges
  simplify-unaccepted r c = rw (refused text tree c refl)

  module _ (s : Accepted text tree) where
    pub simplify-layers : between 1 MAX-LAYER n ≡ false → Refused NO-SUCH-LAYER-COUNT
    unfolding layer_ranges
    simplify-layers h = rw (s.is, h)

    module _ (e : between 1 MAX-LAYER n ≡ true) where
      pub simplify-none : length tree / RECORD ≤ k → Refused NO-SUCH-RECORD
      unfolding layer_ranges
      simplify-none h = rw (s.is, e, le-ltb k (length tree / RECORD) h)

      module _ {found : List ℕ} (b : Begins tree k found) where
        pub simplify-no-move : prefix_of (head_at found) ≡ refusal NO-SUCH-RECORD → Refused NO-SUCH-RECORD
        unfolding layer_ranges
        simplify-no-move t = rw (s.is, e, lt-ltb k (length tree / RECORD) b.there, sym b.is, t)

        pub simplify-move : (tilde : Bool) (l : Layers Span) → prefix_of (head_at found) ≡ result (tilde, l) → (o : Lent ℕ) →
            o ≡ in_entries 4 (lend (result (range_bytes (simplified (lit n tilde (ranges_in text n neg l))))) buffer) → o ≡ simplify_bytes text tree k n neg buffer
        unfolding layer_ranges
        simplify-move tilde l t o q = rw (s.is, e, lt-ltb k (length tree / RECORD) b.there, sym b.is, t) q
