-- The entry `parse_notation`: what each refusal and the accepted text answer. Assumes nothing.
use Prim.Native.Nat.{ℕ, suc, ◌+◌, ◌*◌, ◌-◌, ◌<◌, ◌≤◌}
use mathlib.Core.Path.{◌≡◌, refl, sym, ap, ap₂, ◌∙◌}
use mathlib.Core.Bool.{true, false}
use mathlib.Core.Option.{none, some}
use mathlib.Core.List.{List, [], ◌∷◌, ◌++◌}
use native.Mathlib.Omega.{arith}
use borrow.Author.Tests.{le-leb, lt-leb}
use borrow.Rule.Slice.PartMut.{mid_of, post_of, put_mid, Post-is}
use lib.ListN.{length, drop, length-take, drop_of_length-le}
use lib.Seq.{drop-cons, take_all, take_at, drop_at}
use Rattle.laws.proofs.Packing.{length-pack}
use Rattle.laws.proofs.Parens.{parens-depth}
use Rattle.laws.proofs.Tidy.{tidy, tidy-fits}
use Rattle.notation.specs.Utf8.{utf8}
use Rattle.notation.specs.Tree.{Tree}
use Rattle.notation.specs.Packed.{RECORD, pack}
use Rattle.notation.specs.Refusals.{Outcome, refusal, result, TOO-LONG, NOT-UTF8, TOO-NESTED, NOT-NOTATION, NO-ROOM}
use Rattle.notation.specs.Grammar.{read, node_list, notation, notation_by}
use Rattle.notation.specs.Entries.{Lent, lend, MAX-TEXT, nesting_ok, tree_in, reading, parse_notation}
use Rattle.notation.specs.declared.features.Features.{Features}
use Rattle.tally.specs.Tallies.{tally_list, Tallied}
use Rattle.tally.proofs.Sizes.{length-tally_list}
use Rattle.parse.specs.Nodes.{ListRead}

-- the part of no bytes over which the text is measured comes back as it was
empty-part : (old ys : List ℕ) → length ys ≡ 0 → ys ++ old ≡ old
empty-part old [] e = refl
empty-part old (y ∷ ys) e = absurd (omega arith)

abbrev answering : Outcome ℕ → List ℕ → Lent ℕ
answering o new = record { answer = o; buffer = new }

module _ (f : Features) (text old : List ℕ) where
  abbrev pub Answered : Outcome ℕ → List ℕ → Type 0
  Answered o new = answering o new ≡ parse_notation f text old

  refuses : (r : ℕ) → reading f text ≡ refusal r → Answered (refusal r) old
  refuses r e = sym (ap (λ (o : Outcome (List ℕ)). lend o old) e)

  long : MAX-TEXT < length text → reading f text ≡ refusal TOO-LONG
  unfolding tree_in
  long h = rw (lt-leb (length text) MAX-TEXT h)

  pub too_long : MAX-TEXT < length text → Answered (refusal TOO-LONG) old
  too_long h = refuses TOO-LONG (long h)

  module _ (short : length text ≤ MAX-TEXT) where
    misspelt : utf8 text ≡ false → reading f text ≡ refusal NOT-UTF8
    unfolding tree_in
    misspelt h = rw (le-leb (length text) MAX-TEXT short, h)

    pub not-utf8 : utf8 text ≡ false → Answered (refusal NOT-UTF8) old
    not-utf8 h = refuses NOT-UTF8 (misspelt h)

    module _ (is_utf8 : utf8 text ≡ true) where
      deep : nesting_ok 0 0 text ≡ false → reading f text ≡ refusal TOO-NESTED
      unfolding tree_in
      deep h = rw (le-leb (length text) MAX-TEXT short, is_utf8, h)

      pub too-nested : nesting_ok 0 0 text ≡ false → Answered (refusal TOO-NESTED) old
      too-nested h = refuses TOO-NESTED (deep h)

      module _ (nests : nesting_ok 0 0 text ≡ true) where
        unread : notation f text ≡ none → reading f text ≡ refusal NOT-NOTATION
        unfolding tree_in
        unread h = rw (le-leb (length text) MAX-TEXT short, is_utf8, nests, h)

        accepted : (t : Tree) → notation f text ≡ some t → reading f text ≡ result (pack t)
        unfolding tree_in
        accepted t h = rw (le-leb (length text) MAX-TEXT short, is_utf8, nests, h)

        -- what the run that measures found
        module _ (after : List ℕ) (next end : ℕ) (list : ListRead f text 0 0 0 [] after next end) where
          unchanged : after ++ old ≡ old
          unchanged = empty-part old after list.wrote.kept.long

          whole : node_list f (suc (length text)) 0 text ≡ read list.tree next (drop next text)
          whole = list.reads (suc (length text)) (omega arith)

          no-tree : next < length text → notation f text ≡ none
          unfolding notation_by
          no-tree h = rw (whole, drop-cons text next 0 h)

          a-tree : length text ≤ next → notation f text ≡ some list.tree
          unfolding notation_by
          a-tree h = rw (whole, drop_of_length-le text h)

          pub not-notation : next < length text → Answered (refusal NOT-NOTATION) (after ++ old)
          not-notation h = rw unchanged (refuses NOT-NOTATION (unread (no-tree h)))

          module _ (ends : length text ≤ next) where
            lent : parse_notation f text old ≡ lend (result (pack list.tree)) old
            lent = ap (λ (o : Outcome (List ℕ)). lend o old) (accepted list.tree (a-tree ends))

            bytes : length (pack list.tree) ≡ RECORD * end
            bytes = omega (arith, length-pack list.tree, list.slots)

            full : length old < RECORD * end → Answered (refusal NO-ROOM) old
            full h = sym (lent ∙ rw (lt-leb (length (pack list.tree)) (length old) (omega (arith, bytes))))

            module _ (fits : RECORD * end ≤ length old) (part : List ℕ) (next₂ end₂ : ℕ)
                (again : ListRead f text 0 0 0 (mid_of 0 (RECORD * end - 0) old) part next₂ end₂) where
              same : again.tree ≡ list.tree
              same =
                  let e : read again.tree next₂ (drop next₂ text) ≡ read list.tree next (drop next text)
                  = sym (again.reads (suc (length text)) (omega arith)) ∙ whole in
                  cc

              room : length (mid_of 0 (RECORD * end - 0) old) ≡ RECORD * end
              room = length-take (RECORD * end - 0) old ∙ omega arith

              written : part ≡ tally_list 0 list.tree
              written =
                  let n : length (tally_list 0 again.tree) ≡ RECORD * end
                  = ap (λ (t : Tree). length (tally_list 0 t)) same ∙ omega (arith, length-tally_list 0 list.tree, list.slots) in
                  sym (take_all (0 + length (tally_list 0 again.tree)) part (omega (arith, again.wrote.kept.long, room)))
                  ∙ again.wrote.holds (omega (arith, room))
                  ∙ ap (tally_list 0) same

              -- the part is the tree but for its counts, so that the pass fills them in,
              tallied : Tallied list.tree part
              tallied =
                  let tree = tidy f text list.tree (record { short = short; is_utf8 = is_utf8; nests = nests; reads = a-tree ends }) in
                  record { bytes = written; fits = tidy-fits tree; deep = omega (arith, parens-depth list.tree, tree.nested) }

              part-long : length part ≡ RECORD * end
              part-long = again.wrote.kept.long ∙ room

              part-again : mid_of 0 (RECORD * end - 0) (put_mid 0 (RECORD * end - 0) old part) ≡ part
              part-again = take_at part (post_of 0 (RECORD * end - 0) old) (RECORD * end - 0) (omega (arith, part-long))

              rest-again : post_of 0 (RECORD * end - 0) (put_mid 0 (RECORD * end - 0) old part) ≡ drop (RECORD * end) old
              rest-again = drop_at part (post_of 0 (RECORD * end - 0) old) (RECORD * end - 0) (omega (arith, part-long)) ∙ Post-is 0 (RECORD * end) old (omega arith)

              -- and then the rule's bytes stand there
              filled : (done : List ℕ) → done ≡ pack list.tree → Answered (result (RECORD * end)) (put_mid 0 (RECORD * end - 0) (put_mid 0 (RECORD * end - 0) old part) done)
              filled done e =
                  let t = list.tree in
                  let fitted : lend (result (pack t)) old ≡ answering (result (length (pack t))) (pack t ++ drop (length (pack t)) old)
                  = rw (le-leb (length (pack t)) (length old) (omega (arith, bytes))) in
                  ap₂ (λ (l r : List ℕ). answering (result (RECORD * end)) (l ++ r)) e rest-again
                  ∙ ap (λ (n : ℕ). answering (result n) (pack t ++ drop n old)) (sym bytes)
                  ∙ sym (lent ∙ fitted)

            pub no_room : length (after ++ old) < RECORD * end → Answered (refusal NO-ROOM) (after ++ old)
            no_room h = rw unchanged (full (rw unchanged at h))

            -- the run that writes, over a part that the tree fills, and the pass over it
            module _ (fits : RECORD * end ≤ length (after ++ old)) (part : List ℕ) (next₂ end₂ : ℕ)
                (again : ListRead f text 0 0 0 (mid_of 0 (RECORD * end - 0) (after ++ old)) part next₂ end₂) where
              pub wrote-tallies : Tallied list.tree (mid_of 0 (RECORD * end - 0) (put_mid 0 (RECORD * end - 0) (after ++ old) part))
              wrote-tallies =
                  let fits' = rw unchanged at fits in
                  let again' = rw unchanged at again in
                  rw (unchanged, part-again fits' part next₂ end₂ again') (tallied fits' part next₂ end₂ again')

              pub wrote-tree : (done : List ℕ) → ((t : Tree) → Tallied t (mid_of 0 (RECORD * end - 0) (put_mid 0 (RECORD * end - 0) (after ++ old) part)) → done ≡ pack t) →
                  Answered (result (RECORD * end)) (put_mid 0 (RECORD * end - 0) (put_mid 0 (RECORD * end - 0) (after ++ old) part) done)
              wrote-tree done e = rw unchanged (filled (rw unchanged at fits) part next₂ end₂ (rw unchanged at again) done (e list.tree wrote-tallies))
