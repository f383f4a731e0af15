-- Demand 3 of what the entries returned, from the theorem over the definitions and the rules that the answers are of. Assumes nothing.
use Prim.Native.Nat.{ℕ, suc, ◌-◌}
use mathlib.Core.Path.{◌≡◌, refl, sym, ap, ap₂, subst, ◌∙◌}
use mathlib.Core.Bool.{Bool, true, false}
use mathlib.Core.List.{List, ◌++◌}
use native.Mathlib.Omega.{arith}
use lib.Dec.{leb}
use lib.ListN.{length, take, drop}
use lib.Seq.{take_at}
use Rattle.notation.specs.Refusals.{Outcome, refusal, result}
use Rattle.notation.specs.Tree.{Leaf}
use Rattle.notation.specs.Packed.{leaf_head, leaf_record, unpack}
use Rattle.notation.specs.Meaning.{SameStep}
use Rattle.notation.specs.Invert.{undo}
use Rattle.notation.specs.Unroll.{flatten}
use Rattle.notation.specs.Entries.{
  Lent,
  lent,
  lend,
  kept,
  outcome,
  value,
  reading,
  inverse,
  display,
  parse_notation,
  inv_entry,
  display_entry,
  count_steps,
  seek_step,
}
use Rattle.notation.specs.Demands.{Gives, Agrees, Demand3, printed_inverse, tree_back}
use Rattle.notation.specs.declared.features.Features.{Features}
use Rattle.std.specs.Prelude.{Result}
use Rattle.notation.specs.declared.refusals.Refusal.{Refusal}
use Rattle.record.proofs.RoundTrip.{length-head_record}
use Rattle.laws.proofs.DemandThree.{theorem}
use Rattle.hypuz_notation.specs.declared.agreement.Agreement.{Agreement}
use Rattle.hypuz_notation.specs.Agreement.{Buffers, front, Found, Run, Assumed, Demanded, Agreed}

-- a result at the front of a buffer, and its length
abbrev filled : List ℕ → List ℕ → Lent ℕ
filled l buffer = record { answer = result (length l); buffer = l ++ drop (length l) buffer }

-- what an entry gives in every buffer is what its rule gives
pub gives-is : (o : Outcome (List ℕ)) (l : List ℕ) → Gives (lend o) l → o ≡ result l
gives-is o l g = go o (g l (omega arith))
  where
    go : (p : Outcome (List ℕ)) → lend p l ≡ filled l l → p ≡ result l
    go (refusal r) e = absurd (let z : refusal r ≡ result (length l) = ap (λ x. x.answer) e in let y : ◌≡◌ {A = ℕ} 0 1 = cc in omega arith)
    go (result m) e = fits (leb (length m) (length l)) refl
      where
        fits : (b : Bool) → leb (length m) (length l) ≡ b → result m ≡ result l
        fits false h =
            let w : kept 5 l ≡ filled l l = rw h at e in
            absurd (let z : refusal 5 ≡ result (length l) = ap (λ x. x.answer) w in let y : ◌≡◌ {A = ℕ} 0 1 = cc in omega arith)
        fits true h =
            let w : filled m l ≡ filled l l = rw h at e in
            let n : length m ≡ length l = ap (λ x. value x.answer) w in
            let b : m ++ drop (length m) l ≡ l ++ drop (length l) l = ap (λ x. x.buffer) w in
            ap result (
            sym (take_at m (drop (length m) l) (length l) n) ∙ ap (take (length l)) b ∙ take_at l (drop (length l) l) (length l) refl)

-- the used part of a buffer that was written
front-is : (a : Result ℕ Refusal) (buffer after l : List ℕ) → lent a after ≡ filled l buffer → front a after ≡ l
front-is a buffer after l e =
    let n : value (outcome a) ≡ length l = ap (λ x. value x.answer) e in
    let b : after ≡ l ++ drop (length l) buffer = ap (λ x. x.buffer) e in
    rw (n, b) (take_at l (drop (length l) buffer) (length l) refl)

-- seeking in the same text and tree, at the same place
pub seek-same : (buffer : List ℕ) {text text' tree tree' : List ℕ} {k k' : ℕ} → text ≡ text' → tree ≡ tree' → k ≡ k' →
    seek_step text tree k buffer ≡ seek_step text' tree' k' buffer
seek-same buffer e d q = λ i. seek_step (e i) (d i) (q i) buffer

module _ {f : Features} {text : List ℕ} {k : ℕ} {r : Agreement} {before after : Buffers} (run : Run f text k r before after)
    (t : List ℕ) (list : List Leaf) (a : Assumed f text t list before) where
  d : Demand3 f text t list
  d = theorem f text t list a.unrollable

  read-run : lent r.read after.tree ≡ filled t before.tree
  read-run = run.reads ∙ d.reads before.tree (a.room_tree t a.unrollable.accepted)

  tree_is : front r.read after.tree ≡ t
  tree_is = front-is r.read before.tree after.tree t read-run

  inverse-is : inverse text t ≡ result d.inverted
  inverse-is = gives-is (inverse text t) d.inverted d.inverts

  inverse-run : lent r.inverse after.inverse ≡ filled d.inverted before.inverse
  inverse-run =
      run.inverts ∙ ap (λ (l : List ℕ). inv_entry text l before.inverse) tree_is
      ∙ d.inverts before.inverse (a.room_inverse d.inverted inverse-is)

  inverted-is : front r.inverse after.inverse ≡ d.inverted
  inverted-is = front-is r.inverse before.inverse after.inverse d.inverted inverse-run

  printed-is : printed_inverse text t ≡ result d.text'
  printed-is = rw inverse-is (gives-is (display text d.inverted) d.text' d.prints)

  print-run : lent r.printed after.printed ≡ filled d.text' before.printed
  print-run =
      run.prints ∙ ap (λ (l : List ℕ). display_entry text l before.printed) inverted-is
      ∙ d.prints before.printed (a.room_printed d.text' printed-is)

  text-is : front r.printed after.printed ≡ d.text'
  text-is = front-is r.printed before.printed after.printed d.text' print-run

  g : Agrees f text t list d.text'
  g = d.agrees (a.not_long d.text' printed-is)

  back_is : tree_back f text t ≡ result g.tree'
  back_is = rw printed-is (gives-is (reading f d.text') g.tree' g.read_back)

  back-run : lent r.back after.back ≡ filled g.tree' before.back
  back-run =
      run.reads_back ∙ ap (λ (l : List ℕ). parse_notation f l before.back) text-is
      ∙ g.read_back before.back (a.room_back g.tree' back_is)

  tree-back : front r.back after.back ≡ g.tree'
  tree-back = front-is r.back before.back after.back g.tree' back-run

  count-is : outcome r.count ≡ result (length list)
  count-is = run.counts ∙ ap (λ (l : List ℕ). count_steps text l) tree_is ∙ g.count

  recount-is : outcome r.recount ≡ result (length list)
  recount-is = run.recounts ∙ ap₂ (λ (l m : List ℕ). count_steps l m) text-is tree-back ∙ g.count_back

  -- a step that is sought, in a buffer with room for its record
  found : (x : Leaf) (answer : Result ℕ Refusal) (buffer buffer' : List ℕ) {entry : List ℕ → Lent ℕ} → lent answer buffer' ≡ entry buffer →
      Gives entry (leaf_record x) → Found x answer buffer buffer'
  found x answer buffer buffer' e h room =
      e ∙ h buffer (omega (arith, length-head_record (leaf_head x)))
      ∙ ap (λ (n : ℕ). record { answer = result n; buffer = leaf_record x ++ drop n buffer }) (length-head_record (leaf_head x))

  pub demanded : Demanded text list k r before after
  demanded =
      record {
        read = (length t, ap (λ x. x.answer) read-run);
        inverted = (length d.inverted, ap (λ x. x.answer) inverse-run);
        printed = (length d.text', ap (λ x. x.answer) print-run);
        read_back = (length g.tree', ap (λ x. x.answer) back-run);
        count = count-is;
        recount = recount-is;
        sought = λ x e.
            found x r.step before.step after.step {entry = seek_step text t k} (run.seeks ∙ seek-same before.step refl tree_is refl)
            (g.seek k x e);
        list' = g.list';
        unrolls_back = ap (λ (l : List ℕ). flatten (unpack l)) tree-back ∙ g.unrolls_back;
        undoes = λ x e.
            let b = g.seek_back k x e in (
              b.0,
              b.1,
              found b.0 r.undone before.undone after.undone {entry = seek_step d.text' g.tree' (length list - suc k)}
                  (run.undoes ∙ seek-same before.undone text-is tree-back (ap (λ o. value o - suc k) count-is)) b.2,
              subst (λ (l : List ℕ). SameStep l b.0 text (undo x)) (sym text-is) b.3,
            );
      }

-- a run, and with it what is demanded
pub agreed : {f : Features} {text : List ℕ} {k : ℕ} {r : Agreement} {before after : Buffers} → Run f text k r before after → Agreed f text k r before after
agreed run = record { runs = run; demands = λ t list a. demanded run t list a }
