-- From any inverse of an accepted tree to demand 3's agreement: it passes the check, is printed, and its text read back unrolls to the same
-- steps, undone and in reverse. Assumes nothing.
use Prim.Native.Nat.{ℕ, suc, ◌-◌, ◌≤◌}
use mathlib.Core.Path.{◌≡◌, sym, ap, ◌∙◌}
use mathlib.Core.Bool.{true, false}
use mathlib.Core.List.{List, map}
use mathlib.Core.Option.{some}
use native.Mathlib.Omega.{arith}
use lib.ListN.{length, get_elem?, length-map}
use Rattle.notation.specs.Refusals.{result, ◌>>=◌}
use Rattle.notation.specs.Tree.{Leaf, Tree}
use Rattle.notation.specs.Packed.{pack, leaf_record}
use Rattle.notation.specs.Meaning.{step_of, SameSteps, unspanned}
use Rattle.notation.specs.WellFormed.{tree_ok}
use Rattle.notation.specs.Invert.{undo}
use Rattle.notation.specs.Print.{printed}
use Rattle.notation.specs.Unroll.{flatten}
use Rattle.notation.specs.Entries.{checked, reading, steps, step_at, display, MAX-TEXT, MAX-STEPS}
use Rattle.notation.specs.Demands.{Agrees}
use Rattle.notation.specs.declared.features.Features.{Features}
use Rattle.laws.proofs.ListEntries.{get_reverse, get-map, get-of-map}
use Rattle.laws.specs.Unrolled.{backwards, flat}
use Rattle.laws.specs.Packed.{FitsTree}
use Rattle.laws.proofs.Unrolling.{long-backwards, flat_map}
use Rattle.laws.proofs.Reached.{negatable, clean, clean_nodes, clean-map, clean-unrolls, unrolled-list}
use Rattle.laws.proofs.InRange.{in_range}
use Rattle.laws.proofs.Packing.{unpack-pack}
use Rattle.laws.proofs.Parens.{parens, parens-depth}
use Rattle.laws.proofs.KeptByInverses.{step-undo, step-negatable}
use Rattle.laws.proofs.Accepting.{accepts, counts-as, gives}
use Rattle.laws.proofs.Tidy.{Tidy, tidy, tidy-fits, checks-over, tidy-checks}
use Rattle.laws.proofs.PrintedBack.{PrintedBack, printed-back-over}

-- i is an inverse of t over the same text: it is in bounds, fits its records, is in the setting's range, reaches nothing that cannot be
-- undone, has as many parentheses, and unrolls to the steps of t undone and in reverse.
pub record Undoes (f : Features) (text : List ℕ) (t i : Tree) : Type 0 where
  pub in_bounds : tree_ok text i ≡ true
  pub fits : FitsTree i
  pub ranged : in_range f (unspanned text i) ≡ true
  pub undoable : clean i ≡ true
  pub nested : parens i ≡ parens t
  pub unrolls : flat undo false i ≡ backwards (flat undo false t)

step-at : (text tree : List ℕ) (list : List Leaf) (k : ℕ) (x : Leaf) → steps text tree ≡ result list → get_elem? list k ≡ some x →
    step_at text tree k ≡ result (leaf_record x)
step-at text tree list k x s h = rw (s, h)

-- what passes the check, reaches nothing that cannot be undone and plays a list that can be counted, undone and in reverse, is counted so
pub undone-steps : (text : List ℕ) (i : Tree) (list : List Leaf) → checked text (pack i) ≡ result i → clean i ≡ true →
    flat undo false i ≡ backwards list → length list ≤ MAX-STEPS → steps text (pack i) ≡ result (backwards list)
undone-steps text i list passes c plays few =
    counts-as text (pack i) i (backwards list) passes (clean-unrolls i c ∙ ap result plays) (omega (arith, long-backwards list))

module _ {f : Features} {text : List ℕ} {t i : Tree} (p : Tidy f text t) (u : Undoes f text t i) where
  few-parens : parens i ≤ 64
  few-parens = omega (arith, u.nested, p.nested)

  pub inverse-checks : checked text (pack i) ≡ result i
  inverse-checks = checks-over p.accepted i u.in_bounds u.fits (omega (arith, parens-depth i, few-parens))

  pub inverse-prints : display text (pack i) ≡ result (printed text i)
  inverse-prints = rw inverse-checks

  -- what the inverse plays
  undone-list : (list : List Leaf) → flatten t ≡ result list → flat undo false i ≡ backwards list
  undone-list list unrolls = u.unrolls ∙ ap backwards (unrolled-list t list unrolls).1

  pub inverse-steps : (list : List Leaf) → flatten t ≡ result list → length list ≤ MAX-STEPS → steps text (pack i) ≡ result (backwards list)
  inverse-steps list unrolls few = undone-steps text i list inverse-checks u.undoable (undone-list list unrolls) few

  module _ (list : List Leaf) (unrolls : flatten t ≡ result list) (few : length list ≤ MAX-STEPS)
      (short : length (printed text i) ≤ MAX-TEXT) where
    -- the printed inverse, and the tree that it is read back to
    text' : List ℕ
    text' = printed text i

    back : PrintedBack f (unspanned text i)
    back = printed-back-over f text i u.ranged few-parens short

    t' : Tree
    t' = back.tree

    back-tidy : Tidy f text' t'
    unfolding text' t'
    back-tidy = tidy f (printed text i) back.tree back.accepted

    means : unspanned text' t' ≡ unspanned text i
    unfolding text' t'
    means = back.means

    list' : List Leaf
    list' = flat undo false t'

    back-clean : clean t' ≡ true
    back-clean =
        sym (clean-map (step_of text') negatable negatable (step-negatable text') t')
        ∙ ap (clean_nodes negatable) means
        ∙ clean-map (step_of text) negatable negatable (step-negatable text) i
        ∙ u.undoable

    back-unrolls : flatten t' ≡ result list'
    unfolding list'
    back-unrolls = clean-unrolls t' back-clean

    -- the two unrolled lists, step for step
    same-steps : SameSteps text' list' text (backwards list)
    unfolding list'
    same-steps =
        sym (flat_map t' (step_of text') undo undo (step-undo text') false)
        ∙ ap (flat undo false) means
        ∙ flat_map i (step_of text) undo undo (step-undo text) false
        ∙ ap (map (step_of text)) (undone-list list unrolls)

    same_length : length list' ≡ length list
    same_length =
        sym (length-map list' (step_of text')) ∙ ap length same-steps ∙ length-map (backwards list) (step_of text)
        ∙ long-backwards list

    found : (k : ℕ) (x : Leaf) → get_elem? list k ≡ some x →
        get_elem? (map (step_of text') list') (length list - suc k) ≡ some (step_of text (undo x))
    found k x h =
        ap (λ l. get_elem? l (length list - suc k)) same-steps
        ∙ get-map (step_of text) (backwards list) (length list - suc k) (undo x)
        (ap (λ (n : ℕ). get_elem? (backwards list) (n - suc k)) (sym (length-map list undo))
        ∙ get_reverse (map undo list) k (undo x) (get-map undo list k x h))

    steps-here : steps text (pack t) ≡ result list
    steps-here = counts-as text (pack t) t list (tidy-checks p) unrolls few

    steps_back : steps text' (pack t') ≡ result list'
    steps_back = counts-as text' (pack t') t' list' (tidy-checks back-tidy) back-unrolls (let e = same_length in omega arith)

    pub agrees : Agrees f text (pack t) list (printed text i)
    unfolding text'
    agrees =
        record {
          tree' = pack t';
          list' = list';
          read_back = gives (reading f text') (pack t') (accepts f text' t' back-tidy.accepted);
          unrolls_back = ap flatten (unpack-pack t' (tidy-fits back-tidy)) ∙ back-unrolls;
          count = ap (λ s. ◌>>=◌ s (λ l. result (length l))) steps-here;
          count_back = ap (λ s. ◌>>=◌ s (λ l. result (length l))) steps_back ∙ ap result same_length;
          seek = λ k x h. gives (step_at text (pack t) k) (leaf_record x) (step-at text (pack t) list k x steps-here h);
          seek_back = λ k x h.
              let n = length list - suc k in
              let y = get-of-map (step_of text') list' n (step_of text (undo x)) (found k x h) in
              (y.0, y.1, gives (step_at text' (pack t') n) (leaf_record y.0) (step-at text' (pack t') list' n y.0 steps_back y.1), y.2);
        }

    -- read back, it unrolls step for step into what the inverse plays
    pub agrees-steps : SameSteps (printed text i) agrees.list' text (backwards list)
    unfolding text' agrees
    agrees-steps = same-steps
