-- `agreement::agree` meets its contract: each answer is that of its entry, and demand 3 follows from the theorem. Assumes nothing.
use Prim.Native.Nat.{ℕ}
use mathlib.Core.Path.{ap, ap₂, ◌∙◌}
use mathlib.Core.List.{List}
use Rattle.notation.specs.Entries.{parse_notation, inv_entry, display_entry, count_steps, seek_step}
use Rattle.hypuz_notation.proofs.Agreeing.{agreed, seek-same}
use Rattle.hypuz_notation.proofs.agreement.agree.Goals as goal

pub shape_of-tree : goal.shape_of-tree
shape_of-tree c = c.parse_notation-read.auto.tree

pub shape_of-inverse : goal.shape_of-inverse
shape_of-inverse c = c.inv-inverted.auto.out

pub returns : goal.returns
returns c =
    let a = c.args in
    agreed
    (record {
      reads = c.parse_notation-read.ensures;
      inverts = c.inv-inverted.ensures ∙ ap (λ (l : List ℕ). inv_entry a.text.now l a.inverse.now) c.front-t.ensures;
      prints = c.display-shown.ensures ∙ ap (λ (l : List ℕ). display_entry a.text.now l a.printed.now) c.front.ensures;
      reads_back = c.parse_notation-reread.ensures ∙ ap (λ (l : List ℕ). parse_notation a.features l a.back.now) c.front-p.ensures;
      counts = c.count_steps-count.ensures.answer ∙ ap (λ (l : List ℕ). count_steps a.text.now l) c.front-t.ensures;
      recounts = c.count_steps-recount.ensures.answer ∙ ap₂ (λ (l m : List ℕ). count_steps l m) c.front-p.ensures c.front-b.ensures;
      seeks = c.seek_step-found.ensures ∙ ap (λ (l : List ℕ). seek_step a.text.now l a.place a.step.now) c.front-t.ensures;
      undoes = c.seek_step-found_back.ensures ∙ seek-same a.undone.now c.front-p.ensures c.front-b.ensures c.from_end-last.ensures;
    })
