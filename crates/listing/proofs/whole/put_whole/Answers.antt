-- What stands from the start on is the whole listing. Assumes nothing.
use Prim.Native.Nat.{ℕ}
use mathlib.Core.Path.{ap, ◌∙◌}
use mathlib.Core.List.{List, ◌++◌, append-nil}
use native.Mathlib.Omega.{arith}
use lib.ListN.{length, drop}
use Rattle.notation.specs.Lister.{lister}
use Rattle.display.proofs.Writing.{wrote-whole}
use Rattle.listing.proofs.whole.put_whole.Goals as goal

pub returns : goal.returns
returns c =
    let w = c.put_input.ensures in
    let l = lister c.args.input.now in
    let n = ap length (append-nil l) in
    record {
      same_reference = w.same ∙ c.new.ensures.same_reference;
      counts = omega (arith, w.counts, c.new.ensures.place, n);
      prints = λ h.
          wrote-whole w c.new.ensures.place (omega (arith, c.well_formed, ap length c.new.ensures.bytes)) (omega (arith, ap length c.new.ensures.bytes, n))
          ∙ ap (λ (s : List ℕ). s ++ drop (length s) c.new.result.out.now) (append-nil l)
          ∙ ap (λ (o : List ℕ). l ++ drop (length l) o) c.new.ensures.bytes;
    }
