-- What stands from the start on is the whole text. Assumes nothing.
use mathlib.Core.Path.{ap, ◌∙◌}
use native.Mathlib.Omega.{arith}
use lib.ListN.{length}
use Rattle.display.proofs.Writing.{wrote-whole}
use Rattle.display.proofs.unspanned.print.Goals as goal

pub returns : goal.returns
returns c =
    let w = c.put_nodes.ensures in
    record {
      same_reference = w.same ∙ c.new.ensures.same_reference;
      counts = omega (arith, w.counts, c.new.ensures.place);
      prints = rw (← c.new.ensures.bytes) (λ h. wrote-whole w c.new.ensures.place (omega (arith, c.well_formed, ap length c.new.ensures.bytes)) h);
    }
