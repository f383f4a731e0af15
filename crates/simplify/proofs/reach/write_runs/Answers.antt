-- `write_runs` meets its contract. The invariant: with the runs that are left written behind those before them, the bytes are those asked for. Assumes nothing.
use Prim.Native.Nat.{suc, ◌+◌, ◌*◌, ◌≤◌}
use mathlib.Core.Path.{◌≡◌, ◌∙◌, sym, ap}
use native.Mathlib.Omega.{arith}
use lib.ListN.{length}
use Rattle.layer.specs.Meaning.{range}
use Rattle.simplify.specs.Reach.{runs_from, written}
use Rattle.simplify.proofs.Sweep.{none_written, all-written, one_written}
use Rattle.simplify.proofs.reach.write_runs.Goals as goal

pub loop-k-preserved : goal.loop-k-preserved
loop-k-preserved c =
    let out = c.loop-k.out in
    let k = c.in-Some.k in
    let step = c.in-Some.ensures.steps in
    let kept = c.loop-k.invariant in
    let left = runs_from c.next.new.self.iter.reach.now c.next.new.self.iter.at in
    let next : 4 * c.next.new.self.count ≡ 4 * k + 4 = omega (arith, step.1, step.2) in
    let room : 4 * k + 4 * suc (length left) ≤ length out = omega (arith, kept.0, ap length step.0, step.1) in (
      omega (arith, c.write_range.auto.out, room, next),
      rw next (one_written out (4 * k) (range c.in-Some.run') left c.write_range.new.out room c.write_range.ensures)
          ∙ ap (written out (4 * k)) (sym step.0) ∙ rw step.1 kept.1,
    )

pub returns : goal.returns
returns c =
    sym (none_written c.loop-k.out (4 * c.loop-k.k-iterator.count))
    ∙ ap (written c.loop-k.out (4 * c.loop-k.k-iterator.count)) (sym c.in-None.ensures.steps.0.0)
    ∙ c.loop-k.invariant.1 ∙ all-written c.args.out.now (runs_from c.args.reach.now 0)
