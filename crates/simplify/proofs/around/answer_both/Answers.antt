-- `answer_both` meets its contract: the ranges are counted, and written where they have room. Assumes nothing.
use Prim.Native.Nat.{◌+◌, ◌*◌, ◌≤◌}
use mathlib.Core.Path.{◌≡◌, refl, ◌∙◌}
use mir.Val.{bool_byte}
use mathlib.Core.List.{◌++◌}
use native.Mathlib.Omega.{arith}
use lib.ListN.{length, length-append}
use Rattle.simplify.specs.Reach.{listed}
use Rattle.simplify.proofs.Sweep.{all-written, written_on}
use Rattle.simplify.proofs.Answers.{answered, refused}
use Rattle.simplify.proofs.Listed.{count-listed}
use Rattle.simplify.proofs.around.answer_both.Goals as goal

pub returns-then-out-ranges : goal.returns-then-out-ranges
returns-then-out-ranges c =
    let a = listed c.args.first in
    let b = listed c.args.second in
    refused (a ++ b) (a ++ b) refl c.args.out.now
    (omega (arith, length-append a b, count-listed c.args.first _ c.is_some.ensures, count-listed c.args.second _ c.is_some-2.ensures, c.if-out-ranges.true))

pub returns : goal.returns
returns c =
    let a = listed c.args.first in
    let b = listed c.args.second in
    let counted : bool_byte c.is_some.result + bool_byte c.is_some-2.result ≡ length (a ++ b) =
    omega (arith, length-append a b, count-listed c.args.first _ c.is_some.ensures, count-listed c.args.second _ c.is_some-2.ensures) in
    let room : 4 * length (a ++ b) ≤ length c.args.out.now = omega (arith, counted, c.if-out-ranges.false) in
    answered (a ++ b) (a ++ b) refl c.args.out.now _ c.write_some.new.out counted room
    (c.write_some.ensures.out_after ∙ rw (c.write_some-at.ensures.value, c.write_some-at.ensures.out_after) (written_on c.args.out.now 0 a b (omega (arith, room, length-append a b))) ∙ all-written c.args.out.now (a ++ b))
