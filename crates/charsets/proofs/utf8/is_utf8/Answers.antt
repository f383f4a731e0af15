-- `charsets::utf8::is_utf8` meets its contract: what is left of the text at each turn is as well formed as the whole.
use Prim.Native.Nat.{ℕ, ◌+◌, ◌≤◌}
use mathlib.Core.List.{List}
use mathlib.Core.Path.{◌∙◌, sym}
use native.Mathlib.Omega.{arith}
use lib.ListN.{length, drop, length-drop, drop_of_length-le}
use Rattle.notation.specs.Utf8.{utf8_from}
use Rattle.charsets.proofs.Widths.{width_one}
use Rattle.charsets.proofs.Runs.{utf8-next, utf8-stop, width_fits}
use Rattle.charsets.proofs.utf8.is_utf8.Goals as goal
use Rattle.charsets.proofs.utf8.is_utf8.Goals.{Else-width-eq0}

pub loop-at-preserved-then-s-at-le127 : goal.loop-at-preserved-then-s-at-le127
loop-at-preserved-then-s-at-le127 c =
    let s = c.args.s.now in
    (omega arith, utf8-next s c.loop-at.at 1 (width_one s c.loop-at.at c.loop-at-test.true c.if-s-at-le127.true) (omega arith) ∙ c.loop-at.invariant.1)

pub returns-then-width-eq0 : goal.returns-then-width-eq0
returns-then-width-eq0 c =
    let s = c.args.s.now in
    sym (utf8-stop (drop c.loop-at.at s) (omega (arith, length-drop c.loop-at.at s)) (sym c.char_width-width.ensures ∙ c.if-width-eq0.true)) ∙ c.loop-at.invariant.1

abbrev text : Else-width-eq0 → List ℕ
text c = c.args.s.now

-- the character that was found lies within the text
found : (c : Else-width-eq0) → c.loop-at.at + c.char_width-width.result ≤ length (text c)
found c = width_fits (text c) c.loop-at.at _ c.loop-at.invariant.0 c.char_width-width.ensures

pub overflow_add-at-else-s-at-le127 : goal.overflow_add-at-else-s-at-le127
overflow_add-at-else-s-at-le127 c = omega (arith, found c)

pub loop-at-preserved : goal.loop-at-preserved
loop-at-preserved c =
    (found c, utf8-next (text c) c.loop-at.at _ c.char_width-width.ensures (omega arith) ∙ c.loop-at.invariant.1)

pub returns : goal.returns
unfolding utf8_from
returns c = rw (drop_of_length-le _ c.loop-at-test.false) at c.loop-at.invariant.1
