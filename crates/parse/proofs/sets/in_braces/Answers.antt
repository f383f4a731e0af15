-- `in_braces` meets its contract: at each mark that the loop comes to, what follows decides the whole. Assumes nothing.
use mathlib.Core.Path.{sym, ◌∙◌}
use native.Mathlib.Omega.{arith}
use Prim.Native.Nat.{◌+◌}
use Rattle.notation.specs.Chars.{white_space}
use Rattle.charsets.proofs.Runs.{end-length}
use Rattle.parse.proofs.InBraces.{opened, marks, closes}
use Rattle.parse.proofs.sets.in_braces.Goals as goal

pub loop-next-init : goal.loop-next-init
loop-next-init g c = opened (g.E.Element.reads c.args.element) c.args.text.now c.args.at c.requires.1

pub overflow_add-mark : goal.overflow_add-mark
overflow_add-mark g c = omega (arith, c.loop-next.invariant.inside)

pub whitespace_end-from-requires : goal.whitespace_end-from-requires
whitespace_end-from-requires g c = omega (arith, c.loop-next.invariant.inside)

pub end-requires : goal.end-requires
end-requires g c = omega (arith, c.whitespace_end-from.ensures, end-length white_space c.args.text.now (c.loop-next.mark + 1) (omega (arith, c.loop-next.invariant.inside)))

pub closing-requires : goal.closing-requires
closing-requires g c = omega (arith, c.whitespace_end-from.ensures, end-length white_space c.args.text.now (c.loop-next.mark + 1) (omega (arith, c.loop-next.invariant.inside)))

pub returns-then-mark-at : goal.returns-then-mark-at
returns-then-mark-at g c = c.closing.ensures ∙ c.loop-next.invariant.bare c.if-mark-at.true c.whitespace_end-from.result c.whitespace_end-from.ensures (rw c.in_default.is at c.end.ensures.means)

pub returns-in_default : goal.returns-in_default
returns-in_default g c = c.loop-next.invariant.lacking c.if-mark-at.false c.whitespace_end-from.result c.whitespace_end-from.ensures (rw c.in_default.is at c.end.ensures.means)

pub whitespace_end-comma-requires : goal.whitespace_end-comma-requires
whitespace_end-comma-requires g c = (c.loop-next.invariant.onward c.whitespace_end-from.result c.whitespace_end-from.ensures tt c.in-Some.next (rw c.in-Some.is at c.end.ensures.means) c.in-Some.ensures.within).inside

pub loop-next-smaller : goal.loop-next-smaller
loop-next-smaller g c = let w = (c.loop-next.invariant.onward c.whitespace_end-from.result c.whitespace_end-from.ensures tt c.in-Some.next (rw c.in-Some.is at c.end.ensures.means) c.in-Some.ensures.within) in omega (arith, w.past, w.inside, c.whitespace_end-comma.ensures, c.loop-next.invariant.inside)

pub loop-next-preserved : goal.loop-next-preserved
loop-next-preserved g c = marks (g.E.Element.reads c.args.element) c.args.text.now c.loop-next.mark c.in-Some.next c.whitespace_end-comma.result c.whitespace_end-comma.ensures (sym c.has.ensures ∙ c.if-has.true) c.loop-next.invariant.later (c.loop-next.invariant.onward c.whitespace_end-from.result c.whitespace_end-from.ensures tt c.in-Some.next (rw c.in-Some.is at c.end.ensures.means) c.in-Some.ensures.within)

pub closing-requires-else-has : goal.closing-requires-else-has
closing-requires-else-has g c = omega (arith, c.whitespace_end-comma.ensures, end-length white_space c.args.text.now c.in-Some.next (c.loop-next.invariant.onward c.whitespace_end-from.result c.whitespace_end-from.ensures tt c.in-Some.next (rw c.in-Some.is at c.end.ensures.means) c.in-Some.ensures.within).inside)

pub returns-else-has : goal.returns-else-has
returns-else-has g c = closes (g.E.Element.reads c.args.element) c.args.text.now c.loop-next.mark c.in-Some.next c.whitespace_end-comma.result c.whitespace_end-comma.ensures (sym c.has.ensures ∙ c.if-has.false) c.closing-else-has.ensures (c.loop-next.invariant.onward c.whitespace_end-from.result c.whitespace_end-from.ensures tt c.in-Some.next (rw c.in-Some.is at c.end.ensures.means) c.in-Some.ensures.within)
