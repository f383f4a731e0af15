-- `charsets::utf8::code_point` meets its contract: a character that stands there has every byte that is read.
use Prim.Native.Nat.{◌+◌}
use mathlib.Core.Path.{refl}
use borrow.Author.Tests.{le-leb, lt-leb}
use Rattle.charsets.proofs.Texts.{in-text}
use Rattle.charsets.proofs.Widths.{Stands, stands, point_at}
use Rattle.charsets.proofs.utf8.code_point.Goals as goal
use Rattle.charsets.proofs.utf8.code_point.Goals.{Start}

known : (c : Start) → Stands c.args.s.now c.args.at
known c = stands c.args.s.now c.args.at c.requires

pub bounds-s-at : goal.bounds-s-at
bounds-s-at c = (known (goal.at.bounds-s-at c).Start).first

pub returns-then-a-le127 : goal.returns-then-a-le127
returns-then-a-le127 c =
    point_at c.args.s.now c.args.at _ _ _ _ (in-text c.args.s.now c.args.at (known (goal.at.returns-then-a-le127 c).Start).first) refl refl refl (le-leb _ _ c.if-a-le127.true) refl refl

pub bounds-s-at-2 : goal.bounds-s-at-2
bounds-s-at-2 c = (known (goal.at.bounds-s-at-2 c).Start).second c.if-a-le127.false

pub returns-then-a-le223 : goal.returns-then-a-le223
returns-then-a-le223 c =
    rw c.six_bits-b.ensures
    (point_at c.args.s.now c.args.at _ _ _ _ (in-text c.args.s.now c.args.at (known (goal.at.returns-then-a-le223 c).Start).first) (in-text c.args.s.now (c.args.at + 1) ((known (goal.at.returns-then-a-le223 c).Start).second c.if-a-le127.false)) refl refl
    (lt-leb _ _ c.if-a-le127.false) (le-leb _ _ c.if-a-le223.true) refl)

pub bounds-s-at-3 : goal.bounds-s-at-3
bounds-s-at-3 c = (known (goal.at.bounds-s-at-3 c).Start).third c.if-a-le223.false

pub returns-then-a-le239 : goal.returns-then-a-le239
returns-then-a-le239 c =
    rw (c.six_bits-b.ensures, c.six_bits-c.ensures)
    (point_at c.args.s.now c.args.at _ _ _ _ (in-text c.args.s.now c.args.at (known (goal.at.returns-then-a-le239 c).Start).first) (in-text c.args.s.now (c.args.at + 1) ((known (goal.at.returns-then-a-le239 c).Start).second c.if-a-le127.false))
    (in-text c.args.s.now (c.args.at + 2) ((known (goal.at.returns-then-a-le239 c).Start).third c.if-a-le223.false)) refl
    (lt-leb _ _ c.if-a-le127.false) (lt-leb _ _ c.if-a-le223.false) (le-leb _ _ c.if-a-le239.true))

pub bounds-s-at-4 : goal.bounds-s-at-4
bounds-s-at-4 c = (known (goal.at.bounds-s-at-4 c).Start).fourth c.if-a-le239.false

pub returns : goal.returns
returns c =
    rw (c.six_bits-b.ensures, c.six_bits-c.ensures, c.six_bits-d.ensures)
    (point_at c.args.s.now c.args.at _ _ _ _ (in-text c.args.s.now c.args.at (known (goal.at.returns c).Start).first) (in-text c.args.s.now (c.args.at + 1) ((known (goal.at.returns c).Start).second c.if-a-le127.false))
    (in-text c.args.s.now (c.args.at + 2) ((known (goal.at.returns c).Start).third c.if-a-le223.false)) (in-text c.args.s.now (c.args.at + 3) ((known (goal.at.returns c).Start).fourth c.if-a-le239.false))
    (lt-leb _ _ c.if-a-le127.false) (lt-leb _ _ c.if-a-le223.false) (lt-leb _ _ c.if-a-le239.false))
