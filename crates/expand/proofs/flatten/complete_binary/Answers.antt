-- `flatten::complete_binary` meets its contract. Assumes nothing.
use Rattle.expand.proofs.Completing.{twice, once, first-as_steps, second-of, second-as_steps, commutator-written, conjugate-written}
use Rattle.expand.proofs.flatten.complete_binary.Goals as goal

pub turn-requires : goal.turn-requires
turn-requires c = let p = c.requires in first-as_steps p (twice p c.repeat.ensures)

pub turn-requires-then-commutator : goal.turn-requires-then-commutator
turn-requires-then-commutator c =
    let p = c.requires in
    second-as_steps p (second-of p (twice p c.repeat.ensures) c.turn.ensures)

pub returns-then-commutator : goal.returns-then-commutator
returns-then-commutator c =
    let p = c.requires in
    commutator-written p c.if-commutator.true (second-of p (twice p c.repeat.ensures) c.turn.ensures) c.turn-then-commutator.ensures

pub turn-requires-2 : goal.turn-requires-2
turn-requires-2 c = let p = c.requires in first-as_steps p (once p c.repeat-2.ensures)

pub returns : goal.returns
returns c =
    let p = c.requires in
    conjugate-written p c.if-commutator.false (once p c.repeat-2.ensures) c.turn-2.ensures
