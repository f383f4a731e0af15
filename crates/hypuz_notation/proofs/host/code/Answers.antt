-- `host::code` meets its contract: each case by its rule. Assumes nothing.
use mathlib.Core.Path.{ap}
use Rattle.notation.specs.Entries.{outcome}
use Rattle.hypuz_notation.proofs.Handing.{value-coded, refusal-coded}
use Rattle.hypuz_notation.proofs.host.code.Goals as goal

pub returns-in-Ok : goal.returns-in-Ok
returns-in-Ok c = value-coded _ _ (ap outcome c.in-Ok.is)

pub returns-in-Err : goal.returns-in-Err
returns-in-Err c = rw c.number.ensures (refusal-coded _ _ (ap outcome c.in-Err.is))
