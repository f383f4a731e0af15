-- `steps::count_steps` meets its contract: what `count_checked` makes of what `check` found. Assumes nothing.
use Rattle.entries.proofs.steps.count_steps.Goals as goal

pub returns-clause-counted : goal.returns-clause-counted
returns-clause-counted c =
    let said = c.check.ensures in
    c.count_checked.ensures.counted _ _ (record { answer = said.answer; found = said.found })
