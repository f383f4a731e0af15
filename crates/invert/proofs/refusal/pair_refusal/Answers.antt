-- `invert::refusal::pair_refusal` meets its contract: the law of its one test. Assumes nothing.
use mathlib.Core.Path.{ap, ◌∙◌}
use Rattle.notation.specs.Lending.{number_of}
use Rattle.invert.proofs.Refusing.{by-test}
use Rattle.invert.proofs.refusal.pair_refusal.Goals as goal

pub returns : goal.returns
returns c = ap number_of c.then_some.ensures ∙ by-test c.args.t.now _ c.overflows.ensures
