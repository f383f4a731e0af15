-- `count_checked` meets its contract: each way out is one case of the rule. Assumes nothing.
use Rattle.checked.proofs.Counting.{count-unaccepted, count-refused, count-many, count-done}
use Rattle.checked.proofs.Outcomes.{handed_on}
use Rattle.checked.proofs.count_checked.Goals as goal

pub returns-in_err-visited-clause-answer : goal.returns-in_err-visited-clause-answer
returns-in_err-visited-clause-answer c = λ text tree p. rw (handed_on _ _ c.from_residual.ensures) (count-unaccepted text tree _ (rw c.in_err-visited.was at p)).answer

pub returns-in-Some-clause-answer : goal.returns-in-Some-clause-answer
returns-in-Some-clause-answer c = λ text tree p. (count-refused text tree _ (rw c.in_ok-visited.was at p) _ c.in-Some.is).answer

pub returns-then-visited-gt-MAX_STEPS-clause-answer : goal.returns-then-visited-gt-MAX_STEPS-clause-answer
returns-then-visited-gt-MAX_STEPS-clause-answer c = λ text tree p. (count-many text tree _ (rw c.in_ok-visited.was at p) c.in_default.is c.if-visited-gt-MAX_STEPS.true).answer

pub returns : goal.returns
returns c =
    record {
      answer = λ text tree p. (count-done text tree _ (rw c.in_ok-visited.was at p) c.in_default.is c.if-visited-gt-MAX_STEPS.false).answer;
      counted = λ text tree p. (count-done text tree _ (rw c.in_ok-visited.was at p) c.in_default.is c.if-visited-gt-MAX_STEPS.false).counted;
    }
