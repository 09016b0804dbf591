use Rattle.plan_answers.proofs.OneAnswer.{told_once}
use Rattle.plan_answers.proofs.laws.two_checks_tell_the_same.Goals as goal

pub returns : goal.returns
returns c = told_once c.statements_have_one_answer.ensures
