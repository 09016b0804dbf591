use Rattle.plan_answers.proofs.OneAnswer.{checked_once}
use Rattle.plan_answers.proofs.laws.statements_have_one_answer.Goals as goal

pub returns : goal.returns
returns c = checked_once c.levels_are_one.ensures c.levels_have_no_cycle.ensures c.options_have_one_answer.ensures
