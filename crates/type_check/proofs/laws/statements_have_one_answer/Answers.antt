use Rattle.type_check.proofs.Plans.{checked_once}
use Rattle.type_check.proofs.laws.statements_have_one_answer.Goals as goal

pub returns : goal.returns
returns c = checked_once c.options_have_one_answer.ensures
