use Rattle.plan_answers.proofs.OneNaming.{resolved_once}
use Rattle.plan_answers.proofs.laws.origins_are_resolved_in_one_way.Goals as goal

pub returns : goal.returns
returns c = resolved_once c.options_have_one_answer.ensures
