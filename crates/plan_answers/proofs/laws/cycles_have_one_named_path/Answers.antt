use Rattle.plan_answers.proofs.OneNaming.{one_naming}
use Rattle.plan_answers.proofs.laws.cycles_have_one_named_path.Goals as goal

pub returns : goal.returns
returns c = one_naming
