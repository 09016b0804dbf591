use Rattle.plan_check.proofs.Levels.{names_unlike}
use Rattle.plan_check.proofs.laws.plans_have_different_names.Goals as goal

pub returns : goal.returns
returns c = names_unlike
