use Rattle.plan_check.proofs.Plans.{checked_names}
use Rattle.plan_check.proofs.laws.plans_have_the_declared_names.Goals as goal

pub returns : goal.returns
returns c = checked_names
