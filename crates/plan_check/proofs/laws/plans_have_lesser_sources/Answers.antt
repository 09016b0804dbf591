use Rattle.plan_check.proofs.Levels.{lesser_sources}
use Rattle.plan_check.proofs.laws.plans_have_lesser_sources.Goals as goal

pub returns : goal.returns
returns c = lesser_sources
