use Rattle.plan_texts.proofs.Judging.{are_judged}
use Rattle.plan_texts.proofs.laws.plans_are_judged.Goals as goal

pub returns : goal.returns
returns c = are_judged (record { names = c.plans_have_the_declared_names.ensures; differ = c.plans_have_different_names.ensures; lesser = c.plans_have_lesser_sources.ensures })
