use Rattle.update_plan.proofs.AcceptLemmas.{store_is_of_plan}
use Rattle.update_plan.proofs.laws.an_accepted_store_is_of_the_plan.Goals as goal

pub returns : goal.returns
returns c = store_is_of_plan
