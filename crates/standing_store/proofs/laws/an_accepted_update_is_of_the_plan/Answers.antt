use Rattle.standing_store.proofs.PlanLemmas.{accepted_of_plan}
use Rattle.standing_store.proofs.laws.an_accepted_update_is_of_the_plan.Goals as goal

pub returns : goal.returns
returns c = accepted_of_plan c.datasets_of_one_text_are_one.ensures c.an_update_is_accepted_where_texts_are_equal.ensures
