use Rattle.update_plan.proofs.AcceptLemmas.{accepted}
use Rattle.update_plan.proofs.laws.an_update_is_accepted_where_texts_are_equal.Goals as goal

pub returns : goal.returns
returns c = accepted
