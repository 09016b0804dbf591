use Rattle.standing_store.proofs.AnyTextLemmas.{any_text_stands}
use Rattle.standing_store.proofs.laws.an_update_of_any_text_keeps_standing.Goals as goal

pub returns : goal.returns
returns c = any_text_stands c.an_accepted_update_is_of_the_plan.ensures c.an_update_keeps_standing.ensures
