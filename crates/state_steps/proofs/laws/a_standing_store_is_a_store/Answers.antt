use Rattle.state_steps.proofs.FollowLemmas.{stored}
use Rattle.state_steps.proofs.laws.a_standing_store_is_a_store.Goals as goal

pub returns : goal.returns
returns c = stored
