use Rattle.store_state.proofs.StateLemmas.{stay-distinct}
use Rattle.store_state.proofs.laws.names_stay_distinct.Goals as goal

pub returns : goal.returns
returns c = stay-distinct
