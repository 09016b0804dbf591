use Rattle.state_model.proofs.StateLemmas.{stay-distinct}
use Rattle.state_model.proofs.laws.names_stay_distinct.Goals as goal

pub returns : goal.returns
returns c = stay-distinct
