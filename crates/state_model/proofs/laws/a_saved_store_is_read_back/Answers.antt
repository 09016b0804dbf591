use Rattle.state_model.proofs.StateLemmas.{saved-read_back}
use Rattle.state_model.proofs.laws.a_saved_store_is_read_back.Goals as goal

pub returns : goal.returns
returns c = saved-read_back
