use Rattle.pair_state.proofs.PairEndLemmas.{one_pair_end}
use Rattle.pair_state.proofs.laws.a_pair_ends_at_one_place.Goals as goal

pub returns : goal.returns
returns c = one_pair_end
