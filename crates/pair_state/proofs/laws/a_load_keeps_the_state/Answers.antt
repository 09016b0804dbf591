use Rattle.pair_state.proofs.PairStateLemmas.{keeps_state}
use Rattle.pair_state.proofs.laws.a_load_keeps_the_state.Goals as goal

pub returns : goal.returns
returns c = keeps_state
