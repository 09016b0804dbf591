use Rattle.pair_state.proofs.PairStateLemmas.{refused_spared}
use Rattle.pair_state.proofs.laws.a_refused_pair_is_spared.Goals as goal

pub returns : goal.returns
returns c = λ room files refused may. refused_spared files room refused may
