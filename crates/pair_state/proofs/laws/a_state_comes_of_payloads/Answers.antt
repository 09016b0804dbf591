use Rattle.pair_state.proofs.LeadsLemmas.{reached_stored}
use Rattle.pair_state.proofs.PairStateLemmas.{state_reached}
use Rattle.pair_state.proofs.laws.a_state_comes_of_payloads.Goals as goal

pub returns : goal.returns
returns c = record { reached = state_reached; stored = reached_stored }
