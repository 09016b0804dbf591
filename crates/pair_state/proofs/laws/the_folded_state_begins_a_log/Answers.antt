use Rattle.pair_state.proofs.LeadsLemmas.{folded_leads}
use Rattle.pair_state.proofs.laws.the_folded_state_begins_a_log.Goals as goal

pub returns : goal.returns
returns c = folded_leads
