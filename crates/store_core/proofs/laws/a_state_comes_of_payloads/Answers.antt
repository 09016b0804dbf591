use Rattle.store_core.proofs.ReachLemmas.{state_reached}
use Rattle.store_core.proofs.laws.a_state_comes_of_payloads.Goals as goal

pub returns : goal.returns
returns c = record { reached = state_reached }
