use Rattle.store_fitness.proofs.BatchLemmas.{stays_ready}
use Rattle.store_fitness.proofs.laws.a_batch_keeps_a_store_ready.Goals as goal

pub returns : goal.returns
returns c plan state batch = stays_ready plan state batch (c.a_state_comes_of_payloads.ensures.stored state)
