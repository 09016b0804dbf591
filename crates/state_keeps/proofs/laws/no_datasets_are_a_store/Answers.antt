use Rattle.state_keeps.proofs.StoreLemmas.{none_stored}
use Rattle.state_keeps.proofs.laws.no_datasets_are_a_store.Goals as goal

pub returns : goal.returns
returns c = none_stored
