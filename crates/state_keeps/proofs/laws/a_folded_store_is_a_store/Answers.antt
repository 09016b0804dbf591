use Rattle.state_keeps.proofs.StoreLemmas.{folds_keep}
use Rattle.state_keeps.proofs.laws.a_folded_store_is_a_store.Goals as goal

pub returns : goal.returns
returns c = folds_keep
