use Rattle.state_keeps.proofs.StoreLemmas.{follows_keep}
use Rattle.state_keeps.proofs.laws.what_follows_keeps_a_store.Goals as goal

pub returns : goal.returns
returns c = follows_keep
