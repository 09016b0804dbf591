use Rattle.net_changes.proofs.ChainLemmas.{chain_net}
use Rattle.net_changes.proofs.laws.changes_have_one_net.Goals as goal

pub returns : goal.returns
returns c = chain_net
