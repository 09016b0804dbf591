use Rattle.net_changes.proofs.NetLemmas.{net_within}
use Rattle.net_changes.proofs.laws.nets_within.Goals as goal

pub returns : goal.returns
returns c = net_within
