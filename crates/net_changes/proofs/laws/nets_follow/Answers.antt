use Rattle.net_changes.proofs.NetLemmas.{net_follows}
use Rattle.net_changes.proofs.laws.nets_follow.Goals as goal

pub returns : goal.returns
returns c = net_follows
