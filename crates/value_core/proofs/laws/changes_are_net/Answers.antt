use Rattle.value_core.proofs.ChangeLemmas.{net_form, net_effect, net_again}
use Rattle.value_core.proofs.laws.changes_are_net.Goals as goal

pub returns-clause-form : goal.returns-clause-form
returns-clause-form c = net_form

pub returns-clause-effect : goal.returns-clause-effect
returns-clause-effect c = net_effect

pub returns-clause-net : goal.returns-clause-net
returns-clause-net c = net_again
