use Rattle.value_core.proofs.ChangeLemmas.{net_form}
use Rattle.table_versions.proofs.ContentLemmas.{net_held}
use Rattle.table_versions.proofs.laws.a_net_change_finds_its_rows.Goals as goal

pub returns-clause-form : goal.returns-clause-form
returns-clause-form c = net_form

pub returns-clause-there : goal.returns-clause-there
returns-clause-there c = net_held
