use Rattle.table_versions.proofs.VersionLemmas.{leads}
use Rattle.table_versions.proofs.laws.a_change_leads_on.Goals as goal

pub returns : goal.returns
returns c = leads
