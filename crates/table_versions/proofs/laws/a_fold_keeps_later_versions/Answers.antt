use Rattle.table_versions.proofs.VersionLemmas.{keeps_later}
use Rattle.table_versions.proofs.laws.a_fold_keeps_later_versions.Goals as goal

pub returns : goal.returns
returns c = keeps_later
