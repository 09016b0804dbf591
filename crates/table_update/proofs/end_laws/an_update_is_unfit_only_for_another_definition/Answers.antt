use Rattle.table_update.proofs.FitLemmas.{unfit_for_other, unfit_for_standing}
use Rattle.table_update.proofs.end_laws.an_update_is_unfit_only_for_another_definition.Goals as goal

pub returns : goal.returns
returns c = record { stored = unfit_for_other; standing = unfit_for_standing }
