use Rattle.table_update.proofs.StandFresh.{update_refreshes}
use Rattle.table_update.proofs.standing_laws.a_completed_update_is_a_full_refresh.Goals as goal

pub returns : goal.returns
returns c = update_refreshes
