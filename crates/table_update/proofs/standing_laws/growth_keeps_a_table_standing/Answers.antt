use Rattle.table_update.proofs.StandSteps.{still_stands}
use Rattle.table_update.proofs.standing_laws.growth_keeps_a_table_standing.Goals as goal

pub returns : goal.returns
returns c = still_stands
