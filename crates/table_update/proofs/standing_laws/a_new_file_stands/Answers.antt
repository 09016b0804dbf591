use Rattle.table_update.proofs.StandNew.{new_stands}
use Rattle.table_update.proofs.standing_laws.a_new_file_stands.Goals as goal

pub returns : goal.returns
returns c = new_stands
