use Rattle.table_update.proofs.StandFronts.{fronts_stand}
use Rattle.table_update.proofs.StandingLemmas.{any_stands, settled_stands}
use Rattle.table_update.proofs.standing_laws.an_update_keeps_a_table_standing.Goals as goal

pub returns-clause-fronts : goal.returns-clause-fronts
returns-clause-fronts c = fronts_stand

pub returns-clause-images : goal.returns-clause-images
returns-clause-images c = settled_stands

pub returns-clause-moments : goal.returns-clause-moments
returns-clause-moments c = any_stands (Unit {0})
