use Rattle.rows_between.proofs.GrowthLemmas.{come_behind}
use Rattle.rows_between.proofs.laws.rows_between_come_behind.Goals as goal

pub returns : goal.returns
returns c = come_behind
