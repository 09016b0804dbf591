use Rattle.rows_between.proofs.GrowthLemmas.{growth_keeps}
use Rattle.rows_between.proofs.laws.growth_keeps_the_rows_between.Goals as goal

pub returns : goal.returns
returns c = growth_keeps
