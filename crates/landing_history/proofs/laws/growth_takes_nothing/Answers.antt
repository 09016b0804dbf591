use Rattle.landing_history.proofs.GrowthLemmas.{taken_kept, ends_kept}
use Rattle.landing_history.proofs.laws.growth_takes_nothing.Goals as goal

pub returns-clause-same : goal.returns-clause-same
returns-clause-same c = taken_kept

pub returns-clause-ends : goal.returns-clause-ends
returns-clause-ends c = ends_kept
