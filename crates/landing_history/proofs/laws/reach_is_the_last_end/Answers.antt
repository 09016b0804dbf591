use Rattle.landing_history.proofs.ReachLemmas.{reach_keeps, reach_last}
use Rattle.landing_history.proofs.laws.reach_is_the_last_end.Goals as goal

pub returns-clause-listed : goal.returns-clause-listed
returns-clause-listed c = reach_last

pub returns-clause-others : goal.returns-clause-others
returns-clause-others c = reach_keeps
