use Rattle.landing_history.proofs.ReadingLemmas.{reach_at_ends}
use Rattle.landing_history.proofs.laws.reach_keeps_ends.Goals as goal

pub returns : goal.returns
returns c = reach_at_ends
