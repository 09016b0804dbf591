use Rattle.cdc_current.proofs.OwnLemmas.{own_moments}
use Rattle.cdc_current.proofs.laws.events_without_ties_have_own_moments.Goals as goal

pub returns : goal.returns
returns c = own_moments
