use Rattle.store_core.proofs.SparedLemmas.{keeps_epoch}
use Rattle.store_core.proofs.laws.a_log_that_goes_on_keeps_its_epoch.Goals as goal

pub returns : goal.returns
returns c = keeps_epoch
