use Rattle.cdc_laws.proofs.MovedLemmas.{touched_moved}
use Rattle.cdc_laws.proofs.laws.what_is_touched_is_moved.Goals as goal

pub returns : goal.returns
returns c = touched_moved
