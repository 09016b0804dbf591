use Rattle.cdc_scd2.proofs.MiddleLemmas.{middle_net}
use Rattle.cdc_scd2.proofs.laws.changes_stay_in_the_middle.Goals as goal

pub returns : goal.returns
returns c = middle_net
