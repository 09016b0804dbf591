use Rattle.cdc_scd2.proofs.KeyLemmas.{own_key}
use Rattle.cdc_scd2.proofs.laws.an_event_changes_its_key_alone.Goals as goal

pub returns : goal.returns
returns c = own_key
