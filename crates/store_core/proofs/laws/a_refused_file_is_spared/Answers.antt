use Rattle.store_core.proofs.SparedLemmas.{refused_spared, live_spared}
use Rattle.store_core.proofs.laws.a_refused_file_is_spared.Goals as goal

pub returns : goal.returns
returns c = record { refused = refused_spared; live = live_spared }
