use Rattle.cdc_runs.proofs.StandLemmas.{carries}
use Rattle.cdc_runs.proofs.laws.changes_carry_on.Goals as goal

pub returns : goal.returns
returns c = carries
