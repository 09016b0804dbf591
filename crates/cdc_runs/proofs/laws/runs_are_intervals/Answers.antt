use Rattle.cdc_runs.proofs.RunLemmas.{runs_are}
use Rattle.cdc_runs.proofs.laws.runs_are_intervals.Goals as goal

pub returns : goal.returns
returns c = runs_are
