use Rattle.state_steps.proofs.FreshLemmas.{is_fresh}
use Rattle.state_steps.proofs.RunLemmas.{runs_end}
use Rattle.state_steps.proofs.laws.flows_that_run_level_by_level_end.Goals as goal

pub returns : goal.returns
returns c = λ landed parts order state last stands levels all runs.
    let both = runs_end landed parts order state last stands levels all runs in (both.0, both.1, is_fresh landed parts last both.0 both.1)
