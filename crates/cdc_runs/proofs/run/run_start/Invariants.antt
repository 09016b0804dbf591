use Rattle.cdc_runs.proofs.ScanLemmas.{Back}
use Rattle.cdc_runs.proofs.run.run_start.Given as goal

abbrev pub invariant-loop-start : goal.invariant-loop-start
invariant-loop-start g l = Back l.tracked l.history l.start l.fn.place l.first l.steps l.fn.steps

abbrev pub decreases-loop-start : goal.decreases-loop-start
decreases-loop-start g l = l.start
