use Rattle.cdc_runs.proofs.ScanLemmas.{Ahead}
use Rattle.cdc_runs.proofs.run.run_end.Given as goal

abbrev pub invariant-loop-i : goal.invariant-loop-i
invariant-loop-i g l = Ahead l.tracked l.history l.fn.place l.end l.i l.last l.steps l.fn.steps
