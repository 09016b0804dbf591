use Rattle.std.proofs.Common.{◌≡◌, ◌++◌, drop}
use Rattle.flow_model.specs.Current.{overlaid}
use Rattle.cdc_runs.proofs.columns.overlay.Given as goal

abbrev pub invariant-loop-value : goal.invariant-loop-value
invariant-loop-value l = l.row ++ overlaid l.old (drop l.value-index l.columns) ≡ overlaid l.fn.before l.columns
