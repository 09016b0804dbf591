use Rattle.std.proofs.Common.{◌≡◌, drop}
use Rattle.value_core.specs.Order.{same_row}
use Rattle.flow_model.specs.Feed.{pick}
use Rattle.cdc_runs.proofs.intervals.agrees_with.Given as goal

abbrev pub invariant-loop-at : goal.invariant-loop-at
invariant-loop-at l = same_row (pick (drop l.at-index l.tracked) l.left) (pick (drop l.at-index l.tracked) l.right) ≡ same_row (pick l.tracked l.left) (pick l.tracked l.right)
