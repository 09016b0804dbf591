use Rattle.std.proofs.Common.{◌≡◌, ◌++◌, map, length}
use Rattle.std.specs.Prelude.{option_copied, option_to_list}
use Rattle.flow_model.specs.History.{interval_row}
use Rattle.cdc_runs.specs.Entries.{moments_of}
use Rattle.cdc_runs.specs.Runs.{ends_in, left_open}
use Rattle.cdc_runs.proofs.intervals.end_runs.Given as goal

abbrev pub invariant-loop-entry : goal.invariant-loop-entry
invariant-loop-entry l = (l.rows ++ map interval_row (ends_in l.tracked l.begun (moments_of l.left) (moments_of (option_to_list (option_copied l.next))))
    ≡ l.fn.rows ++ map interval_row (ends_in l.tracked l.fn.since (moments_of l.stretch) (moments_of (option_to_list (option_copied l.next)))))
    × (left_open l.tracked l.begun (moments_of l.left) (moments_of (option_to_list (option_copied l.next))) ≡ left_open l.tracked l.fn.since (moments_of l.stretch) (moments_of (option_to_list (option_copied l.next))))

abbrev pub decreases-loop-entry : goal.decreases-loop-entry
decreases-loop-entry l = length l.left
