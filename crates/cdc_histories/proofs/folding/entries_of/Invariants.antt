use Rattle.std.proofs.Common.{◌≡◌, ◌++◌, None, length}
use Rattle.cdc_scd2.specs.Cache.{last_state}
use Rattle.cdc_histories.specs.Building.{entries_from}
use Rattle.cdc_histories.proofs.folding.entries_of.Given as goal

abbrev pub invariant-loop-event : goal.invariant-loop-event
invariant-loop-event l = l.entries.items ++ entries_from l.ignore_null (last_state None l.entries.items) l.left ≡ entries_from l.ignore_null None l.events

abbrev pub decreases-loop-event : goal.decreases-loop-event
decreases-loop-event l = length l.left
