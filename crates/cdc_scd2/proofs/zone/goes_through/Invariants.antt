use Rattle.std.proofs.Common.{◌≡◌, length}
use Rattle.std.specs.Prelude.{option_copied, option_to_list}
use Rattle.cdc_runs.specs.Entries.{moments_of}
use Rattle.cdc_runs.specs.Runs.{goes_through}
use Rattle.cdc_scd2.proofs.zone.goes_through.Given as goal

abbrev pub invariant-loop-entry : goal.invariant-loop-entry
invariant-loop-entry l = goes_through l.tracked (moments_of l.left) (moments_of (option_to_list (option_copied l.next))) ≡ goes_through l.tracked (moments_of l.entries) (moments_of (option_to_list (option_copied l.next)))

abbrev pub decreases-loop-entry : goal.decreases-loop-entry
decreases-loop-entry l = length l.left
