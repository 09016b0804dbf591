use Rattle.std.proofs.Common.{◌≡◌, ◌++◌}
use Rattle.std.specs.Map.{values_of}
use Rattle.cdc_current.specs.Keeping.{rows_under}
use Rattle.cdc_current.proofs.rows.all_rows.Given as goal

abbrev pub invariant-loop-state : goal.invariant-loop-state
invariant-loop-state l = l.rows ++ rows_under l.truncated l.state-iterator ≡ rows_under l.truncated (values_of l.keys.entries)
