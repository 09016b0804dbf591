use Rattle.std.proofs.Common.{◌≡◌, drop}
use Rattle.state_model.specs.Follows.{is_row_of}
use Rattle.payload_parts.proofs.rows.is_row_of.Given as goal

abbrev pub invariant-loop-column : goal.invariant-loop-column
invariant-loop-column l = is_row_of (drop l.column-index l.columns) l.values ≡ is_row_of l.columns l.row
