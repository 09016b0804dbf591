use Rattle.std.proofs.Common.{◌≡◌, drop}
use Rattle.store_state.specs.Follows.{is_row_of}
use Rattle.store_state.proofs.fits_take.is_row_of.Given as goal

abbrev pub invariant-loop-column : goal.invariant-loop-column
invariant-loop-column l = is_row_of (drop l.column-index l.columns) l.values ≡ is_row_of l.columns l.row
