use Rattle.std.proofs.Common.{◌≡◌, drop}
use Rattle.store_state.specs.Follows.{all_fit}
use Rattle.store_state.proofs.fits_take.all_fit.Given as goal

abbrev pub invariant-loop-row : goal.invariant-loop-row
invariant-loop-row l = all_fit l.columns (drop l.row-index l.rows) ≡ all_fit l.columns l.rows
