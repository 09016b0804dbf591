use Rattle.std.proofs.Common.{◌≡◌, drop}
use Rattle.state_model.specs.Follows.{all_fit}
use Rattle.payload_parts.proofs.rows.all_fit.Given as goal

abbrev pub invariant-loop-row : goal.invariant-loop-row
invariant-loop-row l = all_fit l.columns (drop l.row-index l.rows) ≡ all_fit l.columns l.rows
