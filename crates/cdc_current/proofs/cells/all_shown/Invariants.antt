use Rattle.std.proofs.Common.{◌≡◌, map, take}
use Rattle.cdc_scd1.specs.Stamps.{shown}
use Rattle.cdc_current.proofs.cells.all_shown.Given as goal

abbrev pub invariant-loop-cell : goal.invariant-loop-cell
invariant-loop-cell l = l.row ≡ map (shown l.deleted l.truncated) (take l.cell-index l.cells)
