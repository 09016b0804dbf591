use Rattle.std.proofs.Common.{◌≡◌, ◌++◌, length}
use Rattle.cdc_scd1.specs.Stamps.{cells_after}
use Rattle.cdc_current.proofs.cells.all_after.Given as goal

abbrev pub invariant-loop-value : goal.invariant-loop-value
invariant-loop-value l = l.made ++ cells_after l.ignore_null l.sequence l.left l.old ≡ cells_after l.ignore_null l.sequence l.values l.cells

abbrev pub decreases-loop-value : goal.decreases-loop-value
decreases-loop-value l = length l.left
