use Rattle.std.proofs.Common.{◌≡◌, ◌+◌, ◌≤◌, ◌++◌, drop, take, length}
use Rattle.cdc_scd2.specs.Cache.{recached}
use Rattle.cdc_scd2.proofs.splicing.set_columns.Given as goal

abbrev pub invariant-loop-row : goal.invariant-loop-row
invariant-loop-row l = (take l.from l.history ++ recached (drop l.from l.history) l.left.items ≡ take l.from l.fn.history ++ recached (drop l.from l.fn.history) l.fn.rows.items) × (l.from + length l.left.items ≤ length l.history)

abbrev pub decreases-loop-row : goal.decreases-loop-row
decreases-loop-row l = length l.left.items
