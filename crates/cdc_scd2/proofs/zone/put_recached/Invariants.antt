use Rattle.std.proofs.Common.{◌≡◌, ◌++◌, drop}
use Rattle.cdc_scd2.specs.Cache.{recached}
use Rattle.cdc_scd2.proofs.zone.put_recached.Given as goal

abbrev pub invariant-loop-row : goal.invariant-loop-row
invariant-loop-row l = l.into.items ++ recached l.left (drop l.row-index l.rows) ≡ l.fn.into.items ++ recached l.entries l.rows
