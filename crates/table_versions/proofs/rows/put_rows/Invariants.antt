use Rattle.std.proofs.Common.{◌≡◌, ◌++◌, take}
use Rattle.table_versions.proofs.rows.put_rows.Given as goal

abbrev pub invariant-loop-row : goal.invariant-loop-row
invariant-loop-row l = l.into ≡ l.fn.into ++ take l.row-index l.rows
