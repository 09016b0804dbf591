use Rattle.std.proofs.Common.{◌≡◌, ◌+◌, drop}
use Rattle.table_versions.specs.Versions.{rows_in}
use Rattle.table_versions.proofs.rows.count_changes.Given as goal

-- the looks so far, and those of the changes that are left
abbrev pub invariant-loop-change : goal.invariant-loop-change
invariant-loop-change g l = l.steps + rows_in (drop l.change-index l.changes) ≡ l.fn.steps + rows_in l.changes
