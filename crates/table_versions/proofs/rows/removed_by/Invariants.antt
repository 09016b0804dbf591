use Rattle.std.proofs.Common.{◌≡◌, ◌++◌, drop}
use Rattle.net_changes.specs.Chains.{all_removed}
use Rattle.table_versions.proofs.rows.removed_by.Given as goal

-- with the rows of the changes that are left, they are all
abbrev pub invariant-loop-change : goal.invariant-loop-change
invariant-loop-change l = l.rows ++ all_removed (drop l.change-index l.changes) ≡ all_removed l.changes
