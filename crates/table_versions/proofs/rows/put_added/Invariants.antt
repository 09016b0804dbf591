use Rattle.std.proofs.Common.{◌≡◌, ◌++◌, drop}
use Rattle.net_changes.specs.Chains.{all_added}
use Rattle.table_versions.proofs.rows.put_added.Given as goal

-- with the rows of the changes that are left, they are all
abbrev pub invariant-loop-change : goal.invariant-loop-change
invariant-loop-change l = l.into ++ all_added (drop l.change-index l.changes) ≡ l.fn.into ++ all_added l.changes
