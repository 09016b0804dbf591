use Rattle.std.proofs.Common.{◌≡◌, ◌++◌, drop}
use Rattle.net_changes.specs.Chains.{all_added}
use Rattle.flow_news.proofs.source.added.Given as goal

-- with the rows of the changes that are left, they are all
abbrev pub invariant-loop-change : goal.invariant-loop-change
invariant-loop-change l = l.rows ++ all_added (drop l.change-index l.changes) ≡ all_added l.changes
