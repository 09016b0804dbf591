use Rattle.std.proofs.Common.{◌≡◌, ◌≤◌, take, length}
use Rattle.name_checks.specs.Edges.{dataset_names}
use Rattle.name_checks.proofs.edges.dataset_names.Given as goal

-- the names so far, and no more than statements that were looked at
abbrev pub invariant-loop-statement : goal.invariant-loop-statement
invariant-loop-statement l = record {
  names : l.names ≡ dataset_names (take l.statement-index l.statements);
  few : length l.names ≤ l.statement-index;
}
