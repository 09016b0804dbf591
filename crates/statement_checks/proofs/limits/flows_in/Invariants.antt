use Rattle.std.proofs.Common.{◌≡◌, ◌≤◌, take}
use Rattle.std.specs.List.{count_by}
use Rattle.statement_checks.specs.Limits.{is_flow}
use Rattle.statement_checks.proofs.limits.flows_in.Given as goal

-- so far, and no more than were looked at
abbrev pub invariant-loop-statement : goal.invariant-loop-statement
invariant-loop-statement l = record {
  counted : l.count ≡ count_by is_flow (take l.statement-index l.statements);
  within : l.count ≤ l.statement-index;
}
