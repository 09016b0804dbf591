use Rattle.std.proofs.Common.{◌≡◌, ◌≤◌, take}
use Rattle.std.specs.List.{count_by}
use Rattle.statement_checks.specs.Declares.{is_expectation}
use Rattle.statement_checks.proofs.limits.expectations_in.Given as goal

-- so far, and no more than were looked at
abbrev pub invariant-loop-item : goal.invariant-loop-item
invariant-loop-item l = record {
  counted : l.count ≡ count_by is_expectation (take l.item-index l.items);
  within : l.count ≤ l.item-index;
}
