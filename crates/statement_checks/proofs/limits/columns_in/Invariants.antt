use Rattle.std.proofs.Common.{◌≡◌, ◌≤◌, take}
use Rattle.std.specs.List.{count_by}
use Rattle.statement_checks.specs.Declares.{is_column}
use Rattle.statement_checks.proofs.limits.columns_in.Given as goal

-- so far, and no more than were looked at
abbrev pub invariant-loop-item : goal.invariant-loop-item
invariant-loop-item l = record {
  counted : l.count ≡ count_by is_column (take l.item-index l.items);
  within : l.count ≤ l.item-index;
}
