use Rattle.std.proofs.Common.{◌≡◌, take}
use Rattle.column_checks.specs.Tables.{columns_declared}
use Rattle.column_checks.proofs.tables.columns_declared.Given as goal

-- the columns that are declared so far
abbrev pub invariant-loop-item : goal.invariant-loop-item
invariant-loop-item l = l.columns ≡ columns_declared (take l.item-index l.items)
