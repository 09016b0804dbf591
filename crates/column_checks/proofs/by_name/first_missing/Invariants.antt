use Rattle.std.proofs.Common.{◌≡◌, drop}
use Rattle.column_checks.specs.ByName.{first_missing}
use Rattle.column_checks.proofs.by_name.first_missing.Given as goal

-- the first among the columns that are left is the first of all
abbrev pub invariant-loop-wanted : goal.invariant-loop-wanted
invariant-loop-wanted l = first_missing l.columns (drop l.wanted-index l.table) ≡ first_missing l.columns l.table
