use Rattle.std.proofs.Common.{◌≡◌, drop}
use Rattle.column_checks.specs.ByName.{first_beyond}
use Rattle.column_checks.proofs.by_name.first_beyond.Given as goal

-- the first among the columns that are left is the first of all
abbrev pub invariant-loop-given : goal.invariant-loop-given
invariant-loop-given l = first_beyond l.table (drop l.given-index l.columns) ≡ first_beyond l.table l.columns
