use Rattle.std.proofs.Common.{◌≡◌, length}
use Rattle.column_checks.specs.Tables.{first_unlike}
use Rattle.column_checks.proofs.tables.first_unlike.Given as goal

-- the columns that are left are unlike where all are
abbrev pub invariant-loop-wanted : goal.invariant-loop-wanted
invariant-loop-wanted l = first_unlike l.declared l.table ≡ first_unlike l.fn.declared l.fn.table

abbrev pub decreases-loop-wanted : goal.decreases-loop-wanted
decreases-loop-wanted l = length l.declared
