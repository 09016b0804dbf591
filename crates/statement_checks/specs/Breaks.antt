-- The first check that a statement breaks by what it declares.
use Rattle.std.specs.Prelude.{ℕ, ◌+◌, List, [], ◌∷◌, ◌++◌, length, Option, None, option_map}
use Rattle.std.specs.Option.{option_or}
use Rattle.sql_tree.specs.declared.statement.Statement.{Statement}
use Rattle.statement_checks.specs.declared.fault.Break.{Break}
use Rattle.statement_checks.specs.declared.fault.CheckFault.{CheckFault}
use Rattle.statement_checks.specs.Limits.{Check, limit_checks}
use Rattle.statement_checks.specs.Duplicates.{name_checks}
use Rattle.statement_checks.specs.Repeats.{first_of}

-- the first check that a statement breaks behind others: the limits, and then the names
abbrev pub statement_fault : List Statement → Statement → Check
statement_fault before statement = option_or (first_of (limit_checks before statement)) (first_of (name_checks before statement))

-- a fault in the statement of this number
abbrev pub broken : ℕ → CheckFault → Break
broken number fault = record { statement = number; fault = fault }

-- the first break behind statements; they are numbered from 1
abbrev pub break_behind : List Statement → List Statement → Option Break
break_behind before [] = None
break_behind before (first ∷ more) = option_or (option_map (broken (length before + 1)) (statement_fault before first)) (break_behind (before ++ first ∷ []) more)

-- the first break in statements
abbrev pub first_break : List Statement → Option Break
first_break = break_behind []
