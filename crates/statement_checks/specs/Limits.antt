-- The limits that a statement keeps.
use Rattle.std.specs.Prelude.{ℕ, ◌+◌, nat_lt, Bool, if◌then◌else◌, List, [], ◌∷◌, length, Option, Some, None, is_some}
use Rattle.std.specs.List.{count_by}
use Rattle.sql_tree.specs.declared.statement.Statement.{Statement}
use Rattle.statement_checks.specs.declared.fault.CheckFault.{CheckFault}
use Rattle.statement_checks.specs.declared.fault.CheckFault.TheVariants.{TooMany}
use Rattle.statement_checks.specs.Declares.{dataset_name, flow_name, items_of, is_column, is_expectation, keys_of, parts_of}

-- nothing, or how a check is broken
abbrev pub Check : Type 0
Check = Option CheckFault

-- there are at most so many
abbrev pub few : ℕ → ℕ → Check
few limit count = if nat_lt limit count then Some (TooMany (limit + 1)) else None

-- with one more there are at most so many
abbrev pub few_with_one : ℕ → ℕ → Check
few_with_one limit others = if nat_lt others limit then None else Some (TooMany (limit + 1))

abbrev pub is_dataset : Statement → Bool
is_dataset statement = is_some (dataset_name statement)

abbrev pub is_flow : Statement → Bool
is_flow statement = is_some (flow_name statement)

-- a dataset is not behind 256 others
abbrev pub few_datasets : List Statement → Statement → Check
few_datasets before statement = if is_dataset statement then few_with_one 256 (count_by is_dataset before) else None

-- a flow is not behind 1,024 others
abbrev pub few_flows : List Statement → Statement → Check
few_flows before statement = if is_flow statement then few_with_one 1024 (count_by is_flow before) else None

-- at most 256 columns are declared
abbrev pub few_columns : Statement → Check
few_columns statement = few 256 (count_by is_column (items_of statement))

-- there are at most 16 keys
abbrev pub few_keys : Statement → Check
few_keys statement = few 16 (length (keys_of statement))

-- a sequence has at most 8 parts
abbrev pub few_parts : Statement → Check
few_parts statement = few 8 (length (parts_of statement))

-- at most 32 expectations are declared
abbrev pub few_expectations : Statement → Check
few_expectations statement = few 32 (count_by is_expectation (items_of statement))

-- of the limits, in their order
abbrev pub limit_checks : List Statement → Statement → List Check
limit_checks before statement =
    few_datasets before statement ∷
    few_flows before statement ∷
    few_columns statement ∷
    few_keys statement ∷
    few_parts statement ∷
    few_expectations statement ∷ []
