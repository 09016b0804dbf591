-- The expectations that a dataset declares, over its columns. Databricks SQL reference, CREATE STREAMING TABLE.
use Rattle.std.specs.Prelude.{ℕ, if◌then◌else◌, List, map, flat_map, Option, Some, None, is_some, option_map, option_to_list, Result}
use Rattle.std.specs.Option.{option_or}
use Rattle.value_core.specs.declared.schema.Column.{Column}
use Rattle.sql_tree.specs.declared.expr.SqlExpr.{SqlExpr}
use Rattle.sql_tree.specs.declared.statement.SqlAction.{SqlAction}
use Rattle.sql_tree.specs.declared.statement.SqlAction.TheVariants as written
use Rattle.sql_tree.specs.declared.statement.SqlItem.{SqlItem}
use Rattle.sql_tree.specs.declared.statement.SqlItem.TheVariants as item
use Rattle.row_expr.specs.declared.expr.Expr.{Expr}
use Rattle.expr_typing.specs.Typing.{first_unknown}
use Rattle.plan_core.specs.declared.expectation.Action.{Action}
use Rattle.plan_core.specs.declared.expectation.Action.TheVariants as action
use Rattle.plan_core.specs.declared.expectation.Expectation.{Expectation}
use Rattle.statement_checks.specs.declared.fault.CheckFault.{CheckFault}
use Rattle.statement_checks.specs.declared.fault.CheckFault.TheVariants.{UnknownName, TypeMismatch}
use Rattle.statement_checks.specs.Limits.{Check}
use Rattle.statement_checks.specs.Repeats.{first_of}
use Rattle.select_checks.specs.Kinded.{boolean_tree}
use Rattle.select_checks.specs.Streams.{given_unless}

abbrev pub action_of : SqlAction → Action
action_of written.Warn = action.Warn
action_of written.DropRow = action.DropRow
action_of written.FailUpdate = action.FailUpdate

abbrev pub expectation_with : List ℕ → SqlAction → Expr → Expectation
expectation_with name said test = record { name = name; test = test; action = action_of said }

-- the expectation that an item declares, where its test is BOOLEAN over the columns
abbrev pub expectation_of : List Column → SqlItem → Option Expectation
expectation_of columns (item.Column name type) = None
expectation_of columns (item.Expect name test said) = option_map (expectation_with name said) (boolean_tree columns test)

abbrev pub test_is_boolean : List Column → SqlExpr → Check
test_is_boolean columns test = if is_some (boolean_tree columns test) then None else Some TypeMismatch

-- each name in the test of an expectation is that of a column, and the test is BOOLEAN
abbrev pub expectation_fault : List Column → SqlItem → Check
expectation_fault columns (item.Column name type) = None
expectation_fault columns (item.Expect name test said) = option_or (option_map UnknownName (first_unknown columns test)) (test_is_boolean columns test)

abbrev pub expectations_given : List Column → List SqlItem → List Expectation
expectations_given columns items = flat_map (λ each. option_to_list (expectation_of columns each)) items

-- the expectations that items declare over columns, in order, or the fault of the first that breaks a check
abbrev pub expectations_over : List SqlItem → List Column → Result (List Expectation) CheckFault
expectations_over items columns = given_unless (first_of (map (expectation_fault columns) items)) (expectations_given columns items)
