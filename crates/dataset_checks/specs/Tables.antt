-- What the flows of a streaming table make of it.
use Rattle.std.specs.Prelude.{ℕ, ◌+◌, ◌==◌, if◌then◌else◌, length, Bool, List, [], ◌∷◌, ◌++◌, slice_get, Option, Some, None, Result, Ok, Err}
use Rattle.value_core.specs.declared.schema.Column.{Column}
use Rattle.sql_tree.specs.declared.statement.Select.{Select}
use Rattle.sql_tree.specs.declared.statement.SqlItem.{SqlItem}
use Rattle.sql_tree.specs.declared.statement.Statement.{Statement}
use Rattle.sql_tree.specs.declared.statement.Statement.TheVariants as statement
use Rattle.plan_core.specs.declared.flow.AppendFlow.{AppendFlow}
use Rattle.plan_core.specs.declared.plan.Body.TheVariants as body
use Rattle.plan_core.specs.declared.plan.Dataset.{Dataset}
use Rattle.statement_checks.specs.declared.fault.Break.{Break}
use Rattle.statement_checks.specs.declared.fault.CheckFault.{CheckFault}
use Rattle.statement_checks.specs.declared.fault.CheckFault.TheVariants.{NoFlow}
use Rattle.statement_checks.specs.Breaks.{broken}
use Rattle.origin_checks.specs.declared.resolved.Resolved.{Resolved}
use Rattle.column_checks.specs.Tables.{columns_declared}
use Rattle.dataset_checks.specs.declared.parts.DatasetParts.{DatasetParts}
use Rattle.dataset_checks.specs.declared.parts.FlowParts.{FlowParts}
use Rattle.dataset_checks.specs.declared.parts.FlowParts.TheVariants as parts
use Rattle.dataset_checks.specs.declared.parts.TableFlow.{TableFlow}
use Rattle.dataset_checks.specs.Ends.{◌>>=◌, at_statement}
use Rattle.dataset_checks.specs.Appending.{flow_by}
use Rattle.dataset_checks.specs.Feeding.{feed_by}
use Rattle.dataset_checks.specs.Filling.{are_mixed, flow_places}

-- ---- one flow

abbrev pub appends : Result TableFlow CheckFault → Result FlowParts CheckFault
appends made = do
  flow ← made
  Ok (parts.Appends flow)

abbrev pub keeps : Result DatasetParts CheckFault → Result FlowParts CheckFault
keeps made = do
  table ← made
  Ok (parts.Keeps table)

-- the own AS of a table, a flow of the table's name
abbrev pub own_parts : Bool → Option (List Column) → List Dataset → Option Resolved → List ℕ → Option Select → Result FlowParts CheckFault
own_parts mixed table sofar resolved name None = Err (NoFlow name)
own_parts mixed table sofar resolved name (Some select) = appends (flow_by mixed name select table sofar resolved)

abbrev pub parts_of_flow : Bool → Option (List Column) → List Dataset → Option Resolved → Statement → Result FlowParts CheckFault
parts_of_flow mixed table sofar resolved (statement.Table name items select) = own_parts mixed table sofar resolved name select
parts_of_flow mixed table sofar resolved (statement.View name items select) = Err (NoFlow name)
parts_of_flow mixed table sofar resolved (statement.Insert flow target select) = appends (flow_by mixed flow select table sofar resolved)
parts_of_flow mixed table sofar resolved (statement.Cdc flow feed) = keeps (feed_by mixed flow feed sofar resolved)

abbrev pub parts_if_there : Bool → Option (List Column) → List Dataset → Option Resolved → Option Statement → Result FlowParts CheckFault
parts_if_there mixed table sofar resolved None = Err (NoFlow [])
parts_if_there mixed table sofar resolved (Some flow) = parts_of_flow mixed table sofar resolved flow

-- what the flow at a place gives to a table whose columns may be known
abbrev pub parts_at : List Statement → List Resolved → List Dataset → Bool → Option (List Column) → ℕ → Result FlowParts Break
parts_at statements resolved sofar mixed table place = at_statement place (parts_if_there mixed table sofar (slice_get resolved place) (slice_get statements place))

-- ---- all flows

abbrev pub columns_or_none : Option (List Column) → List Column
columns_or_none None = []
columns_or_none (Some table) = table

-- a table that only gains rows
abbrev pub append_dataset : Option (List Column) → List AppendFlow → DatasetParts
append_dataset table flows = record { body = body.Append flows; columns = columns_or_none table; seen = columns_or_none table }

-- behind one flow: a change feed is the only one, and the first flow gives a table its columns where they aren't known
abbrev pub behind_flow : List AppendFlow → (Option (List Column) → List AppendFlow → Result DatasetParts Break) → FlowParts → Result DatasetParts Break
behind_flow flows others (parts.Keeps table) = Ok table
behind_flow flows others (parts.Appends given) = others (Some given.columns) (flows ++ given.flow ∷ [])

-- the flows at places, behind others into a table whose columns may be known; or the first break of them
abbrev pub flows_joined : List Statement → List Resolved → List Dataset → Bool → List ℕ → Option (List Column) → List AppendFlow → Result DatasetParts Break
flows_joined statements resolved sofar mixed [] table flows = Ok (append_dataset table flows)
flows_joined statements resolved sofar mixed (place ∷ more) table flows = do
  given ← parts_at statements resolved sofar mixed table place
  behind_flow flows (flows_joined statements resolved sofar mixed more) given

abbrev pub if_declared : List Column → Option (List Column)
if_declared [] = None
if_declared (first ∷ more) = Some (first ∷ more)

-- the columns that are known before the flows: the declared ones, if there are, and for a table with AS none
abbrev pub table_before : List SqlItem → Option Select → Option (List Column)
table_before items None = if_declared (columns_declared items)
table_before items (Some select) = None

-- a streaming table has a flow
abbrev pub flows_at : List Statement → List Resolved → List Dataset → ℕ → List ℕ → Option (List Column) → List ℕ → Result DatasetParts Break
flows_at statements resolved sofar place name table places =
    if length places == 0 then Err (broken (place + 1) (NoFlow name)) else flows_joined statements resolved sofar (are_mixed statements places) places table []

-- what fills the streaming table at this place, or the first break
abbrev pub table_parts : List Statement → List Resolved → List Dataset → ℕ → List ℕ → List SqlItem → Option Select → Result DatasetParts Break
table_parts statements resolved sofar place name items select = flows_at statements resolved sofar place name (table_before items select) (flow_places statements place name select)
